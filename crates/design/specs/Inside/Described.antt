-- What contracts ask of a head.
use Rattle.std.specs.Prelude.{◌≡◌, false}
use Rattle.design.specs.Limits.{broken, Head}

-- a head within the limits
abbrev pub Limits : Head → Type 0
Limits h = broken h.m h.s h.k ≡ false
