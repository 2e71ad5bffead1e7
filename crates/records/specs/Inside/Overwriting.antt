-- Writing over a part of the output.
use Rattle.std.specs.Prelude.{ℕ, ◌+◌, List, ◌++◌, length, take, drop}

-- l with the bytes b written over it from a place on
unfoldable pub overwrite : List ℕ → ℕ → List ℕ → List ℕ
overwrite l at b = take at l ++ b ++ drop (at + length b) l
