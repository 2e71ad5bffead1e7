-- The variables of a share, for the test of non-completeness by term lists. Only contracts inside need them: no promise rests on them.
use Rattle.std.specs.Prelude.{ℕ, ◌-◌, ◌*◌, ◌^◌, Bool}
use Rattle.finite.specs.Tests.{all}
use Rattle.anf.specs.Terms.{named}

-- the variables of share j, as a set
unfoldable pub variables : ℕ → ℕ → ℕ
variables w j = (2 ^ w - 1) * 2 ^ (w * j)

-- the set u of variables has one of every share
unfoldable pub names_every : ℕ → ℕ → ℕ → Bool
names_every w s u = all s (λ e. named (variables w e) u)
