-- Tables as lists of entries (RULES 1.4).
use Rattle.std.specs.Prelude.{ℕ, ◌^◌, ◌<◌, ◌≡◌, Bool, List, ltb, length, get_or}
use Rattle.finite.specs.Tests.{all}
use Rattle.finite.specs.Maps.{Injective}

-- the entry of a table at x
abbrev pub entry : List ℕ → ℕ → ℕ
entry t x = get_or t x 0

-- every entry is below the bound
unfoldable pub entries_below : List ℕ → ℕ → Bool
entries_below t bound = all (length t) (λ x. ltb (entry t x) bound)

-- 2^m entries of m bits
pub record TableFits (m : ℕ) (t : List ℕ) : Type 0 where
  pub size : length t ≡ 2 ^ m
  pub below : (x : ℕ) → x < 2 ^ m → entry t x < 2 ^ m

-- a table of 2^m entries repeats none
abbrev pub Permutation : ℕ → List ℕ → Type 0
Permutation m t = Injective (2 ^ m) (entry t)
