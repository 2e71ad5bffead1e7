-- Functions of s points, as the degree bound speaks of them.
use Rattle.std.specs.Prelude.{ℕ, ◌^◌, ◌<◌, ◌≡◌, List, length, get_or, set}

-- s points of n variables
pub record Points (n s : ℕ) (xs : List ℕ) : Type 0 where
  pub size : length xs ≡ s
  pub below : (j : ℕ) → j < s → get_or xs j 0 < 2 ^ n

-- a function of s points does not depend on point j
abbrev pub IgnoresPoint : ℕ → ℕ → ℕ → (List ℕ → ℕ) → Type 0
IgnoresPoint n s j F = (xs : List ℕ) → Points n s xs → (v : ℕ) → v < 2 ^ n → F (set xs j v) ≡ F xs
