-- Maps of the numbers below n: whether a value repeats.
use Rattle.std.specs.Prelude.{ℕ, ◌<◌, ◌≡◌, Bool, eqb}
use Rattle.finite.specs.Tests.{any}

-- f takes no value twice
abbrev pub Injective : ℕ → (ℕ → ℕ) → Type 0
Injective n f = (i k : ℕ) → i < n → k < n → f i ≡ f k → i ≡ k

-- the value at i is one that f takes below i too
unfoldable pub met_before : (ℕ → ℕ) → ℕ → Bool
met_before f i = any i (λ j. eqb (f j) (f i))

-- some two of f 0, f 1, .. f (n - 1) are equal
unfoldable pub repeats : ℕ → (ℕ → ℕ) → Bool
repeats n f = any n (met_before f)
