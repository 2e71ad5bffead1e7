-- What a placement that loads does, and how long a list by it may be.
use Rattle.std.specs.Prelude.{ℕ, ◌^◌, ◌<◌, ◌≡◌, false}
use Rattle.finite.specs.Sets.{has}

-- where a share is not chosen, the component is one of the s, and its share is not chosen
pub record Outside (s : ℕ) (place : ℕ → ℕ) : Type 0 where
  pub some : (J : ℕ) → J < 2 ^ s → (c : ℕ) → c < s → has J c ≡ false → place J < s
  pub outside : (J : ℕ) → J < 2 ^ s → (c : ℕ) → c < s → place J ≡ c → has J c ≡ false

-- the greatest number of terms of a list: s^m within the limits
abbrev pub most_terms : ℕ
most_terms = 1024
