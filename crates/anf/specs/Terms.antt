-- Normal form (RULES 2): terms, lists of terms and their order. A term is the set of its variables, and is 1 at a point that has them all.
use Rattle.std.specs.Prelude.{ℕ, zero, suc, ◌+◌, ◌^◌, ◌<◌, ◌≡◌, ◌≢◌, Bool, true, false, not, ◌||◌, List, [], ◌∷◌, ◌++◌, eqb, ltb, length, get_or}
use Rattle.std.specs.Int.Bits.{bit_and, bit_xor}
use Rattle.finite.specs.Tests.{pick}
use Rattle.finite.specs.Sets.{subset}

-- the value of a list at the point x: the sum of its terms there
unfoldable pub value_at : List ℕ → ℕ → ℕ
value_at [] x = 0
value_at (t ∷ ts) x = bit_xor (pick (subset t x) 1 0) (value_at ts x)

-- the order of terms in a list: a stands before b
unfoldable pub before : ℕ → ℕ → Bool
before a b = ltb a b

-- a strictly rising list of terms in n variables
pub record IsTermList (n : ℕ) (ts : List ℕ) : Type 0 where
  pub below : (j : ℕ) → j < length ts → get_or ts j 0 < 2 ^ n
  pub rising : (j : ℕ) → j + 1 < length ts → before (get_or ts j 0) (get_or ts (j + 1) 0) ≡ true

-- a term names a variable of the group
abbrev pub named : ℕ → ℕ → Bool
named group t = not (eqb (bit_and t group) 0)

-- some term of a list does
unfoldable pub names : ℕ → List ℕ → Bool
names group [] = false
names group (t ∷ ts) = named group t || names group ts

-- x without the variables of the group
abbrev pub clear : ℕ → ℕ → ℕ
clear x group = bit_xor x (bit_and x group)

-- f depends on the group: some change of those bits alone changes its value
pub record Depends (n group : ℕ) (f : ℕ → ℕ) : Type 0 where
  pub x : ℕ
  pub y : ℕ
  pub x_below : x < 2 ^ n
  pub y_below : y < 2 ^ n
  pub alone : clear x group ≡ clear y group
  pub changes : f x ≢ f y

-- the list of the numbers below n that pass p, rising
unfoldable pub passing : ℕ → (ℕ → Bool) → List ℕ
passing zero p = []
passing (suc n) p = passing n p ++ pick (p n) (n ∷ []) []
