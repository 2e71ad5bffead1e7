-- The expansion as the code makes it: products in the order in which they come.
use Rattle.std.specs.Prelude.{ℕ, zero, suc, ◌+◌, ◌*◌, ◌^◌, List, [], ◌∷◌, ◌++◌, eqb}
use Rattle.std.specs.Int.Bits.{bit_or}
use Rattle.finite.specs.Tests.{pick}
use Rattle.finite.specs.Sets.{has}

-- f 0, f 1, .. f (n - 1), appended
unfoldable pub appended : ℕ → (ℕ → List ℕ) → List ℕ
appended zero f = []
appended (suc n) f = appended n f ++ f n

-- the product p, for which the shares J are chosen, if it goes to component c
unfoldable pub ending : (ℕ → ℕ) → ℕ → ℕ → ℕ → List ℕ
ending place c p J = pick (eqb (place J) c) (p ∷ []) []

-- the products of the variables of u below a number, on top of p, for which the shares J are chosen so far, that go to component c
unfoldable pub emitted : ℕ → ℕ → (ℕ → ℕ) → ℕ → ℕ → ℕ → ℕ → ℕ → List ℕ
emitted m s place u c zero p J = ending place c p J
emitted m s place u c (suc v) p J =
    pick (has u v) (appended s (λ j. emitted m s place u c v (bit_or p (2 ^ (m * j + v))) (bit_or J (2 ^ j)))) (emitted m s place u c v p J)

-- what the term u brings to the list of bit b of component c, where its coefficient word has bit b
abbrev pub brought : ℕ → ℕ → (ℕ → ℕ) → ℕ → ℕ → ℕ → ℕ → List ℕ
brought m s place c b word u = pick (has word b) (emitted m s place u c m 0 0) []
