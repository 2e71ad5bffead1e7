-- The transform one variable at a time, and the degree that coefficient words give: what the functions below the operations answer.
use Rattle.std.specs.Prelude.{ℕ, zero, suc, ◌+◌, ◌-◌, ◌^◌, List, ◌++◌, eqb, length, get_or, take}
use Rattle.std.specs.Int.Bits.{bit_xor}
use Rattle.std.specs.Int.Count.{ones}
use Rattle.finite.specs.Tests.{pick, tabulate}
use Rattle.finite.specs.Sets.{has}
use Rattle.anf.specs.NormalForm.{largest}

-- the sums of a block's two halves, word by word
abbrev pub half_sums : ℕ → List ℕ → List ℕ
half_sums half block = tabulate half (λ i. bit_xor (get_or block i 0) (get_or block (half + i) 0))

-- a block of twice `half` words, with its lower half added to its upper half
unfoldable pub lower_added : ℕ → List ℕ → List ℕ
lower_added half block = take half block ++ half_sums half block

-- the sum of f at the set u and, where u has variable k, at u without it
unfoldable pub over_variable : ℕ → (ℕ → ℕ) → ℕ → ℕ
over_variable k f u = pick (has u k) (bit_xor (f (u - 2 ^ k)) (f u)) (f u)

-- the same over each of the variables below k, one after the other
unfoldable pub over_variables : ℕ → (ℕ → ℕ) → ℕ → ℕ
over_variables zero f = f
over_variables (suc k) f = over_variable k (over_variables k f)

-- the degree that coefficient words give: the largest number of variables of a set whose word is not zero
unfoldable pub words_degree : List ℕ → ℕ
words_degree words = largest (length words) (λ u. pick (eqb (get_or words u 0) 0) 0 (ones u))
