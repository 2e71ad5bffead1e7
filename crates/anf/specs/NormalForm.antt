-- Normal form (RULES 2): the sum over subsets, and the degree. A set of variables is a number, variable b is its bit b.
use Rattle.std.specs.Prelude.{ℕ, zero, suc, ◌^◌, max, eqb}
use Rattle.std.specs.Int.Count.{ones}
use Rattle.finite.specs.Tests.{pick}
use Rattle.finite.specs.Sums.{xor_below}
use Rattle.finite.specs.Sets.{subset}

-- The sum of the entries of f at all subsets of u, for n variables. Of a table this is the coefficient word at u,
-- and of the coefficient words it is the entry at u. Entry bits are treated side by side.
unfoldable pub subset_sum : ℕ → (ℕ → ℕ) → ℕ → ℕ
subset_sum n f u = xor_below (2 ^ n) (λ v. pick (subset v u) (f v) 0)

-- the largest of g 0, g 1, .. g (n - 1), and 0
unfoldable pub largest : ℕ → (ℕ → ℕ) → ℕ
largest zero g = 0
largest (suc n) g = max (largest n g) (g n)

-- The degree of a table: the largest number of variables of a set whose coefficient word is not zero.
unfoldable pub degree : ℕ → (ℕ → ℕ) → ℕ
degree n f = largest (2 ^ n) (λ u. pick (eqb (subset_sum n f u) 0) 0 (ones u))
