-- A map of some numbers to others, each of which comes from equally many: what is counted after it is counted before it that many times. Assumes nothing.
use mathlib.Core.Path.{◌≡◌, refl, sym, ap, ◌∙◌}
use mathlib.Core.Bool.{Bool, true, false, ◌&&◌}
use Prim.Native.Nat.{ℕ, ◌*◌, ◌<◌}
use native.Mathlib.Nat.{mul-one, mul-zero, one-mul, zero-mul}
use lib.Dec.{eqb}
use borrow.Author.Tests.{eqb-true}
use Rattle.finite.specs.Tests.{bit, count}
use Rattle.finite.proofs.Testing.{clash}
use Rattle.std.proofs.lemmas.Bool.{and_parts}
use Rattle.finite.proofs.Counting.{total_congr, total_times, count_none, by_part}

-- d takes the numbers below n that pass a to numbers below k that pass b
module _ (n k K : ℕ) (a : ℕ → Bool) (d : ℕ → ℕ) (b : ℕ → Bool)
    (into : (i : ℕ) → i < n → d i < k) (passes : (i : ℕ) → i < n → a i ≡ true → b (d i) ≡ true) where
  -- how many it takes to q
  abbrev from : ℕ → ℕ
  from q = count n (λ i. a i && eqb (d i) q)

  -- it takes none to a number that does not pass
  pub from_none : (q : ℕ) → b q ≡ false → from q ≡ 0
  from_none q e =
      count_none n (λ i. a i && eqb (d i) q)
      (λ i l h.
      let s : b (d i) ≡ true = passes i l (and_parts (a i) (eqb (d i) q) h).0 in
      let t : d i ≡ q = eqb-true (d i) q (and_parts (a i) (eqb (d i) q) h).1 in
      clash s (ap b t ∙ e))

  -- in one equation
  from_is : ((q : ℕ) → q < k → b q ≡ true → from q ≡ K) → (q : ℕ) → q < k → from q ≡ K * bit (b q)
  from_is h q l = go (b q) refl
    where
      go : (t : Bool) → b q ≡ t → from q ≡ K * bit t
      go true e = h q l e ∙ sym (mul-one K)
      go false e = from_none q e ∙ sym (mul-zero K)

  -- Where each number that passes b comes from K, a test of what d gives passes K times as often as the test itself.
  pub count_parts : ((q : ℕ) → q < k → b q ≡ true → count n (λ i. a i && eqb (d i) q) ≡ K) → (p : ℕ → Bool)
      → count n (λ i. a i && p (d i)) ≡ K * count k (λ q. b q && p q)
  count_parts h p =
      by_part n k a d p into
      ∙ total_congr k (λ q. bit (p q) * from q) (λ q. K * bit (b q && p q))
      (λ q l. ap (λ (x : ℕ). bit (p q) * x) (from_is h q l) ∙ swap (p q) (b q))
      ∙ total_times k K (λ q. bit (b q && p q))
    where
      swap : (t u : Bool) → bit t * (K * bit u) ≡ K * bit (u && t)
      swap true true = one-mul (K * 1)
      swap true false = one-mul (K * 0)
      swap false true = zero-mul (K * 1) ∙ sym (mul-zero K)
      swap false false = zero-mul (K * 0) ∙ sym (mul-zero K)
