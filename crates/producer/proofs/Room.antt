-- How much output is always enough for producing: a box that is shared has no term of s variables or more, and each term is in m output bits at most.
-- Assumes nothing.
use mathlib.Core.Path.{◌≡◌, refl, ap}
use mathlib.Core.Logic.{◌≢◌}
use mathlib.Core.Bool.{Bool, true, false, not}
use mathlib.Core.List.{List}
use Prim.Native.Nat.{ℕ, ◌*◌, ◌^◌, ◌≤◌, ◌<◌}
use native.Mathlib.Nat.{mul_comm, mul-zero, mul-le-mul_left}
use native.Mathlib.Decide.{ℕ_discrete}
use native.Mathlib.Omega.{arith}
use lib.Dec.{ltb, leb}
use lib.Count.{ones, ones-le}
use lib.ListN.{length}
use borrow.Author.Tests.{ltb-false, leb-true}
use Rattle.finite.specs.Tests.{pick, implies, all, total}
use Rattle.finite.proofs.Testing.{implies_at, all_at}
use Rattle.finite.proofs.Counting.{total_mono, total_times}
use Rattle.anf.specs.NormalForm.{subset_sum, degree}
use Rattle.anf.specs.Tables.{entry}
use Rattle.anf.proofs.Degree.{degree_at}
use Rattle.anf.proofs.SubsetSums.{subset_sum_lt}
use Rattle.design.specs.Limits.{broken}
use Rattle.design.proofs.Limits.{bounds}
use Rattle.direct.specs.Direct.{Loads, Box}
use Rattle.producer.specs.Producing.{produced, produced_reason, terms_count, produced_length, products_most, produced_most}
use Rattle.producer.proofs.Terms.{produced_size}
use Rattle.producer.proofs.Theorems.{past_degree, seventeen_exactly}

-- ---- the terms of all lists

module _ (m s : ℕ) (f : ℕ → ℕ) (low : degree m f < s) (small : (x : ℕ) → x < 2 ^ m → f x < 2 ^ m) where
  -- a term of s variables or more is not in the box
  absent : (u : ℕ) → u < 2 ^ m → s ≤ ones u → Dec (subset_sum m f u ≡ 0) → subset_sum m f u ≡ 0
  absent u l h (yes z) = z
  absent u l h (no n) = absurd (omega (arith, degree_at m f u l n))

  -- and a term is in m bits at most
  term_most : (u : ℕ) → u < 2 ^ m → s ^ ones u * ones (subset_sum m f u) ≤ m * pick (ltb (ones u) s) (s ^ ones u) 0
  term_most u l = at (ltb (ones u) s) refl
    where
      at : (x : Bool) → ltb (ones u) s ≡ x → s ^ ones u * ones (subset_sum m f u) ≤ m * pick x (s ^ ones u) 0
      at true e = omega (arith, mul_comm m (s ^ ones u), mul-le-mul_left (s ^ ones u) (ones-le m (subset_sum m f u) (subset_sum_lt m m u f small)))
      at false e =
          let z : subset_sum m f u ≡ 0 = absent u l (ltb-false (ones u) s e) (ℕ_discrete (subset_sum m f u) 0) in
          omega (arith, ap (λ (w : ℕ). s ^ ones u * ones w) z, none)
        where
          none : s ^ ones u * ones 0 ≡ 0
          none = unfold ones in mul-zero (s ^ ones u)

  terms_most : terms_count m s (subset_sum m f) ≤ m * products_most m s
  unfolding terms_count products_most
  terms_most =
      omega (
        arith,
        total_mono (2 ^ m) (λ u. s ^ ones u * ones (subset_sum m f u)) (λ u. m * pick (ltb (ones u) s) (s ^ ones u) 0) term_most,
        total_times (2 ^ m) m (λ u. pick (ltb (ones u) s) (s ^ ones u) 0),
      )

-- ---- the file

-- what is produced of a permutation within the limits, of degree below s, takes no more
pub produced_most_lem : (m s : ℕ) (t l : List ℕ) → Box m s t → Loads s l → degree m (entry t) < s → length (produced m s t l) ≤ produced_most m s
unfolding produced_length produced_most
produced_most_lem m s t l b a low = omega (arith, produced_size m s t l b.table a low, terms_most m s (entry t) low b.table.below)

-- ---- the largest

-- of all m and s within the limits: computed for each
largest_most : all 7 (λ m. all 6 (λ s. implies (not (broken m s 1)) (leb (produced_most m s) 20867))) ≡ true
unfolding all broken produced_most products_most total ones
largest_most = refl

pub most_within : (m s : ℕ) → broken m s 1 ≡ false → produced_most m s ≤ 20867
most_within m s h =
    let b = bounds m s 1 h in
    leb-true (produced_most m s) 20867
    (implies_at (not (broken m s 1)) (leb (produced_most m s) 20867)
    (all_at 6 _ (all_at 7 _ largest_most m (omega (arith, b.m_high))) s (omega (arith, b.s_high))) (ap not h))

-- the largest is met: four bits, five shares
pub most_met : produced_most 4 5 ≡ 20867
unfolding produced_most products_most total ones
most_met = refl

-- ---- 17

-- so many bytes of output are always enough
pub room_enough : (m s : ℕ) (t l : List ℕ) (room : ℕ) → 20867 ≤ room → produced_reason m s t l room ≢ 17
room_enough m s t l room h e =
    let p = past_degree m s t l room 17 (λ k g z. z) e in
    omega (arith, (seventeen_exactly m s t l room p.box p.placement p.low).0 e, produced_most_lem m s t l p.box p.placement p.low, most_within m s p.box.limits)
