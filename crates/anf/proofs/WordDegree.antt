-- The degree that coefficient words give: it is the degree of the table, and what the loop of `words_degree` finds. Assumes nothing.
use mathlib.Core.Path.{◌≡◌, refl, sym, ap, ap₂, ◌∙◌}
use mathlib.Core.List.{List}
use Prim.Native.Nat.{ℕ, ◌+◌, ◌^◌, ◌≤◌, ◌<◌, max}
use native.Mathlib.Omega.{arith}
use lib.Count.{ones}
use lib.Dec.{eqb}
use lib.ListN.{length, get_or}
use borrow.Author.Tests.{eq-eqb, ne_eqb}
use Rattle.std.specs.Ordering.{ord_max, nat_cmp}
use Rattle.std.proofs.lemmas.Bool.Decides.{nat_tests}
use Rattle.finite.specs.Tests.{pick}
use Rattle.finite.proofs.Testing.{pick_true, pick_false}
use Rattle.anf.specs.NormalForm.{largest, subset_sum, degree}
use Rattle.anf.specs.Inside.Words.{words_degree}
use Rattle.anf.proofs.Degree.{largest_more, largest_congr}

-- ---- the degree that coefficient words give is that of the table

pub words_degree_lem : (m : ℕ) (f : ℕ → ℕ) (words : List ℕ) → length words ≡ 2 ^ m → ((u : ℕ) → u < 2 ^ m → get_or words u 0 ≡ subset_sum m f u)
    → words_degree words ≡ degree m f
unfolding words_degree degree
words_degree_lem m f words e h =
    rw e
    (largest_congr (2 ^ m) (λ u. pick (eqb (get_or words u 0) 0) 0 (ones u)) (λ u. pick (eqb (subset_sum m f u) 0) 0 (ones u))
    (λ u l. ap (λ (w : ℕ). pick (eqb w 0) 0 (ones u)) (h u l)))

-- ---- the loop: d is the degree that the first u words give

max_is : (a b : ℕ) → ord_max nat_cmp a b ≡ max a b
max_is a b = grind (arith, nat_tests)

pub record DegreeOf (words : List ℕ) (u d : ℕ) : Type 0 where
  pub is : d ≡ largest u (λ v. pick (eqb (get_or words v 0) 0) 0 (ones v))

module _ (words : List ℕ) where
  pub degree_start : DegreeOf words 0 0
  unfolding largest
  degree_start = record { is = refl }

  module _ (u d : ℕ) (p : DegreeOf words u d) where
    pub degree_same : get_or words u 0 ≡ 0 → (e : ℕ) → e ≡ d → DegreeOf words (u + 1) e
    degree_same z e q = record { is = q ∙ p.is ∙ omega (arith, largest_more u (λ v. pick (eqb (get_or words v 0) 0) 0 (ones v)), pick_true _ 0 (ones u) (eq-eqb _ _ z)) }

    pub degree_more : (get_or words u 0 ≡ 0 → ⊥) → (x e : ℕ) → x ≡ ord_max nat_cmp d (ones u) → e ≡ x → DegreeOf words (u + 1) e
    degree_more n x e m q =
        record { is = q ∙ m ∙ max_is d (ones u) ∙ ap₂ max p.is (sym (pick_false _ 0 (ones u) (ne_eqb _ _ n))) ∙ sym (largest_more u _) }

    pub degree_end : u ≤ length words → length words ≤ u → d ≡ words_degree words
    unfolding words_degree
    degree_end a b = let e : u ≡ length words = omega arith in rw e at p.is
