-- The direct sharing of a table within the limits is well formed: all products together are at most (s + 1)^m, which is at most 4,096.
use mathlib.Core.Path.{◌≡◌, refl, sym, ap, ◌∙◌, subst}
use mathlib.Core.Bool.{true, false, not, ◌&&◌}
use mathlib.Core.List.{List, [], ◌∷◌}
use Prim.Native.Nat.{ℕ, suc, ◌*◌, ◌/◌, ◌%◌, ◌^◌, ◌≤◌, ◌<◌}
use native.Mathlib.Nat.{mod-lt, div-add-mod, div-lt_iff_lt-mul, mul_comm}
use native.Mathlib.Omega.{arith}
use lib.Dec.{leb, eqb}
use lib.ListN.{length, get_or}
use borrow.Author.Tests.{leb-true, eqb-true, eq-eqb}
use Rattle.finite.specs.Tests.{implies, all, any}
use Rattle.finite.specs.Sets.{has}
use Rattle.finite.proofs.Testing.{all_at, implies_at, any_some, any_at}
use Rattle.std.proofs.lemmas.Bool.{and_parts, and_from}
use Rattle.finite.proofs.Counting.{count_mono}
use Rattle.anf.specs.NormalForm.{subset_sum}
use Rattle.anf.specs.Tables.{entry, TableFits}
use Rattle.anf.proofs.PassingLists.{passing_terms, passing_length}
use Rattle.design.specs.Limits.{greatest_terms, broken}
use Rattle.design.specs.WellFormed.{ListFits, StageFits, WellFormed}
use Rattle.design.proofs.Limits.{bounds}
use Rattle.direct.specs.Direct.{is_product, chosen, stands, direct_list, direct_stage, direct_sharing}
use Rattle.direct.proofs.Counts.{products_most, left_most}
use Rattle.direct.proofs.Placement.{unchosen, chosen_lt}
use Rattle.direct.specs.Inside.Outside.{Outside, most_terms}
use Rattle.sharing.specs.Sharing.{share}
use Rattle.direct.proofs.Stage.{list_at, lists_length}

-- within the limits (s + 1)^m is at most the greatest number of terms: computed for each m and s
powers : all 7 (λ m. all 6 (λ s. implies (not (broken m s 1)) (leb (suc s ^ m) greatest_terms))) ≡ true
unfolding all broken
powers = refl

pub few_products : (m s : ℕ) → broken m s 1 ≡ false → suc s ^ m ≤ greatest_terms
few_products m s h =
    let b = bounds m s 1 h in
    leb-true (suc s ^ m) greatest_terms
    (implies_at (not (broken m s 1)) (leb (suc s ^ m) greatest_terms) (all_at 6 _ (all_at 7 _ powers m (omega (arith, b.m_high))) s (omega (arith, b.s_high))) (ap not h))

pub list_size : (m s : ℕ) (place : ℕ → ℕ) (f : ℕ → ℕ) (c b : ℕ) → broken m s 1 ≡ false → length (direct_list m s place f c b) ≤ greatest_terms
unfolding direct_list
list_size m s place f c b h =
    omega (
      arith,
      passing_length (2 ^ (m * s)) (stands m s place f c b),
      count_mono (2 ^ (m * s)) (stands m s place f c b) (λ p. any (2 ^ m) (λ u. is_product m s u p)) (λ p l e. some p e),
      products_most m s,
      few_products m s h,
    )
  where
    some : (p : ℕ) → stands m s place f c b p ≡ true → any (2 ^ m) (λ u. is_product m s u p) ≡ true
    some p e =
        let u = any_some (2 ^ m) (λ u. is_product m s u p && has (f u) b) (unfold stands in (and_parts _ _ e).0) in
        any_at (2 ^ m) (λ u. is_product m s u p) u.0 u.1 (and_parts (is_product m s u.0 p) (has (f u.0) b) u.2).0

-- by a placement that sends no product to a component whose share it names, a list has at most s^m terms, which is at most 1,024
shorter_powers : all 7 (λ m. all 6 (λ s. implies (not (broken m s 1)) (leb (s ^ m) most_terms))) ≡ true
unfolding all broken
shorter_powers = refl

few_left : (m s : ℕ) → broken m s 1 ≡ false → s ^ m ≤ most_terms
few_left m s h =
    let b = bounds m s 1 h in
    leb-true (s ^ m) most_terms
    (implies_at (not (broken m s 1)) (leb (s ^ m) most_terms) (all_at 6 _ (all_at 7 _ shorter_powers m (omega (arith, b.m_high))) s (omega (arith, b.s_high))) (ap not h))

pub list_short : (m s : ℕ) (place : ℕ → ℕ) → Outside s place → (f : ℕ → ℕ) (c b : ℕ) → c < s → broken m s 1 ≡ false
    → length (direct_list m s place f c b) ≤ most_terms
unfolding direct_list
list_short m s place o f c b lc h =
    omega (
      arith,
      passing_length (2 ^ (m * s)) (stands m s place f c b),
      count_mono (2 ^ (m * s)) (stands m s place f c b) (λ p. any (2 ^ m) (λ u. is_product m s u p && eqb (share m c p) 0)) (λ p l e. left p e),
      left_most m s c lc,
      few_left m s h,
    )
  where
    left : (p : ℕ) → stands m s place f c b p ≡ true → any (2 ^ m) (λ u. is_product m s u p && eqb (share m c p) 0) ≡ true
    left p e =
        let d : (any (2 ^ m) (λ u. is_product m s u p && has (f u) b) && eqb (place (chosen m s p)) c) ≡ true = unfold stands in e in
        let q = and_parts (any (2 ^ m) (λ u. is_product m s u p && has (f u) b)) (eqb (place (chosen m s p)) c) d in
        let u = any_some (2 ^ m) (λ u. is_product m s u p && has (f u) b) q.0 in
        let z : share m c p ≡ 0 = unchosen m s p c lc (o.outside (chosen m s p) (chosen_lt m s p) c lc (eqb-true _ _ q.1)) in
        any_at (2 ^ m) (λ u. is_product m s u p && eqb (share m c p) 0) u.0 u.1
        (and_from _ _ (and_parts (is_product m s u.0 p) (has (f u.0) b) u.2).0 (eq-eqb _ _ z))

pub list_fits : (m s : ℕ) (place : ℕ → ℕ) (f : ℕ → ℕ) (c b : ℕ) → broken m s 1 ≡ false → ListFits (m * s) (direct_list m s place f c b)
list_fits m s place f c b h = record { size = list_size m s place f c b h; terms = unfold direct_list in passing_terms (m * s) (stands m s place f c b) }

pub stage_fits : (m s : ℕ) (place : ℕ → ℕ) (t : List ℕ) → broken m s 1 ≡ false → TableFits m t → StageFits m s (direct_stage m s place t)
stage_fits m s place t h fits = record {
  table = unfold direct_stage in fits;
  count = lists_length m s place t;
  list = λ l k. subst (ListFits (m * s)) (sym (at l k)) (list_fits m s place (subset_sum m (entry t)) (l / m) (l % m) h);
}
  where
    at : (l : ℕ) → l < m * s → get_or (direct_stage m s place t).lists l [] ≡ direct_list m s place (subset_sum m (entry t)) (l / m) (l % m)
    at l k =
        let b = bounds m s 1 h in
        ap (λ (i : ℕ). get_or (direct_stage m s place t).lists i []) (sym (div-add-mod l m))
        ∙ list_at m s place t (l / m) (l % m) ((div-lt_iff_lt-mul (omega (arith, b.m_low))).1 (omega (arith, mul_comm m s))) (mod-lt l (omega (arith, b.m_low)))

pub sharing_formed : (m s : ℕ) (place : ℕ → ℕ) (t : List ℕ) → broken m s 1 ≡ false → TableFits m t → WellFormed (direct_sharing m s place t)
unfolding direct_sharing
sharing_formed m s place t h fits = record {
  limits = h;
  box = fits;
  count = refl;
  stage = λ k l. subst (λ (i : ℕ). StageFits m s (get_or (direct_stage m s place t ∷ []) i (record { table = []; lists = [] }))) (sym (lib.Arith.lt-one l)) (stage_fits m s place t h fits);
}
