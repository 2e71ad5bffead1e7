-- Producing answers a number exactly when it is explained. Each test is one case and means its fact. Assumes nothing.
use mathlib.Core.Path.{◌≡◌, sym, ap, ◌∙◌, subst}
use mathlib.Core.Logic.{◌↔◌}
use mathlib.Core.Bool.{Bool, true, false, not}
use mathlib.Core.List.{List, [], ◌∷◌}
use Prim.Native.Nat.{ℕ, ◌^◌, ◌<◌}
use lib.Dec.{eqb, ltb, leb}
use lib.ListN.{length}
use borrow.Author.Tests.{lt-ltb, le-ltb, ltb-true, ltb-false, leb-true, leb-false, eq-eqb, ne_eqb, eqb-true, eqb-false, not-true, not-false}
use Rattle.std.proofs.lemmas.Bool.{true_from_ne_false, false_from_ne_true}
use Rattle.finite.specs.Maps.{repeats}
use Rattle.finite.specs.Faults.{first_fault}
use Rattle.finite.proofs.Testing.{clash, pick_true}
use Rattle.finite.proofs.Maps.{repeats→injective, repeats_clash, injective→repeats}
use Rattle.finite.proofs.Faults.{fault_here, fault_past, fault_either, fault_none}
use Rattle.anf.specs.NormalForm.{degree}
use Rattle.anf.specs.Tables.{entry, entries_below}
use Rattle.anf.proofs.Explained.{table_passes, table_passed, word_found, word_fails}
use Rattle.design.specs.Limits.{broken, checked, head_answer, WithinLimits}
use Rattle.design.proofs.Limits.{head_number}
use Rattle.direct.specs.Direct.{loads, Box}
use Rattle.direct.proofs.PlacementTables.{loaded, loading}
use Rattle.producer.specs.Producing.{produced, produced_reason}
use Rattle.producer.specs.Explained.{ProducingExplained, limit_broken, size_wrong, entry_high, box_repeats, placement_wrong, degree_high, output_short, succeeds}
use Rattle.producer.proofs.Tests.{reason_head, reason_placement, reason_degree, reason_last, TableTested, table_tested}

module _ (m s : ℕ) (t l : List ℕ) (room : ℕ) where
  either : (b : Bool) (r : ℕ) (fs : List (Bool × ℕ)) → (b ≡ true → ProducingExplained m s t l room r) → (b ≡ false → ProducingExplained m s t l room (first_fault fs 0))
      → ProducingExplained m s t l room (first_fault ((b, r) ∷ fs) 0)
  either b r fs = fault_either (ProducingExplained m s t l room) b r fs 0

  -- the number of a head that breaks a limit
  four : broken m s 1 ≡ true → (head_answer (checked m s 1)).0 ≡ 4
  four e = head_number m s 1 ∙ pick_true (broken m s 1) 4 0 e

  reason_explained : ProducingExplained m s t l room (produced_reason m s t l room)
  unfolding produced_reason
  reason_explained =
      either (broken m s 1) _ _
      (λ e. subst (ProducingExplained m s t l room) (sym (four e)) (limit_broken (λ w. clash e w)))
      (λ w.
      either (not (eqb (length t) (2 ^ m))) _ _
      (λ e. size_wrong w (eqb-false _ _ (not-true _ e)))
      (λ e. let size : length t ≡ 2 ^ m = eqb-true _ _ (not-false _ e) in
      either (not (entries_below t (2 ^ m))) _ _
      (λ e. let x = word_found m t size (not-true _ e) in entry_high x.0 w size x.1 x.2)
      (λ e. let fits = table_passed m t size (not-false _ e) in
      either (repeats (2 ^ m) (entry t)) _ _
      (λ e. box_repeats w fits (repeats_clash (2 ^ m) (entry t) e))
      (λ e. let box : Box m s t = record { limits = w; table = fits; injective = repeats→injective (2 ^ m) (entry t) e } in
      either (not (loads s l)) _ _
      (λ e. placement_wrong box (λ a. clash (loading s l a) (not-true _ e)))
      (λ e. let a = loaded s l (not-false _ e) in
      either (leb s (degree m (entry t))) _ _
      (λ e. degree_high box a (leb-true _ _ e))
      (λ e. let low : degree m (entry t) < s = leb-false _ _ e in
      either (ltb room (length (produced m s t l))) _ _
      (λ e. output_short box a low (ltb-true _ _ e))
      (λ e. rw (fault_none {A = ℕ} 0) (succeeds (record { box = box; loads = a; low = low; fits = ltb-false _ _ e })))))))))

  module _ (w : WithinLimits m s 1) where
    abbrev of_table : List (Bool × ℕ)
    of_table =
        (not (entries_below t (2 ^ m)), 5) ∷ (repeats (2 ^ m) (entry t), 8) ∷ (not (loads s l), 21) ∷ (leb s (degree m (entry t)), 16)
        ∷ (ltb room (length (produced m s t l)), 17) ∷ []

    past_limits : produced_reason m s t l room ≡ first_fault ((not (eqb (length t) (2 ^ m)), 3) ∷ of_table) 0
    unfolding produced_reason
    past_limits = fault_past (broken m s 1) _ _ 0 w

    past_size : length t ≡ 2 ^ m → produced_reason m s t l room ≡ first_fault of_table 0
    past_size e = past_limits ∙ fault_past _ 3 _ 0 (ap not (eq-eqb _ _ e))

  tested : Box m s t → TableTested m s t l room
  tested b = table_tested m s t l room b.limits b.table.size (table_passes m t b.table.size b.table) (injective→repeats (2 ^ m) (entry t) b.injective)

  explained_answered : (r : ℕ) → ProducingExplained m s t l room r → produced_reason m s t l room ≡ r
  explained_answered n (limit_broken h) = reason_head m s t l room (true_from_ne_false _ h)
  explained_answered n (size_wrong w h) = past_limits w ∙ fault_here _ 3 _ 0 (ap not (ne_eqb _ _ h))
  explained_answered n (entry_high x w e l h) = past_size w e ∙ fault_here _ 5 _ 0 (ap not (word_fails m t e x l h))
  explained_answered n (box_repeats w f h) =
      past_size w f.size ∙ fault_past _ 5 _ 0 (ap not (table_passes m t f.size f))
      ∙ fault_here _ 8 _ 0 (true_from_ne_false _ (λ e. h (repeats→injective (2 ^ m) (entry t) e)))
  explained_answered n (placement_wrong b h) = reason_placement m s t l room (tested b) (false_from_ne_true _ (λ e. h (loaded s l e)))
  explained_answered n (degree_high b a h) = reason_degree m s t l room (tested b) (loading s l a) h
  explained_answered n (output_short b a low h) = reason_last m s t l room (tested b) (loading s l a) low ∙ fault_here _ 17 _ 0 (lt-ltb _ _ h)
  explained_answered n (succeeds c) = reason_last m s t l room (tested c.box) (loading s l c.loads) c.low ∙ fault_past _ 17 _ 0 (le-ltb _ _ c.fits) ∙ fault_none 0

-- a number is answered exactly when it is explained
pub producing_exactly : (m s : ℕ) (t l : List ℕ) (room r : ℕ) → (produced_reason m s t l room ≡ r) ↔ ProducingExplained m s t l room r
producing_exactly m s t l room r = (λ e. subst (ProducingExplained m s t l room) e (reason_explained m s t l room), explained_answered m s t l room r)
