-- The transform answers a number exactly when it is explained; and what it leaves. Assumes nothing.
use mathlib.Core.Path.{◌≡◌, ap, ◌∙◌, subst}
use mathlib.Core.Logic.{◌↔◌, ◌≢◌}
use mathlib.Core.Bool.{Bool, true, false, not, ◌||◌}
use mathlib.Core.List.{List, [], ◌∷◌}
use Prim.Native.Nat.{ℕ, ◌^◌, ◌≤◌, ◌<◌}
use native.Mathlib.Omega.{arith}
use lib.Dec.{eqb, ltb}
use lib.ListN.{length, take, drop}
use lib.Seq.{take_at, drop_at}
use borrow.Author.Tests.{lt-ltb, le-ltb, ltb-true, ltb-false, eq-eqb, ne_eqb, eqb-true, eqb-false, not-true, not-false}
use Rattle.std.proofs.lemmas.Bool.{or_parts, or_from, true_from_ne_false}
use Rattle.finite.specs.Faults.{first_fault}
use Rattle.finite.proofs.Faults.{fault_here, fault_past, fault_either, fault_none}
use Rattle.finite.proofs.Testing.{all_not, all_fails, clash, tabulate_length, pick_true, pick_false}
use Rattle.anf.specs.Tables.{entry, entries_below, TableFits}
use Rattle.anf.specs.Transform.{greatest_width, transform_reason, transform_after, transformed}
use Rattle.anf.specs.Explained.{WidthFits, TransformExplained, width_wrong, size_wrong, word_high, output_short, transforms}
use Rattle.anf.proofs.Tables.{entries_at, entries_intro}

-- ---- the tests, as propositions

module _ (m : ℕ) where
  abbrev beyond : Bool
  beyond = ltb m 1 || ltb greatest_width m

  width_passes : WidthFits m → beyond ≡ false
  width_passes w = or_from _ _ (le-ltb _ _ w.0) (le-ltb _ _ w.1)

  width_passed : beyond ≡ false → WidthFits m
  width_passed e = let p = or_parts (ltb m 1) (ltb greatest_width m) e in (ltb-false _ _ p.0, ltb-false _ _ p.1)

  module _ (t : List ℕ) (size : length t ≡ 2 ^ m) where
    pub table_passes : TableFits m t → entries_below t (2 ^ m) ≡ true
    table_passes w = entries_intro t (2 ^ m) (λ x l. w.below x (omega arith))

    pub table_passed : entries_below t (2 ^ m) ≡ true → TableFits m t
    table_passed e = record { size = size; below = λ x l. entries_at t (2 ^ m) e x (omega arith) }

    pub word_found : entries_below t (2 ^ m) ≡ false → (x : ℕ) × (x < 2 ^ m) × (2 ^ m ≤ entry t x)
    unfolding entries_below
    word_found e = let r = all_not (length t) _ e in (r.0, omega (arith, r.1), ltb-false _ _ r.3)

    pub word_fails : (x : ℕ) → x < 2 ^ m → 2 ^ m ≤ entry t x → entries_below t (2 ^ m) ≡ false
    unfolding entries_below
    word_fails x l h = all_fails (length t) _ x (omega arith) (le-ltb _ _ h)

-- ---- explained

module _ (m : ℕ) (t : List ℕ) (room : ℕ) where
  either : (b : Bool) (r : ℕ) (fs : List (Bool × ℕ)) → (b ≡ true → TransformExplained m t room r) → (b ≡ false → TransformExplained m t room (first_fault fs 0))
      → TransformExplained m t room (first_fault ((b, r) ∷ fs) 0)
  either b r fs = fault_either (TransformExplained m t room) b r fs 0

  reason_explained : TransformExplained m t room (transform_reason m t room)
  unfolding transform_reason
  reason_explained =
      either (beyond m) _ _
      (λ e. width_wrong (λ w. clash e (width_passes m w)))
      (λ e. let w = width_passed m e in
      either (not (eqb (length t) (2 ^ m))) _ _
      (λ e. size_wrong w (eqb-false _ _ (not-true _ e)))
      (λ e. let size : length t ≡ 2 ^ m = eqb-true _ _ (not-false _ e) in
      either (not (entries_below t (2 ^ m))) _ _
      (λ e. let x = word_found m t size (not-true _ e) in word_high x.0 w size x.1 x.2)
      (λ e. let fits = table_passed m t size (not-false _ e) in
      either (ltb room (2 ^ m)) _ _
      (λ e. output_short w fits (ltb-true _ _ e))
      (λ e. rw (fault_none {A = ℕ} 0) (transforms w fits (ltb-false _ _ e))))))

  past_width : WidthFits m → transform_reason m t room ≡ first_fault ((not (eqb (length t) (2 ^ m)), 3) ∷ (not (entries_below t (2 ^ m)), 5) ∷ (ltb room (2 ^ m), 17) ∷ []) 0
  unfolding transform_reason
  past_width w = fault_past _ 4 _ 0 (width_passes m w)

  past_size : WidthFits m → length t ≡ 2 ^ m → transform_reason m t room ≡ first_fault ((not (entries_below t (2 ^ m)), 5) ∷ (ltb room (2 ^ m), 17) ∷ []) 0
  past_size w e = past_width w ∙ fault_past _ 3 _ 0 (ap not (eq-eqb _ _ e))

  past_table : WidthFits m → TableFits m t → transform_reason m t room ≡ first_fault ((ltb room (2 ^ m), 17) ∷ []) 0
  past_table w f = past_size w f.size ∙ fault_past _ 5 _ 0 (ap not (table_passes m t f.size f))

  explained_answered : (r : ℕ) → TransformExplained m t room r → transform_reason m t room ≡ r
  explained_answered n (width_wrong h) = unfold transform_reason in fault_here _ 4 _ 0 (true_from_ne_false _ (λ e. h (width_passed m e)))
  explained_answered n (size_wrong w h) = past_width w ∙ fault_here _ 3 _ 0 (ap not (ne_eqb _ _ h))
  explained_answered n (word_high x w e l h) = past_size w e ∙ fault_here _ 5 _ 0 (ap not (word_fails m t e x l h))
  explained_answered n (output_short w f l) = past_table w f ∙ fault_here _ 17 _ 0 (lt-ltb _ _ l)
  explained_answered n (transforms w f l) = past_table w f ∙ fault_past _ 17 _ 0 (le-ltb _ _ l) ∙ fault_none 0

-- a number is answered exactly when it is explained
pub transform_exactly : (m : ℕ) (input : List ℕ) (room r : ℕ) → (transform_reason m input room ≡ r) ↔ TransformExplained m input room r
transform_exactly m t room r = (λ e. subst (TransformExplained m t room) e (reason_explained m t room), explained_answered m t room r)

-- ---- the lent output: on success the words and then what stood past them, on a refusal all of it as it was

module _ (m : ℕ) (input out : List ℕ) where
  pub transform_words : transform_reason m input (length out) ≡ 0 → take (2 ^ m) (transform_after m input out) ≡ transformed m input
  unfolding transform_after
  transform_words e =
      ap (take (2 ^ m)) (pick_true _ _ _ (eq-eqb _ 0 e)) ∙ take_at (transformed m input) (drop (2 ^ m) out) (2 ^ m) (tabulate_length _ _)

  pub transform_rest : transform_reason m input (length out) ≡ 0 → drop (2 ^ m) (transform_after m input out) ≡ drop (2 ^ m) out
  unfolding transform_after
  transform_rest e =
      ap (drop (2 ^ m)) (pick_true _ _ _ (eq-eqb _ 0 e)) ∙ drop_at (transformed m input) (drop (2 ^ m) out) (2 ^ m) (tabulate_length _ _)

  pub transform_refused : transform_reason m input (length out) ≢ 0 → transform_after m input out ≡ out
  unfolding transform_after
  transform_refused n = pick_false _ _ _ (ne_eqb _ 0 n)
