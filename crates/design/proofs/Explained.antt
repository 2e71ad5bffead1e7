-- Reading's refusals in both directions: a file is refused with a reason and a place exactly when the fault is there, as `RefusedFor` says it.
-- Assumes nothing.
use Prim.Native.Nat.{ℕ, zero, suc, ◌+◌, ◌-◌, ◌/◌, ◌^◌, ◌≤◌, ◌<◌}
use mathlib.Core.Path.{◌≡◌, refl, sym, ap, ◌∙◌}
use mathlib.Core.List.{List}
use mathlib.Core.Bool.{true, false, not}
use mathlib.Core.Logic.{◌↔◌, ◌≢◌}
use native.Mathlib.Omega.{arith}
use borrow.Author.Tests.{lt-ltb, le-ltb, eq-eqb, ne_eqb}
use lib.ListN.{length}
use Rattle.std.proofs.lemmas.Bool.{true_from_ne_false, false_from_ne_true}
use Rattle.finite.proofs.Testing.{all_intro, all_fails, pick_true, pick_false}
use Rattle.finite.proofs.Faults.{fault_here, fault_past}
use Rattle.design.specs.Limits.{Head}
use Rattle.records.specs.Bytes.{byte}
use Rattle.design.specs.Reading.{refused, last_of, head_of, kind_due, size_due, length_due, entry_fits, fault_at, place, walk, reading}
use Rattle.design.specs.Refused.{HeadFits, LengthFits, TermFits, RecordStands, RecordFits, FitBefore, Reached, entry_at, kind_at, length_at, due_at}
use Rattle.design.specs.Refused.{RefusedFor, head_cut, kind_wrong, length_wrong, body_cut, limit_broken, entry_high, term_wrong, bytes_follow}
use Rattle.design.proofs.Records as records
use Rattle.design.proofs.Reasons.{head_fits, head_unbroken, Kind, is_head, is_table, is_list, is_end, kind_cases, length_fits, length_not, term_fits_lem, term_not, refused_for}

-- ---- the tests of a record, from what is known of it

too_high : (f : List ℕ) (start bound x : ℕ) → bound ≤ byte f (start + x) → entry_fits f start bound x ≡ false
unfolding entry_fits
too_high f start bound x h = le-ltb _ _ h

module _ (f : List ℕ) (i : ℕ) where
  abbrev h : Head
  h = head_of f

  abbrev at : ℕ
  at = place f i

  abbrev fault : ℕ
  fault = fault_at f h i at

  length_passes : LengthFits h (due_at f i) (length_at f i) → length_due (due_at f i) (size_due h (due_at f i)) (length_at f i) ≡ true
  length_passes w = true_from_ne_false _ (λ e. length_not h i _ _ (kind_cases h i) e w)

  length_fails : ¬ LengthFits h (due_at f i) (length_at f i) → length_due (due_at f i) (size_due h (due_at f i)) (length_at f i) ≡ false
  length_fails n = false_from_ne_true _ (λ e. n (length_fits h _ _ e))

  -- one after the other
  cut_answered : length f < at + 4 → fault ≡ 1
  unfolding fault_at
  cut_answered l = fault_here _ 1 _ 0 (lt-ltb _ _ (omega arith))

  module _ (a : at + 4 ≤ length f) where
    kind_answered : ¬ (kind_at f i ≡ due_at f i) → fault ≡ 2
    unfolding fault_at
    kind_answered n = fault_past _ 1 _ 0 (le-ltb _ _ (omega arith)) ∙ fault_here _ 2 _ 0 (ap not (ne_eqb _ _ n))

    module _ (k : kind_at f i ≡ due_at f i) where
      length_answered : ¬ LengthFits h (due_at f i) (length_at f i) → fault ≡ 3
      unfolding fault_at
      length_answered n =
          fault_past _ 1 _ 0 (le-ltb _ _ (omega arith)) ∙ fault_past _ 2 _ 0 (ap not (eq-eqb _ _ k)) ∙ fault_here _ 3 _ 0 (ap not (length_fails n))

      module _ (w : LengthFits h (due_at f i) (length_at f i)) where
        body_answered : length f < at + 4 + length_at f i → fault ≡ 1
        unfolding fault_at
        body_answered l =
            fault_past _ 1 _ 0 (le-ltb _ _ (omega arith)) ∙ fault_past _ 2 _ 0 (ap not (eq-eqb _ _ k)) ∙ fault_past _ 3 _ 0 (ap not (length_passes w))
            ∙ fault_here _ 1 _ 0 (lt-ltb _ _ (omega arith))

  -- of a record that stands only its body is left
  past_frame : RecordStands f i → fault ≡ records.body_fault f h (due_at f i) (at + 4) (length_at f i)
  unfolding fault_at records.body_fault
  past_frame w =
      let a = w.head in
      let r = w.rest in
      fault_past _ 1 _ 0 (le-ltb _ _ (omega arith)) ∙ fault_past _ 2 _ 0 (ap not (eq-eqb _ _ w.kind)) ∙ fault_past _ 3 _ 0 (ap not (length_passes w.size))
      ∙ fault_past _ 1 _ 0 (le-ltb _ _ (omega arith))

  module _ (w : RecordStands f i) where
    entry_answered : due_at f i ≡ 2 → (x : ℕ) → x < 2 ^ h.m → 2 ^ h.m ≤ entry_at f i x → fault ≡ 5
    entry_answered q x l high =
        past_frame w ∙ records.body_2 f h (due_at f i) (at + 4) (length_at f i) q
        ∙ pick_false _ 0 5 (all_fails _ _ x (omega (arith, w.size.of_table q, l)) (too_high f (at + 4) (2 ^ h.m) x high))

    term_answered : due_at f i ≡ 3 → (j : ℕ) → j < length_at f i / 4 → ¬ TermFits f i j → fault ≡ 6
    term_answered q j l n =
        past_frame w ∙ records.body_3 f h (due_at f i) (at + 4) (length_at f i) q
        ∙ pick_false _ 0 6 (all_fails _ _ j l (false_from_ne_true _ (λ e. n (term_fits_lem f i j e))))

  -- a record without fault
  fits_answered : RecordFits f i → fault ≡ 0
  fits_answered w = past_frame w.stands ∙ go (due_at f i) refl (kind_cases h i)
    where
      go : (k : ℕ) → due_at f i ≡ k → Kind i k → records.body_fault f h (due_at f i) (at + 4) (length_at f i) ≡ 0
      go k q (is_head z) =
          records.body_1 f h _ _ _ q ∙ pick_false _ 4 0 (head_unbroken f (w.limits z))
      go k q is_table =
          records.body_2 f h _ _ _ q
          ∙ pick_true _ 0 5 (all_intro _ _ (λ x l. records.entry_fits_lem f (at + 4) (2 ^ h.m) x (w.entries q x (omega (arith, w.stands.size.of_table q, l)))))
      go k q is_list =
          records.body_3 f h _ _ _ q
          ∙ pick_true _ 0 6 (all_intro _ _ (λ j l. true_from_ne_false _ (λ e. term_not f i j e (w.terms q j l))))
      go k q is_end = records.body_4 f h _ _ _ (λ z. omega (arith, q, z)) (λ z. omega (arith, q, z)) (λ z. omega (arith, q, z))

head_due : (f : List ℕ) → due_at f 0 ≡ 1
unfolding kind_due
head_due f = refl

limit_answered : (f : List ℕ) → RecordStands f 0 → ¬ HeadFits f → fault f 0 ≡ 4
limit_answered f w n =
    past_frame f 0 w ∙ records.body_1 f (head_of f) _ _ _ (head_due f)
    ∙ pick_true _ 4 0 (true_from_ne_false _ (λ e. n (head_fits f e)))

-- ---- the walk

module _ (f : List ℕ) where
  step : (i left : ℕ) → fault f i ≡ 0 → walk f (head_of f) (suc left) i (place f i) ≡ walk f (head_of f) left (suc i) (place f (suc i))
  unfolding walk place
  step i left z = pick_true _ _ _ (eq-eqb _ _ z)

  follow : (i start : ℕ) → start < length f → walk f (head_of f) 0 i start ≡ refused 7 start
  unfolding walk
  follow i start l = pick_true _ _ _ (lt-ltb _ _ l)

  -- up to record i, where those before it have no fault
  reached : (i left : ℕ) → i + left ≡ last_of (head_of f) + 1 → FitBefore f i → reading f ≡ walk f (head_of f) left i (place f i)
  unfolding reading place
  reached zero left e b = ap (λ (x : ℕ). walk f (head_of f) x 0 0) (sym (omega arith))
  reached (suc i) left e b =
      reached i (suc left) (omega arith) (λ j l. b j (omega arith))
      ∙ step i left (fits_answered f i (b i (omega arith)))

  -- record i has the fault r
  stops : (i r : ℕ) → Reached f i → fault f i ≡ r → r ≢ 0 → reading f ≡ refused r (place f i)
  unfolding walk
  stops i r b e n =
      reached i (suc (last_of (head_of f) - i)) (omega (arith, b.0)) b.1
      ∙ pick_false _ _ _ (ne_eqb _ _ (λ z. n (sym e ∙ z))) ∙ ap (λ (x : ℕ). refused x (place f i)) e

  explained_read : (r p : ℕ) → RefusedFor f r p → reading f ≡ refused r p
  explained_read n q (head_cut i b l) = stops i 1 b (cut_answered f i l) (λ z. omega arith)
  explained_read n q (kind_wrong i b a k) = stops i 2 b (kind_answered f i a k) (λ z. omega arith)
  explained_read n q (length_wrong i b a k w) = stops i 3 b (length_answered f i a k w) (λ z. omega arith)
  explained_read n q (body_cut i b a k w l) = stops i 1 b (body_answered f i a k w l) (λ z. omega arith)
  explained_read n q (limit_broken w l) = stops 0 4 (omega arith, λ j l. absurd (omega arith)) (limit_answered f w l) (λ z. omega arith)
  explained_read n q (entry_high i x b w k l y h) = stops i 5 b (entry_answered f i w k x l h) (λ z. omega arith)
  explained_read n q (term_wrong i j b w k l y h) = stops i 6 b (term_answered f i w k j l h) (λ z. omega arith)
  explained_read n q (bytes_follow b l) = reached (last_of (head_of f) + 1) 0 (omega arith) b ∙ follow _ _ l

-- a file is refused so exactly when the fault is there
pub refused_exactly : (f : List ℕ) (r p : ℕ) → (reading f ≡ refused r p) ↔ RefusedFor f r p
refused_exactly f r p = (refused_for f r p, explained_read f r p)
