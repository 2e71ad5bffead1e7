-- What producing promises, of a permutation within the limits: 21 is answered exactly when the placement does not load, and 16, where it loads,
-- exactly when the box cannot be shared, over all component functions; and what is produced reads as the direct sharing, whose stage is correct and non-complete.
use mathlib.Core.Path.{◌≡◌, refl, sym, ap, ◌∙◌, subst}
use mathlib.Core.Logic.{◌↔◌, ⊎_elim, ◌≢◌}
use mathlib.Core.Bool.{true, false}
use mathlib.Core.List.{List, [], ◌∷◌}
use Prim.Native.Nat.{ℕ, ◌^◌, ◌≤◌, ◌<◌}
use native.Mathlib.Decide.{dec_lt}
use native.Mathlib.Omega.{arith}
use lib.Dec.{ltb, leb}
use lib.ListN.{length, take, drop}
use borrow.Author.Tests.{eqb-true, leb-true, leb-false, ltb-false, lt-ltb, le-ltb, not-false}
use Rattle.finite.specs.Faults.{first_fault}
use Rattle.std.proofs.lemmas.Bool.{cases_Bool, false_from_ne_true}
use Rattle.finite.proofs.Testing.{pick_true}
use Rattle.finite.proofs.Maps.{repeats→injective, injective→repeats}
use Rattle.finite.proofs.Faults.{fault_here, fault_past, fault_none, other_fault, no_fault}
use Rattle.anf.specs.Tables.{entry}
use Rattle.anf.specs.NormalForm.{degree}
use Rattle.anf.proofs.Tables.{entries_at, entries_intro}
use Rattle.design.specs.Limits.{broken}
use Rattle.records.specs.Encode.{encode}
use Rattle.design.specs.Reading.{means, reading}
use Rattle.design.proofs.Limits.{bounds, head_number}
use Rattle.design.proofs.Theorems.{encode_reads}
use Rattle.records.proofs.Output.{success_file, success_rest, refusal_after}
use Rattle.sharing.specs.Stages.{component, Correct, NonComplete}
use Rattle.sharing.specs.Chain.{chained}
use Rattle.direct.specs.Direct.{loads, Loads, placed, component_for, published, direct_stage, direct_sharing, Shareable, Box}
use Rattle.producer.specs.Producing.{produced, produced_reason, Succeeds, output_after}
use Rattle.producer.proofs.Tests.{TableTested, table_tested, reason_placement, reason_degree, reason_last}
use Rattle.direct.proofs.PlacementTables.{loaded, loading, placed_outside, published_loads, published_rule}
use Rattle.direct.proofs.Stage.{sharing_congr, direct_correct, direct_non_complete}
use Rattle.direct.proofs.WellFormed.{sharing_formed}
use Rattle.direct.proofs.Shareable.{shareable_low, low_shareable}

-- what is known where every test but the last has passed, and n is answered
pub record PastDegree (m s : ℕ) (t l : List ℕ) (room n : ℕ) : Type 0 where
  pub box : Box m s t
  pub placement : Loads s l
  pub low : degree m (entry t) < s
  pub last : first_fault ((ltb room (length (produced m s t l)), 17) ∷ []) 0 ≡ n

module _ (m s : ℕ) (t l : List ℕ) (room : ℕ) where
  -- a permutation within the limits passes the tests that come before 16
  tested : Box m s t → TableTested m s t l room
  tested b =
      table_tested m s t l room b.limits b.table.size
      (entries_intro t (2 ^ m) (λ x h. b.table.below x (subst (λ (n : ℕ). x < n) b.table.size h)))
      (injective→repeats (2 ^ m) (entry t) b.injective)

  -- an answer of 0 or 17 says that the tests before the last have passed
  pub past_degree : (n : ℕ) → ((k : ℕ) → 0 < k → k ≢ 17 → k ≢ n) → produced_reason m s t l room ≡ n → PastDegree m s t l room n
  unfolding produced_reason
  past_degree n away e =
      let b : broken m s 1 ≡ false =
      false_from_ne_true (broken m s 1) (λ z. away 4 (omega arith) (λ q. omega arith)
      (sym (head_number m s 1 ∙ pick_true (broken m s 1) 4 0 z) ∙ sym (fault_here (broken m s 1) _ _ 0 z) ∙ e)) in
      let size = other_fault _ 3 _ 0 n (away 3 (omega arith) (λ q. omega arith)) (sym (fault_past (broken m s 1) _ _ 0 b) ∙ e) in
      let below = other_fault _ 5 _ 0 n (away 5 (omega arith) (λ q. omega arith)) size.1 in
      let once = other_fault _ 8 _ 0 n (away 8 (omega arith) (λ q. omega arith)) below.1 in
      let placement = other_fault _ 21 _ 0 n (away 21 (omega arith) (λ q. omega arith)) once.1 in
      let low = other_fault _ 16 _ 0 n (away 16 (omega arith) (λ q. omega arith)) placement.1 in
      let z : length t ≡ 2 ^ m = eqb-true _ _ (not-false _ size.0) in
      record {
        box = record {
          limits = b;
          table = record { size = z; below = λ x h. entries_at t (2 ^ m) (not-false _ below.0) x (subst (λ (k : ℕ). x < k) (sym z) h) };
          injective = repeats→injective (2 ^ m) (entry t) once.0;
        };
        placement = loaded s l (not-false _ placement.0);
        low = leb-false _ _ low.0;
        last = low.1;
      }

  -- ---- 21

  -- for a permutation within the limits 21 is answered exactly when the placement does not load
  pub twenty_one_exactly : Box m s t → produced_reason m s t l room ≡ 21 ↔ (Loads s l → ⊥)
  twenty_one_exactly b = (to, from)
    where
      to : produced_reason m s t l room ≡ 21 → Loads s l → ⊥
      to e a = at (dec_lt (degree m (entry t)) s)
        where
          at : Dec (degree m (entry t) < s) → ⊥
          at (yes low) =
              let last = other_fault _ 17 [] 0 21 (λ q. omega arith) (sym (reason_last m s t l room (tested b) (loading s l a) low) ∙ e) in
              let z : ◌≡◌ {A = ℕ} 0 21 = sym (fault_none 0) ∙ last.1 in
              omega arith
          at (no high) =
              let z : ◌≡◌ {A = ℕ} 16 21 = sym (reason_degree m s t l room (tested b) (loading s l a) (omega arith)) ∙ e in omega arith

      from : (Loads s l → ⊥) → produced_reason m s t l room ≡ 21
      from n = reason_placement m s t l room (tested b) (false_from_ne_true (loads s l) (λ e. n (loaded s l e)))

  -- ---- 16

  some : Box m s t → 1 ≤ s
  some b = omega (arith, (bounds m s 1 b.limits).s_low)

  -- for a permutation within the limits and a placement that loads 16 is answered exactly when no component functions share it correctly and non-completely
  pub sixteen_exactly : Box m s t → Loads s l → produced_reason m s t l room ≡ 16 ↔ (Shareable m s t → ⊥)
  sixteen_exactly b a = (to, from)
    where
      to : produced_reason m s t l room ≡ 16 → Shareable m s t → ⊥
      to e F =
          let last = other_fault _ 17 [] 0 16 (λ q. omega arith) (sym (reason_last m s t l room (tested b) (loading s l a) (shareable_low m s t (some b) F)) ∙ e) in
          let z : ◌≡◌ {A = ℕ} 0 16 = sym (fault_none 0) ∙ last.1 in
          omega arith

      from : (Shareable m s t → ⊥) → produced_reason m s t l room ≡ 16
      from n =
          ⊎_elim (λ (q : leb s (degree m (entry t)) ≡ true). reason_degree m s t l room (tested b) (loading s l a) (leb-true s (degree m (entry t)) q))
          (λ (q : leb s (degree m (entry t)) ≡ false). absurd (n (low_shareable m s t (some b) b.table (leb-false s (degree m (entry t)) q))))
          (cases_Bool (leb s (degree m (entry t))))

  -- ---- 17 and 0

  -- for a permutation within the limits, of degree below s, and a placement that loads the file's length decides
  pub seventeen_exactly : Box m s t → Loads s l → degree m (entry t) < s → produced_reason m s t l room ≡ 17 ↔ (room < length (produced m s t l))
  seventeen_exactly b a low = (to, λ h. reason_last m s t l room (tested b) (loading s l a) low ∙ fault_here _ 17 _ 0 (lt-ltb _ _ h))
    where
      to : produced_reason m s t l room ≡ 17 → room < length (produced m s t l)
      to e = at (dec_lt room (length (produced m s t l)))
        where
          at : Dec (room < length (produced m s t l)) → room < length (produced m s t l)
          at (yes h) = h
          at (no f) =
              let h : length (produced m s t l) ≤ room = omega arith in
              let past = fault_past {A = ℕ} (ltb room (length (produced m s t l))) 17 [] 0 (le-ltb room (length (produced m s t l)) h) in
              let z : ◌≡◌ {A = ℕ} 0 17 = sym (fault_none 0) ∙ sym past ∙ sym (reason_last m s t l room (tested b) (loading s l a) low) ∙ e in
              absurd (omega arith)

  -- 0 is answered exactly for a permutation within the limits, of degree below s, and a placement that loads, whose file fits
  pub success_exactly : produced_reason m s t l room ≡ 0 ↔ Succeeds m s t l room
  success_exactly = (to, from)
    where
      to : produced_reason m s t l room ≡ 0 → Succeeds m s t l room
      to e =
          let p = past_degree 0 (λ k h g z. omega arith) e in
          record { box = p.box; loads = p.placement; low = p.low; fits = ltb-false _ _ (no_fault _ 17 [] (omega arith) p.last).0 }

      from : Succeeds m s t l room → produced_reason m s t l room ≡ 0
      from a = reason_last m s t l room (tested a.box) (loading s l a.loads) a.low ∙ fault_past _ 17 _ 0 (le-ltb _ _ a.fits) ∙ fault_none 0

-- ---- what is produced

-- The produced file reads, its chain of tables is the box, and its one stage is correct and non-complete. So with enough workspace no verdict but 0 and 14
-- is left.
pub record ProducedSound (m s : ℕ) (t l : List ℕ) : Type 0 where
  pub reads : reading (produced m s t l) ≡ means (direct_sharing m s (placed s l) t)
  pub chain : (x : ℕ) → chained (direct_sharing m s (placed s l) t).stages x ≡ entry t x
  pub correctly : Correct m s (component m (direct_stage m s (placed s l) t).lists) t
  pub non_completely : NonComplete m s (component m (direct_stage m s (placed s l) t).lists)

pub produced_sound : (m s : ℕ) (t l : List ℕ) → Box m s t → Loads s l → degree m (entry t) < s → ProducedSound m s t l
unfolding direct_sharing direct_stage chained
produced_sound m s t l b a low = record {
  reads = unfold produced in encode_reads (direct_sharing m s (placed s l) t) (sharing_formed m s (placed s l) t b.limits b.table);
  chain = λ x. refl;
  correctly = direct_correct m s (placed s l) (placed_outside s l a) t b.table low;
  non_completely = direct_non_complete m s (placed s l) (placed_outside s l a) t;
}

-- the published placement loads, and gives the file of the sharing by the published rule
pub published_placement : (m s : ℕ) (t : List ℕ) → broken m s 1 ≡ false
    → Loads s (published s) × (produced m s t (published s) ≡ encode (direct_sharing m s (component_for s) t))
unfolding produced
published_placement m s t h =
    let b = bounds m s 1 h in (
      published_loads s b.s_low b.s_high,
      ap encode (sharing_congr m s (placed s (published s)) (component_for s) (published_rule s b.s_low b.s_high) t),
    )

-- ---- the lent output

module _ (m s : ℕ) (t l out : List ℕ) where
  -- on success the file stands at its start, whatever stood there: its bytes depend on m, s, the table and the placement alone
  pub output_file : produced_reason m s t l (length out) ≡ 0 → take (length (produced m s t l)) (output_after m s t l out) ≡ produced m s t l
  output_file e = success_file _ (produced m s t l) e out

  -- and past the file nothing has changed
  pub output_rest : produced_reason m s t l (length out) ≡ 0 → drop (length (produced m s t l)) (output_after m s t l out) ≡ drop (length (produced m s t l)) out
  output_rest e = success_rest _ (produced m s t l) e out

  -- a refusal leaves the output untouched
  pub output_refused : produced_reason m s t l (length out) ≢ 0 → output_after m s t l out ≡ out
  output_refused n = refusal_after _ (produced m s t l) n out
