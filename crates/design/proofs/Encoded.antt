-- The file of a well-formed design, as records by their numbers, reads as that design: each of its records stands where the walk meets it and has
-- no fault, and what stands there is the design's.
use Prim.Native.Nat.{ℕ, zero, suc, ◌+◌, ◌*◌, ◌-◌, ◌/◌, ◌%◌, ◌^◌, ◌≤◌, ◌<◌}
use mathlib.Core.Path.{◌≡◌, refl, sym, ap, ◌∙◌}
use mathlib.Core.List.{List, [], ◌∷◌, ◌++◌}
use mathlib.Core.Bool.{true, ◌||◌}
use Rattle.finite.specs.Tests.{tabulate}
use Rattle.finite.proofs.Testing.{all_intro, tabulate_of}
use Rattle.anf.specs.Terms.{before}
use Rattle.design.specs.Limits.{greatest_terms, Head}
use Rattle.records.specs.Bytes.{byte, u16_at, u32_at, two, four, term_bytes}
use Rattle.records.specs.Design.{Design, Stage, no_stage, stage_of, list_of}
use Rattle.anf.specs.Tables.{TableFits}
use Rattle.design.specs.WellFormed.{ListFits, WellFormed}
use Rattle.std.specs.List.{concat}
use Rattle.records.specs.Records.{a_record}
use Rattle.design.specs.Reading.{last_of, number_of, kind_due, size_due, length_due, entry_fits, previous, term_fits, fault_at}
use Rattle.design.specs.Reading.{means, reading, walk, place, head_of, meaning, stage_at, table_at, list_at}
use Rattle.design.specs.Inside.Framing.{frame_fault}
use Rattle.design.proofs.Flat.{head_for, stage_body, body_of, record_of, flat}
use Rattle.design.proofs.Records.{body_fault, body_1, body_2, body_3, body_4, fault_body, entry_fits_lem, term_fits_lem}
use Rattle.design.proofs.Walking.{place_next}
use Rattle.records.proofs.TermBytes.{little_four, length_term_bytes}
use Rattle.design.proofs.FileRecords.{staged, record_cases, number_low}
use Rattle.records.proofs.Concat.{concat_snoc, concat_at}
use Rattle.design.proofs.Meaning.{body_stage, body_end, kind_end, last_two}
use native.Mathlib.Omega.{arith}
use native.Mathlib.Numerals.{add-one}
use native.Mathlib.Nat.{add-zero}
use borrow.Author.Tests.{le-ltb, le-leb, eq-eqb, ne_eqb}
use lib.ListN.{length, get_or, drop, length-drop, length-append, get_or-append}
use lib.Seq.{get_or-drop, drop-drop, drop-append_seam, take-append_seam, drop-append-le}
use lib.Dec.{eqb}
use Rattle.finite.specs.Faults.{first_fault}

-- what stands at a place: a number of two bytes, of four bytes
module _ (f : List ℕ) (at : ℕ) where
  byte_of : (j : ℕ) (l : List ℕ) → drop at f ≡ l → byte f (at + j) ≡ get_or l j 0
  byte_of j l e = sym (get_or-drop at f j 0) ∙ ap (λ (x : List ℕ). get_or x j 0) e

  two_of : (n : ℕ) (l : List ℕ) → drop at f ≡ two n ++ l → u16_at f at ≡ n
  unfolding u16_at
  two_of n l e =
      let a : byte f at ≡ n % 256 = rw add-zero at (byte_of 0 _ e) in
      let b : byte f (at + 1) ≡ n / 256 = byte_of 1 _ e in
      omega arith

  four_of : (n : ℕ) (l : List ℕ) → drop at f ≡ four n ++ l → u32_at f at ≡ n
  unfolding u32_at
  four_of n l e =
      let a : byte f at ≡ n % 256 = rw add-zero at (byte_of 0 _ e) in
      let b : byte f (at + 1) ≡ n / 256 % 256 = byte_of 1 _ e in
      let c : byte f (at + 2) ≡ n / 65536 % 256 = byte_of 2 _ e in
      let d : byte f (at + 3) ≡ n / 16777216 = byte_of 3 _ e in
      rw (a, b, c, d) (little_four n)

-- a record of kind k and body b stands at `at`
pub record Holds (f : List ℕ) (at k : ℕ) (b : List ℕ) : Type 0 where
  pub size : u16_at f at ≡ length b
  pub kind : u16_at f (at + 2) ≡ k
  pub rest : List ℕ
  pub after : drop (at + 4) f ≡ b ++ rest
  pub fits : at + 4 + length b ≤ length f

holds : (f : List ℕ) (at k : ℕ) (b r : List ℕ) → drop at f ≡ a_record k b ++ r → Holds f at k b
unfolding a_record
holds f at k b r e =
    let x = ap length e in
    let y = length-drop at f in
    let z = length-append b r in
    record {
      size = two_of f at (length b) _ e;
      kind = two_of f (at + 2) k _ (sym (drop-drop 2 at f) ∙ ap (drop 2) e);
      rest = r;
      after = sym (drop-drop 4 at f) ∙ ap (drop 4) e;
      fits = omega arith;
    }

-- a record that holds has no fault in its frame
frame_zero : (f : List ℕ) (at k z : ℕ) (b : List ℕ) → Holds f at k b → length_due k z (length b) ≡ true → frame_fault f at k z ≡ 0
unfolding frame_fault first_fault
frame_zero f at k z b w l =
    let s = w.size in
    let d : length_due k z (u16_at f at) ≡ true = rw s l in
    let q : 4 ≤ length f - at = omega arith in
    let r : u16_at f at ≤ length f - at - 4 = omega arith in
    simp (le-ltb _ _ q, eq-eqb _ _ w.kind, d, le-ltb _ _ r)

fault_zero : (f : List ℕ) (h : Head) (i at k : ℕ) (b : List ℕ) → k ≡ kind_due h i → Holds f at k b → length_due k (size_due h k) (length b) ≡ true
    → body_fault f h k (at + 4) (length b) ≡ 0 → fault_at f h i at ≡ 0
fault_zero f h i at k b e w l c = fault_body f h i at k (size_due h k) e refl (frame_zero f at k (size_due h k) b w l) ∙ rw w.size c

-- a table's entries
table_zero : (f : List ℕ) (h : Head) (i at : ℕ) (b : List ℕ) → 2 ≡ kind_due h i → Holds f at 2 b → TableFits h.m b → fault_at f h i at ≡ 0
unfolding length_due size_due
table_zero f h i at b e w t =
    fault_zero f h i at 2 b e w (eq-eqb _ _ t.size)
    (body_2 f h 2 (at + 4) (length b) refl ∙ simp (all_intro (length b) (entry_fits f (at + 4) (2 ^ h.m)) λ x u.
    entry_fits_lem f (at + 4) (2 ^ h.m) x (rw (byte_of f (at + 4) x _ w.after ∙ get_or-append b w.rest 0 x u) (t.below x (rw t.size at u)))))

-- a list's terms
bytes_at : (ts : List ℕ) (j : ℕ) → j < length ts → (r : List ℕ) × (drop (4 * j) (term_bytes ts) ≡ four (get_or ts j 0) ++ r)
unfolding term_bytes
bytes_at [] j h = absurd (omega arith)
bytes_at (t ∷ ts) zero h = (term_bytes ts, refl)
bytes_at (t ∷ ts) (suc j) h =
    let e : 4 * suc j ≡ suc (suc (suc (suc (4 * j)))) = omega arith in
    let r = bytes_at ts j (omega arith) in
    (r.0, rw e r.1)

term_in : (f : List ℕ) (at k : ℕ) (ts : List ℕ) → Holds f at k (term_bytes ts) → (j : ℕ) → j < length ts → u32_at f (at + 4 + 4 * j) ≡ get_or ts j 0
term_in f at k ts w j h =
    let r = bytes_at ts j h in
    let l = length_term_bytes ts in
    four_of f (at + 4 + 4 * j) (get_or ts j 0) (r.0 ++ w.rest)
    (sym (drop-drop (4 * j) (at + 4) f) ∙ ap (drop (4 * j)) w.after ∙ drop-append-le (4 * j) (term_bytes ts) w.rest (omega arith) ∙ ap (λ (x : List ℕ). x ++ w.rest) r.1)

rises_in : (f : List ℕ) (at n : ℕ) (ts : List ℕ) → Holds f at 3 (term_bytes ts) → ListFits n ts → (j : ℕ) → j < length ts
    → (eqb j 0 || before (previous f (at + 4) j) (u32_at f (at + 4 + 4 * j))) ≡ true
unfolding previous
rises_in f at n ts w t zero u = refl
rises_in f at n ts w t (suc j) u =
    rw (ne_eqb (suc j) 0 (λ z. omega arith), term_in f at 3 ts w j (omega arith), term_in f at 3 ts w (suc j) u) (rw add-one at (t.terms.rising j (omega arith)))

list_zero : (f : List ℕ) (h : Head) (i at : ℕ) (ts : List ℕ) → 3 ≡ kind_due h i → Holds f at 3 (term_bytes ts) → ListFits (h.m * h.s) ts → fault_at f h i at ≡ 0
unfolding length_due size_due
list_zero f h i at ts e w t =
    let l = length_term_bytes ts in
    let z = t.size in
    let q : length (term_bytes ts) / 4 ≡ length ts = omega arith in
    let m : length (term_bytes ts) % 4 ≡ 0 = omega arith in
    let n : length (term_bytes ts) ≤ 4 * greatest_terms = omega arith in
    fault_zero f h i at 3 (term_bytes ts) e w (simp (eq-eqb _ _ m, le-leb _ _ n))
    (body_3 f h 3 (at + 4) (length (term_bytes ts)) refl ∙ rw q (simp (all_intro (length ts) (term_fits f (at + 4) (2 ^ (h.m * h.s))) λ j u.
    term_fits_lem f (at + 4) (2 ^ (h.m * h.s)) j (rises_in f at (h.m * h.s) ts w t j u) (rw (term_in f at 3 ts w j u) (t.terms.below j u)))))

holds_table : (f : List ℕ) (at k : ℕ) (b : List ℕ) (n : ℕ) → Holds f at k b → length b ≡ n → table_at f at n ≡ b
unfolding table_at
holds_table f at k b n w e = rw (← e, w.after) (take-append_seam b w.rest)

holds_list : (f : List ℕ) (at : ℕ) (ts : List ℕ) → Holds f at 3 (term_bytes ts) → list_at f at ≡ ts
unfolding list_at
holds_list f at ts w =
    let l = length_term_bytes ts in
    let s = w.size in
    let q : u16_at f at / 4 ≡ length ts = omega arith in
    rw q (tabulate_of ts (length ts) (λ j. u32_at f (at + 4 + 4 * j)) 0 refl (term_in f at 3 ts w))

-- a walk over records without fault
walk_through : (f : List ℕ) (h : Head) (left i at : ℕ) → at ≡ place f i → ((j : ℕ) → j < i + left → fault_at f h j (place f j) ≡ 0)
    → length f ≤ place f (i + left) → walk f h left i at ≡ means (meaning f)
unfolding walk
walk_through f h zero i at p e l =
    let q : length f ≤ at = rw (p, ← add-zero i) l in
    simp (le-ltb _ _ q)
walk_through f h (suc left) i at p e l =
    let z : fault_at f h i at ≡ 0 = rw p (e i (omega arith)) in
    let q : at + 4 + u16_at f at ≡ place f (suc i) = rw p (sym (rw add-one at (place_next f i))) in
    let k : i + suc left ≡ suc i + left = omega arith in
    simp z (walk_through f h left (suc i) (at + 4 + u16_at f at) q (λ j u. e j (omega arith)) (rw k at l))

pub stage_eq : (a b : Stage) → a.table ≡ b.table → a.lists ≡ b.lists → a ≡ b
stage_eq a b p q = λ i. record { table = p i; lists = q i }

pub design_eq : (a b : Design) → a.m ≡ b.m → a.s ≡ b.s → a.k ≡ b.k → a.box ≡ b.box → a.stages ≡ b.stages → a ≡ b
design_eq a b m s k x y = λ i. record { m = m i; s = s i; k = k i; box = x i; stages = y i }

module _ (d : Design) (w : WellFormed d) where
  abbrev at : ℕ → ℕ
  at i = length (concat (tabulate i (record_of d)))

  stands_at : (i : ℕ) → i < last_of (head_for d) + 1 → Holds (flat d) (at i) (kind_due (head_for d) i) (body_of d i)
  unfolding flat record_of
  stands_at i u =
      let r = concat_at (record_of d) (last_of (head_for d) + 1) i u in
      holds (flat d) (at i) (kind_due (head_for d) i) (body_of d i) r.0 (ap (drop (at i)) r.1 ∙ drop-append_seam (concat (tabulate i (record_of d))) _)

  at_zero : place (flat d) 0 ≡ at 0
  unfolding place tabulate
  at_zero = refl

  at_next : (i : ℕ) → at (suc i) ≡ at i + 4 + length (body_of d i)
  unfolding record_of a_record
  at_next i =
      let e : length (record_of d i) ≡ suc (suc (suc (suc (length (body_of d i))))) = refl in
      ap length (concat_snoc (record_of d) i) ∙ length-append (concat (tabulate i (record_of d))) (record_of d i) ∙ omega arith

  place_is : (i : ℕ) → i < last_of (head_for d) + 2 → place (flat d) i ≡ at i
  place_is zero u = at_zero
  place_is (suc i) u =
      let e = place_is i (omega arith) in
      let s = stands_at i (omega arith) in
      let n : place (flat d) (suc i) ≡ place (flat d) i + 4 + u16_at (flat d) (place (flat d) i) = rw add-one at (place_next (flat d) i) in
      let z : u16_at (flat d) (place (flat d) i) ≡ length (body_of d i) = rw e s.size in
      let m = at_next i in
      omega arith

  pub record_at : (i : ℕ) → i < last_of (head_for d) + 1 → Holds (flat d) (place (flat d) i) (kind_due (head_for d) i) (body_of d i)
  record_at i u = rw (place_is i (omega arith)) (stands_at i u)

  head_is : head_of (flat d) ≡ head_for d
  unfolding place body_of
  head_is =
      let x = record_at 0 (omega arith) in
      let a : byte (flat d) 4 ≡ d.m = byte_of (flat d) 4 0 _ x.after in
      let b : byte (flat d) 5 ≡ d.s = byte_of (flat d) 4 1 _ x.after in
      let c : byte (flat d) 6 ≡ d.k = byte_of (flat d) 4 2 _ x.after in
      λ i. record { m = a i; s = b i; k = c i }

  abbrev None : ℕ → Type 0
  None i = fault_at (flat d) (head_for d) i (place (flat d) i) ≡ 0

  none_head : None 0
  unfolding kind_due size_due length_due body_of
  none_head = fault_zero (flat d) (head_for d) 0 _ 1 (body_of d 0) refl (record_at 0 (omega arith)) refl (body_1 _ _ 1 _ _ refl ∙ simp w.limits)

  none_box : None 1
  unfolding kind_due body_of
  none_box = table_zero (flat d) (head_for d) 1 _ d.box refl (record_at 1 (let q = last_two (head_for d) in omega arith)) w.box

  none_end : None (last_of (head_for d))
  unfolding length_due size_due
  none_end =
      let x = rw (kind_end (head_for d), body_end d) at (record_at (last_of (head_for d)) (omega arith)) in
      fault_zero (flat d) (head_for d) _ _ 4 [] (sym (kind_end (head_for d))) x refl (body_4 _ _ 4 _ _ (λ e. omega arith) (λ e. omega arith) (λ e. omega arith))

  -- a stage's record
  module _ (t : ℕ) (a : t < d.k) where
    pub table_at_lem : Holds (flat d) (place (flat d) (number_of (head_for d) t 0)) 2 (stage_of d t).table
    unfolding stage_body
    table_at_lem =
        rw (staged (head_for d) t 0 a (omega arith), body_stage d t 0 a (omega arith)) at
        (record_at (number_of (head_for d) t 0) (let q = number_low (head_for d) t 0 a (omega arith) in omega arith))

    kind_list : (l : ℕ) → suc l ≤ d.m * d.s → kind_due (head_for d) (number_of (head_for d) t (suc l)) ≡ 3
    kind_list l b = staged (head_for d) t (suc l) a b ∙ simp (ne_eqb (suc l) 0 (λ z. omega arith))

    pub list_at_lem : (l : ℕ) → suc l ≤ d.m * d.s → Holds (flat d) (place (flat d) (number_of (head_for d) t (suc l))) 3 (term_bytes (list_of d t l))
    unfolding stage_body
    list_at_lem l b =
        rw (kind_list l b, body_stage d t (suc l) a b) at
        (record_at (number_of (head_for d) t (suc l)) (let q = number_low (head_for d) t (suc l) a b in omega arith))

    none_stage : (l : ℕ) → l ≤ d.m * d.s → None (number_of (head_for d) t l)
    none_stage zero b = table_zero (flat d) (head_for d) _ _ _ (sym (staged (head_for d) t 0 a b)) table_at_lem (w.stage t a).table
    none_stage (suc l) b = list_zero (flat d) (head_for d) _ _ _ (sym (kind_list l b)) (list_at_lem l b) ((w.stage t a).list l b)

  none_at : (i : ℕ) → i < last_of (head_for d) + 1 → None i
  none_at = record_cases (head_for d) None none_head none_box none_end (λ t l a b. none_stage t a l b)

  pub reads : reading (flat d) ≡ means (meaning (flat d))
  unfolding reading place flat
  reads =
      let e = place_is (last_of (head_for d) + 1) (omega arith) in
      let z : 0 + (last_of (head_for d) + 1) ≡ last_of (head_for d) + 1 = omega arith in
      rw head_is (walk_through (flat d) (head_for d) (last_of (head_for d) + 1) 0 0 refl (λ j u. none_at j (omega arith)) (rw z (omega arith)))

  stages_are : tabulate d.k (stage_at (flat d) (head_for d)) ≡ d.stages
  unfolding stage_at
  stages_are = tabulate_of d.stages d.k (stage_at (flat d) (head_for d)) no_stage w.count (λ t a.
      stage_eq _ _ (holds_table _ _ 2 _ _ (table_at_lem t a) (w.stage t a).table.size)
      (tabulate_of (stage_of d t).lists (d.m * d.s) _ [] (w.stage t a).count (λ l b. rw add-one (holds_list _ _ _ (list_at_lem t a l b)))))

  box_is : table_at (flat d) (place (flat d) 1) (2 ^ d.m) ≡ d.box
  unfolding kind_due body_of
  box_is = holds_table _ _ 2 _ _ (record_at 1 (let q = last_two (head_for d) in omega arith)) w.box.size

  means_it : meaning (flat d) ≡ d
  unfolding meaning
  means_it = design_eq (meaning (flat d)) d (ap (λ (h : Head). h.m) head_is) (ap (λ (h : Head). h.s) head_is) (ap (λ (h : Head). h.k) head_is)
      (ap (λ (h : Head). table_at (flat d) (place (flat d) 1) (2 ^ h.m)) head_is ∙ box_is) (ap (λ (h : Head). tabulate h.k (stage_at (flat d) h)) head_is ∙ stages_are)

  pub flat_reads : reading (flat d) ≡ means d
  flat_reads = reads ∙ ap means means_it
