-- What a refusal says of the file: the first record with a fault, and of its tests the first that fails. So the reason is from 1 to 7.
-- Assumes nothing.
use Prim.Native.Nat.{ℕ, zero, suc, ◌+◌, ◌*◌, ◌-◌, ◌/◌, ◌%◌, ◌^◌, ◌≤◌, ◌<◌}
use mathlib.Core.Path.{◌≡◌, refl, sym, ap, ◌∙◌, subst}
use mathlib.Core.List.{List, ◌∷◌}
use mathlib.Core.Bool.{Bool, true, false, ◌||◌, true≢false, not}
use mathlib.Core.Logic.{⊎_elim}
use native.Mathlib.Omega.{arith}
use borrow.Author.Tests.{eqb-false, eqb-true, ltb-true, ltb-false, eq-eqb, lt-ltb, ne_eqb, not-false, not-true, le-leb}
use lib.ListN.{length}
use lib.Dec.{ltb, eqb, lit<}
use native.Mathlib.Nat.{not-suc-le-zero}
use native.Mathlib.Numerals.{add-one}
use Rattle.finite.specs.Tests.{pick, all}
use Rattle.finite.specs.Faults.{first_fault}
use Rattle.finite.proofs.Testing.{all_at, all_not, clash, below, pick_passed, pick_missed}
use Rattle.std.proofs.lemmas.Bool.{cases_Bool, and_from, or_right, and_parts}
use Rattle.finite.proofs.Faults.{fault_cases}
use Rattle.anf.specs.Terms.{before}
use Rattle.design.specs.Limits.{greatest_terms, broken, Head}
use Rattle.records.specs.Bytes.{u16_at}
use Rattle.design.specs.Reading.{refused, means}
use Rattle.design.specs.Reading.{last_of, head_of, kind_due, size_due, length_due, entry_fits, term_fits, previous, fault_at, meaning, place, walk, reading, body_faults}
use Rattle.design.specs.Refused.{HeadFits, LengthFits, TermFits, RecordStands, RecordFits, FitBefore, Reached, term_at, kind_at}
use Rattle.design.specs.Refused.{RefusedFor, head_cut, kind_wrong, length_wrong, body_cut, limit_broken, entry_high, term_wrong, bytes_follow}
use Rattle.design.proofs.Limits.{bounds, unbroken}
use Rattle.design.proofs.Records.{body_fault, Framed, body_1, body_2, body_3, body_none, fault_framed, previous_more, entry_below, entry_not, body_4}
use Rattle.design.proofs.Meaning.{list_size}
use Rattle.design.proofs.Walking.{place_next}

-- ---- the tests, as propositions

-- record 0 is the head; every other is a table, a list or the end
pub data Kind (i : ℕ) : ℕ → Type 0 where
  is_head : i ≡ 0 → Kind i 1
  is_table : Kind i 2
  is_list : Kind i 3
  is_end : Kind i 4

pub kind_cases : (h : Head) (i : ℕ) → Kind i (kind_due h i)
unfolding kind_due
kind_cases h i = go (eqb i 0) refl (eqb i 1) (eqb i (last_of h)) (eqb ((i - 2) % (1 + h.m * h.s)) 0)
  where
    go : (a : Bool) → eqb i 0 ≡ a → (b c d : Bool) → Kind i (pick a 1 (pick b 2 (pick c 4 (pick d 2 3))))
    go true e b c d = is_head (eqb-true i 0 e)
    go false e true c d = is_table
    go false e false true d = is_end
    go false e false false true = is_table
    go false e false false false = is_list

-- the length that is due
pub length_fits : (h : Head) (kind n : ℕ) → length_due kind (size_due h kind) n ≡ true → LengthFits h kind n
unfolding length_due size_due
length_fits h kind n e = record {
  of_head = λ k. eqb-true n 3 (rw k at e);
  of_table = λ k. eqb-true n (2 ^ h.m) (rw k at e);
  of_list = λ k. list_size (4 * greatest_terms) n (rw k at e);
  of_end = λ k. eqb-true n 0 (rw k at e);
}

pub length_not : (h : Head) (i kind n : ℕ) → Kind i kind → length_due kind (size_due h kind) n ≡ false → LengthFits h kind n → ⊥
unfolding length_due size_due
length_not h i kind n (is_head z) e w = clash (eq-eqb n 3 (w.of_head refl)) e
length_not h i kind n is_table e w = clash (eq-eqb n (2 ^ h.m) (w.of_table refl)) e
length_not h i kind n is_list e w = let q = w.of_list refl in clash (and_from _ _ (eq-eqb (n % 4) 0 q.0) (le-leb n (4 * greatest_terms) q.1)) e
length_not h i kind n is_end e w = clash (eq-eqb n 0 (w.of_end refl)) e

-- the head's limits
pub head_fits : (f : List ℕ) → broken (head_of f).m (head_of f).s (head_of f).k ≡ false → HeadFits f
head_fits f e =
    let b = bounds (head_of f).m (head_of f).s (head_of f).k e in
    record {
      least_m = b.m_low;
      greatest_m = b.m_high;
      least_s = b.s_low;
      greatest_s = b.s_high;
      greatest_bits = b.bits;
      least_k = b.k_low;
      greatest_k = b.k_high;
    }

pub head_unbroken : (f : List ℕ) → HeadFits f → broken (head_of f).m (head_of f).s (head_of f).k ≡ false
head_unbroken f w = unbroken _ _ _ w.least_m w.greatest_m w.least_s w.greatest_s w.greatest_bits w.least_k w.greatest_k

-- term j of record i
module _ (f : List ℕ) (i : ℕ) where
  abbrev fits : ℕ → Bool
  fits = term_fits f (place f i + 4) (2 ^ ((head_of f).m * (head_of f).s))

  pub term_fits_lem : (j : ℕ) → fits j ≡ true → TermFits f i j
  unfolding term_fits
  term_fits_lem j e = record {
    below = ltb-true _ _ (and_parts (eqb j 0 || before (previous f (place f i + 4) j) (term_at f i j)) _ e).1;
    rises = λ l q.
        let a : before (previous f (place f i + 4) j) (term_at f i j) ≡ true =
        or_second (eqb j 0) _ (ne_eqb j 0 (λ z. omega arith)) (and_parts (eqb j 0 || before (previous f (place f i + 4) j) (term_at f i j)) _ e).0 in
        ap (λ (x : ℕ). before x (term_at f i j)) (sym (ap (previous f (place f i + 4)) q ∙ previous_more f (place f i + 4) 0 l)) ∙ a;
  }
    where
      or_second : (a b : Bool) → a ≡ false → (a || b) ≡ true → b ≡ true
      or_second true b p q = absurd (true≢false p)
      or_second false b p q = q

  pub term_not : (j : ℕ) → fits j ≡ false → TermFits f i j → ⊥
  unfolding term_fits previous
  term_not j e w = clash (and_from _ _ (rise j w.rises) (lt-ltb _ _ w.below)) e
    where
      rise : (k : ℕ) → ((l : ℕ) → k ≡ l + 1 → before (term_at f i l) (term_at f i k) ≡ true) → (eqb k 0 || before (previous f (place f i + 4) k) (term_at f i k)) ≡ true
      rise zero r = refl
      rise (suc l) r = or_right (eqb (suc l) 0) _ (r l (omega arith))

-- ---- a record of the file, which starts at `place f i`

module _ (f : List ℕ) (i : ℕ) where
  abbrev start : ℕ
  start = place f i

  abbrev kind : ℕ
  kind = kind_due (head_of f) i

  stands : Framed f start kind (size_due (head_of f) kind) → RecordStands f i
  stands w = record { head = w.head; kind = w.kind; size = length_fits (head_of f) kind (u16_at f start) w.size; rest = w.rest }

  head_kind : i ≡ 0 → kind ≡ 1
  unfolding kind_due
  head_kind q = rw q refl

  -- without fault
  record_fits : fault_at f (head_of f) i start ≡ 0 → RecordFits f i
  record_fits e =
      let w = stands (fault_framed f (head_of f) i start e) in
      let z = body_none f (head_of f) i start e in
      record {
        stands = w;
        limits = λ q. head_fits f (pick_missed _ 4 (lit< tt) (sym (body_1 f (head_of f) kind (start + 4) (u16_at f start) (head_kind q)) ∙ z));
        entries = λ q x l.
            let c : all (u16_at f start) (entry_fits f (start + 4) (2 ^ (head_of f).m)) ≡ true =
            pick_passed _ 5 (lit< tt) (sym (body_2 f (head_of f) kind (start + 4) (u16_at f start) q) ∙ z) in
            entry_below f (start + 4) (2 ^ (head_of f).m) x (all_at _ _ c x (omega (arith, w.size.of_table q)));
        terms = λ q j l.
            term_fits_lem f i j (all_at _ _ (pick_passed _ 6 (lit< tt) (sym (body_3 f (head_of f) kind (start + 4) (u16_at f start) q) ∙ z)) j l);
      }

  -- with a fault r, where no record before it has one
  module _ (r : ℕ) (n : r ≡ 0 → ⊥) (reached : Reached f i) where
    -- in its body: by its kind
    body_refused : RecordStands f i → body_fault f (head_of f) kind (start + 4) (u16_at f start) ≡ r → RefusedFor f r start
    body_refused w e = go kind refl (kind_cases (head_of f) i)
      where
        go : (k : ℕ) → kind ≡ k → Kind i k → RefusedFor f r start
        go k q (is_head z) =
            ⊎_elim
            (λ b. let c : 4 ≡ r = sym (ap (λ (x : Bool). pick x 4 0) b) ∙ sym (body_1 f (head_of f) kind (start + 4) (u16_at f start) q) ∙ e in
            let g : RefusedFor f 4 (place f 0) = limit_broken (subst (RecordStands f) z w) (λ e. clash b (head_unbroken f e)) in
            subst (λ (x : ℕ). RefusedFor f x start) c (subst (λ (x : ℕ). RefusedFor f 4 (place f x)) (sym z) g))
            (λ b. absurd (n (sym e ∙ body_1 f (head_of f) kind (start + 4) (u16_at f start) q ∙ ap (λ (x : Bool). pick x 4 0) b)))
            (cases_Bool (broken (head_of f).m (head_of f).s (head_of f).k))
        go k q is_table =
            ⊎_elim
            (λ b. absurd (n (sym e ∙ body_2 f (head_of f) kind (start + 4) (u16_at f start) q ∙ ap (λ (x : Bool). pick x 0 5) b)))
            (λ b. let c : 5 ≡ r = sym (ap (λ (x : Bool). pick x 0 5) b) ∙ sym (body_2 f (head_of f) kind (start + 4) (u16_at f start) q) ∙ e in
            let x = all_not _ _ b in
            rw (← c) (entry_high i x.0 reached w q (omega (arith, w.size.of_table q, x.1))
            (λ y l. entry_below f (start + 4) (2 ^ (head_of f).m) y (all_at _ _ x.2 y l)) (entry_not f (start + 4) (2 ^ (head_of f).m) x.0 x.3)))
            (cases_Bool (all (u16_at f start) (entry_fits f (start + 4) (2 ^ (head_of f).m))))
        go k q is_list =
            ⊎_elim
            (λ b. absurd (n (sym e ∙ body_3 f (head_of f) kind (start + 4) (u16_at f start) q ∙ ap (λ (x : Bool). pick x 0 6) b)))
            (λ b. let c : 6 ≡ r = sym (ap (λ (x : Bool). pick x 0 6) b) ∙ sym (body_3 f (head_of f) kind (start + 4) (u16_at f start) q) ∙ e in
            let x = all_not _ _ b in
            rw (← c) (term_wrong i x.0 reached w q x.1 (λ l u. term_fits_lem f i l (all_at _ _ x.2 l u)) (term_not f i x.0 x.3)))
            (cases_Bool (all (u16_at f start / 4) (fits f i)))
        go k q is_end =
            absurd (n (sym e ∙ body_4 f (head_of f) kind (start + 4) (u16_at f start) (λ z. omega (arith, q, z)) (λ z. omega (arith, q, z)) (λ z. omega (arith, q, z))))

    -- the tests that are left, from the last of the frame back to the first
    abbrev last_faults : List (Bool × ℕ)
    last_faults = (ltb (length f - start - 4) (u16_at f start), 1) ∷ body_faults f (head_of f) kind (start + 4) (u16_at f start)

    abbrev length_faults : List (Bool × ℕ)
    length_faults = (not (length_due kind (size_due (head_of f) kind) (u16_at f start)), 3) ∷ last_faults

    abbrev kind_faults : List (Bool × ℕ)
    kind_faults = (not (eqb (u16_at f (start + 2)) kind), 2) ∷ length_faults

    module _ (h : start + 4 ≤ length f) where
      last_refused : kind_at f i ≡ kind → LengthFits (head_of f) kind (u16_at f start) → first_fault last_faults 0 ≡ r → RefusedFor f r start
      unfolding body_fault
      last_refused k s e =
          ⊎_elim
          (λ d.
          let l : length f - start - 4 < u16_at f start = ltb-true _ _ d.0 in
          subst (λ (x : ℕ). RefusedFor f x start) d.1 (body_cut i reached h k s (omega arith)))
          (λ d.
          let l : u16_at f start ≤ length f - start - 4 = ltb-false _ _ d.0 in
          body_refused (record { head = h; kind = k; size = s; rest = omega arith }) d.1)
          (fault_cases (ltb (length f - start - 4) (u16_at f start)) 1 _ 0 r e)

      length_refused : kind_at f i ≡ kind → first_fault length_faults 0 ≡ r → RefusedFor f r start
      length_refused k e =
          ⊎_elim
          (λ d. subst (λ (x : ℕ). RefusedFor f x start) d.1
          (length_wrong i reached h k (length_not (head_of f) i kind _ (kind_cases (head_of f) i) (not-true _ d.0))))
          (λ d. last_refused k (length_fits (head_of f) kind _ (not-false _ d.0)) d.1)
          (fault_cases (not (length_due kind (size_due (head_of f) kind) (u16_at f start))) 3 _ 0 r e)

      kind_refused : first_fault kind_faults 0 ≡ r → RefusedFor f r start
      kind_refused e =
          ⊎_elim
          (λ d. subst (λ (x : ℕ). RefusedFor f x start) d.1 (kind_wrong i reached h (eqb-false _ _ (not-true _ d.0))))
          (λ d. length_refused (eqb-true _ _ (not-false _ d.0)) d.1)
          (fault_cases (not (eqb (u16_at f (start + 2)) kind)) 2 _ 0 r e)

    record_refused : fault_at f (head_of f) i start ≡ r → RefusedFor f r start
    unfolding fault_at
    record_refused e =
        ⊎_elim
        (λ d.
        let l : length f - start < 4 = ltb-true _ _ d.0 in
        subst (λ (x : ℕ). RefusedFor f x start) d.1 (head_cut i reached (omega arith)))
        (λ d. let l : 4 ≤ length f - start = ltb-false _ _ d.0 in kind_refused (omega arith) d.1)
        (fault_cases (ltb (length f - start) 4) 1 _ 0 r e)

-- ---- the walk

walk_refused : (f : List ℕ) (left i at r p : ℕ) → at ≡ place f i → i + left ≡ last_of (head_of f) + 1 → FitBefore f i → walk f (head_of f) left i at ≡ refused r p → RefusedFor f r p
unfolding walk
walk_refused f zero i at r p q m b e = go (ltb at (length f)) refl e
  where
    go : (c : Bool) → ltb at (length f) ≡ c → pick c (refused 7 at) (means (meaning f)) ≡ refused r p → RefusedFor f r p
    go true l e =
        let x : 7 ≡ r = cc in
        let y : at ≡ p = cc in
        let z : i ≡ last_of (head_of f) + 1 = omega arith in
        rw (← x, ← y, q, z) (bytes_follow (rw z at b) (rw (q, z) at (ltb-true at (length f) l)))
    go false l e = let z : ◌≡◌ {A = ℕ} 0 1 = cc in absurd (omega arith)
walk_refused f (suc left) i at r p q m b e =
    go (eqb (fault_at f (head_of f) i at) 0) refl e (λ fit. walk_refused f left (suc i) (at + 4 + u16_at f at) r p (rw q (sym (rw add-one at (place_next f i)))) (omega arith) fit)
  where
    more : RecordFits f i → FitBefore f (suc i)
    more w j l = below l (λ z. rw z w) (λ k. b j k)

    go : (c : Bool) → eqb (fault_at f (head_of f) i at) 0 ≡ c → pick c (walk f (head_of f) left (suc i) (at + 4 + u16_at f at)) (refused (fault_at f (head_of f) i at) at) ≡ refused r p
        → (FitBefore f (suc i) → walk f (head_of f) left (suc i) (at + 4 + u16_at f at) ≡ refused r p → RefusedFor f r p) → RefusedFor f r p
    go true z e ih =
        let x : fault_at f (head_of f) i at ≡ 0 = eqb-true _ _ z in
        ih (more (record_fits f i (rw q at x))) e
    go false z e ih =
        let x : fault_at f (head_of f) i at ≡ r = cc in
        let y : at ≡ p = cc in
        let w : fault_at f (head_of f) i (place f i) ≡ r = rw q at x in
        rw (← y, q) (record_refused f i r (λ o. eqb-false _ _ z (x ∙ o)) (omega arith, b) w)

-- a refusal, explained
pub refused_for : (f : List ℕ) (r p : ℕ) → reading f ≡ refused r p → RefusedFor f r p
unfolding reading place
refused_for f r p e = walk_refused f (last_of (head_of f) + 1) 0 0 r p refl (omega arith) (λ j l. absurd (not-suc-le-zero l)) e

-- the reason of a refusal is from 1 to 7
pub reason_range : (f : List ℕ) (r p : ℕ) → reading f ≡ refused r p → (1 ≤ r) × (r ≤ 7)
reason_range f r p e = go r p (refused_for f r p e)
  where
    go : (r p : ℕ) → RefusedFor f r p → (1 ≤ r) × (r ≤ 7)
    go r p (head_cut i b h) = (omega arith, omega arith)
    go r p (kind_wrong i b h k) = (omega arith, omega arith)
    go r p (length_wrong i b h k l) = (omega arith, omega arith)
    go r p (body_cut i b h k l c) = (omega arith, omega arith)
    go r p (limit_broken w l) = (omega arith, omega arith)
    go r p (entry_high i x b w k l y h) = (omega arith, omega arith)
    go r p (term_wrong i j b w k l y h) = (omega arith, omega arith)
    go r p (bytes_follow b l) = (omega arith, omega arith)
