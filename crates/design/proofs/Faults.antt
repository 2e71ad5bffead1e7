-- The ways out of the tests of one record over plain values: `length_fits`, `framed`, `terms_fit` and `fault`. A premise is a test as
-- the code has it, or what a call's contract says of its result.
-- Assumes nothing.
use Prim.Native.Nat.{ℕ, zero, suc, ◌+◌, ◌*◌, ◌-◌, ◌/◌, ◌%◌, ◌^◌, ◌≤◌, ◌<◌}
use mathlib.Core.Path.{◌≡◌, refl, sym, ap, ap₂, ◌∙◌}
use mathlib.Core.List.{List, ◌∷◌, []}
use mathlib.Core.Bool.{Bool, true, false, not, ◌&&◌, ◌||◌}
use mathlib.Core.Logic.{◌⊎◌, inl, inr}
use native.Mathlib.Numerals.{towards_suc}
use native.Mathlib.Omega.{arith}
use borrow.Author.Tests.{lt-ltb, le-ltb, eq-eqb, ne_eqb, not-true, not-false}
use lib.ListN.{length, get_or, take, drop, length-drop}
use lib.Bits.{bit_or}
use lib.Dec.{leb, eqb, ltb}
use Rattle.std.specs.Prelude.{Option, None, Some}
use Rattle.std.specs.Option.{option_map_or}
use Rattle.std.proofs.lemmas.Nat.{pow_pos}
use Rattle.finite.specs.Tests.{all}
use Rattle.finite.specs.Faults.{first_fault}
use Rattle.finite.proofs.Testing.{all_step, and_pairs}
use Rattle.finite.proofs.Powers.{none_above, union_below}
use Rattle.finite.proofs.Faults.{fault_here, fault_past, fault_none}
use Rattle.anf.specs.Terms.{before}
use Rattle.records.specs.Bytes.{u16_at, u32_at}
use Rattle.records.specs.Inside.Terms.{terms as term_list}
use Rattle.records.proofs.TermBytes.{terms_cons, terms_length}
use Rattle.design.specs.Reading.{kind_due, size_due, length_due, entry_fits, previous, term_fits, fault_at}
use Rattle.design.specs.Inside.Framing.{frame_fault}
use Rattle.design.specs.Limits.{Head}
use Rattle.reasons.specs.Numbers.{number}
use Rattle.reasons.specs.declared.Reason.{Reason}
use Rattle.reasons.proofs.Numbers.{number_some}
use Rattle.anf.specs.Tables.{entries_below}
use Rattle.records.specs.Kinds.{code}
use Rattle.records.specs.declared.kind.Kind.{Kind}
use Rattle.records.specs.declared.kind.Kind.TheVariants as kinds
use Rattle.design.proofs.Bodies.{length_in, entries_in, terms_in}
use Rattle.design.proofs.Records.{framed, fault_frame, fault_body, fault_table, fault_list, body_4, kind_later}

list_code : (kind : Kind) → code kind ≡ 3 → kind ≡ kinds.List
list_code kinds.Head e = absurd (omega (arith, e))
list_code kinds.Table e = absurd (omega (arith, e))
list_code kinds.List e = refl
list_code kinds.End e = absurd (omega (arith, e))

-- the head and the end are neither a table nor a list
outer : {kind : Kind} (x : ℕ) → 2 ≤ x → x ≤ 3 → (kind ≡ kinds.Head) ⊎ (kind ≡ kinds.End) → code kind ≡ x → ⊥
outer x a b (inl q) e = let w : 1 ≡ x = rw q at e in omega arith
outer x a b (inr q) e = let w : 4 ≡ x = rw q at e in omega arith

-- ---- `length_fits`

module _ (kind : Kind) (size n : ℕ) where
  pub list_length : kind ≡ kinds.List → n % 4 ≡ 0 → leb n size ≡ length_due (code kind) size n
  unfolding length_due
  list_length e q = rw e (simp (eq-eqb _ _ q))

  pub part_of_term : kind ≡ kinds.List → (n % 4 ≡ 0 → ⊥) → eqb (n % 4) 0 ≡ length_due (code kind) size n
  unfolding length_due
  part_of_term e q = rw e (simp (ne_eqb _ _ q))

  pub other_length : (kind ≡ kinds.List → ⊥) → eqb n size ≡ length_due (code kind) size n
  unfolding length_due
  other_length e = simp (ne_eqb _ _ (λ q. e (list_code kind q)))

-- ---- `framed`: k is the record's kind, t the one due, n its length, b whether that may be

module _ (f : List ℕ) (at kind size : ℕ) where
  pub head_short : length f - at < 4 → 1 ≡ frame_fault f at kind size
  unfolding frame_fault
  head_short h = sym (fault_here _ 1 _ 0 (lt-ltb _ _ h))

  module _ (a : 4 ≤ length f - at) (k : ℕ) (ek : k ≡ u16_at f (at + 2)) (t : ℕ) (et : t ≡ kind) where
    pub other_kind : (k ≡ t → ⊥) → 2 ≡ frame_fault f at kind size
    unfolding frame_fault
    other_kind h = sym (fault_past _ 1 _ 0 (le-ltb _ _ a) ∙ fault_here _ 2 _ 0 (ap not (ne_eqb _ _ (λ e. h (ek ∙ e ∙ sym et)))))

    module _ (q : k ≡ t) (n : ℕ) (en : n ≡ u16_at f at) (b : Bool) (eb : b ≡ length_due kind size n) where
      past_kind : frame_fault f at kind size ≡ first_fault ((not (length_due kind size (u16_at f at)), 3) ∷ (ltb (length f - at - 4) (u16_at f at), 1) ∷ []) 0
      unfolding frame_fault
      past_kind = fault_past _ 1 _ 0 (le-ltb _ _ a) ∙ fault_past _ 2 _ 0 (ap not (eq-eqb _ _ (sym ek ∙ q ∙ et)))

      due : length_due kind size (u16_at f at) ≡ b
      due = sym (ap (length_due kind size) en) ∙ sym eb

      pub body_short : not b ≡ false → length f - at - 4 < n → 1 ≡ frame_fault f at kind size
      body_short t h = sym (past_kind ∙ fault_past _ 3 _ 0 (ap not (due ∙ not-false b t)) ∙ fault_here _ 1 _ 0 (lt-ltb _ _ (rw en at h)))

      pub frame_good : not b ≡ false → n ≤ length f - at - 4 → 0 ≡ frame_fault f at kind size
      frame_good t h = sym (past_kind ∙ fault_past _ 3 _ 0 (ap not (due ∙ not-false b t)) ∙ fault_past _ 1 _ 0 (le-ltb _ _ (rw en at h)) ∙ fault_none 0)

      pub wrong_length : not b ≡ true → 3 ≡ frame_fault f at kind size
      wrong_length h = sym (past_kind ∙ fault_here _ 3 _ 0 (ap not (due ∙ not-true b h)))

-- ---- `terms_fit`: b is the body, its terms are due below 2^n, t is its term j, u whether that rises

-- the term before term j, if there is one
pub term_before : List ℕ → ℕ → Option ℕ
term_before b zero = None
term_before b (suc j) = Some (u32_at b (4 * j))

rises_at : (b : List ℕ) (j t : ℕ) → option_map_or (λ a. before a t) (term_before b j) true ≡ (eqb j 0 || before (previous b 0 j) t)
unfolding term_before previous
rises_at b zero t = refl
rises_at b (suc j) t =
    let e : 4 * j ≡ 0 + 4 * j = omega arith in
    simp (ne_eqb (suc j) 0 (λ z. absurd (omega (arith, z)))) (ap (λ (x : ℕ). before (u32_at b x) t) e)

-- of the terms passed, `rise` says whether they rise, `together` is what they have together, and `latest` is the last of them; l are those that are left
pub record Passed (b : List ℕ) (n : ℕ) (latest : Option ℕ) (rise : Bool) (together : ℕ) (l : List ℕ) : Type 0 where
  pub j : ℕ
  pub within : j ≤ length b / 4
  pub fit : all j (term_fits b 0 (2 ^ n)) ≡ (rise && ltb together (2 ^ n))
  pub kept : latest ≡ term_before b j
  pub left : l ≡ term_list (drop (4 * j) b)

pub none_passed : (b l : List ℕ) (n : ℕ) → l ≡ term_list b → Passed b n None true 0 l
unfolding all term_before
none_passed b l n e = record { j = 0; within = omega arith; fit = sym (lt-ltb _ _ (pow_pos n)); kept = refl; left = e }

module _ (b l : List ℕ) (n : ℕ) (latest : Option ℕ) (rise : Bool) (together : ℕ) (w : Passed b n latest rise together l) where
  count : (length b - 4 * w.j) / 4 ≡ length l
  count = ap (λ (x : ℕ). x / 4) (sym (length-drop (4 * w.j) b)) ∙ sym (terms_length (drop (4 * w.j) b)) ∙ ap length (sym w.left)

  -- none is left
  pub all_passed : l ≡ [] → (rise && eqb (together / 2 ^ n) 0) ≡ all (length b / 4) (term_fits b 0 (2 ^ n))
  all_passed e =
      let z : (length b - 4 * w.j) / 4 ≡ 0 = count ∙ ap length e in
      let q : w.j ≡ length b / 4 = omega (arith, w.within, z) in
      ap (λ (x : Bool). rise && x) (none_above n together) ∙ sym (rw q at w.fit)

  -- the term t is the first of those that are left
  module _ (t : ℕ) (r : List ℕ) (e : l ≡ t ∷ r) where
    stands : w.j < length b / 4
    stands = let z : (length b - 4 * w.j) / 4 ≡ suc (length r) = count ∙ ap length e in omega (arith, z)

    first : t ∷ r ≡ u32_at b (4 * w.j) ∷ term_list (drop (4 * w.j + 4) b)
    first = sym e ∙ w.left ∙ terms_cons b (4 * w.j) (omega (arith, stands))

    here : t ≡ u32_at b (0 + 4 * w.j)
    here =
        let q : 4 * w.j ≡ 0 + 4 * w.j = omega arith in
        ap (λ (x : List ℕ). get_or x 0 0) first ∙ ap (λ (x : ℕ). u32_at b x) q

    rest : r ≡ term_list (drop (4 * (w.j + 1)) b)
    rest =
        let q : 4 * w.j + 4 ≡ 4 * (w.j + 1) = omega arith in
        ap (λ (x : List ℕ). drop 1 x) first ∙ ap (λ (x : ℕ). term_list (drop x b)) q

    latest_here : Some t ≡ term_before b (w.j + 1)
    unfolding term_before
    latest_here = simp towards_suc (ap Some (ap (λ (x : List ℕ). get_or x 0 0) first))

    module _ (u : Bool) (eu : u ≡ option_map_or (λ a. before a t) latest true) where
      rises_here : u ≡ (eqb w.j 0 || before (previous b 0 w.j) (u32_at b (0 + 4 * w.j)))
      rises_here = rw here at (eu ∙ ap (λ (o : Option ℕ). option_map_or (λ a. before a t) o true) w.kept ∙ rises_at b w.j t)

      fits_here : (u && ltb t (2 ^ n)) ≡ term_fits b 0 (2 ^ n) w.j
      unfolding term_fits
      fits_here = rw (rises_here, here) refl

      fit_more : all (w.j + 1) (term_fits b 0 (2 ^ n)) ≡ ((rise && u) && ltb (bit_or together t) (2 ^ n))
      fit_more =
          all_step w.j (term_fits b 0 (2 ^ n)) ∙ ap₂ ◌&&◌ w.fit (sym fits_here) ∙ and_pairs rise (ltb together (2 ^ n)) u (ltb t (2 ^ n))
          ∙ ap (λ (x : Bool). (rise && u) && x) (sym (union_below n together t))

      pub term_more : Passed b n (Some t) (rise && u) (bit_or together t) r
      term_more = record { j = w.j + 1; within = omega (arith, stands); fit = fit_more; kept = latest_here; left = rest }

-- ---- `faultless`: k is the record's kind, z its size, b the body, p the bound, t whether the body passes

module _ (f : List ℕ) (h : Head) (i at : ℕ) (k : Kind) (ek : code k ≡ kind_due h i) (z : ℕ) (ez : z ≡ size_due h (code k)) where
  pub frame_fault_lem : (r : Reason) → number r ≡ frame_fault f at (code k) z → number r ≡ fault_at f h i at
  frame_fault_lem r e = e ∙ sym (fault_frame f h i at (code k) z ek ez (λ q. number_some r (e ∙ q)))

  module _ (n : 0 ≡ frame_fault f at (code k) z) (b : List ℕ) (eb : b ≡ take (u16_at f at) (drop (at + 4) f)) where
    there : at + 4 + u16_at f at ≤ length f
    there = (framed f at (code k) z (sym n)).rest

    pub body_length : length b ≡ u16_at f at
    body_length = length_in f b (at + 4) (u16_at f at) eb there

    pub no_body_fault : 1 ≤ i → (k ≡ kinds.Head) ⊎ (k ≡ kinds.End) → 0 ≡ fault_at f h i at
    no_body_fault l q =
        sym (fault_body f h i at (code k) z ek ez (sym n) ∙ body_4 _ _ _ _ _ (λ e. kind_later h i l (sym ek ∙ e)) (outer 2 (omega arith) (omega arith) q) (outer 3 (omega arith) (omega arith) q))

    module _ (t : Bool) where
      module _ (p : ℕ) (q : k ≡ kinds.Table) (ep : p ≡ 2 ^ h.m) (et : t ≡ entries_below b p) where
        entries : t ≡ all (u16_at f at) (entry_fits f (at + 4) p)
        entries = et ∙ entries_in f b (at + 4) (u16_at f at) eb there p

        pub table_good : t ≡ true → 0 ≡ fault_at f h i at
        table_good e = sym (fault_table f h i at (code k) z ek ez (sym n) refl (ap code q) ep entries e)

        pub table_bad : t ≡ false → 5 ≡ fault_at f h i at
        table_bad e = sym (fault_table f h i at (code k) z ek ez (sym n) refl (ap code q) ep entries e)

      module _ (q : k ≡ kinds.List) (bits : ℕ) (es : bits ≡ h.m * h.s) (et : t ≡ all (length b / 4) (term_fits b 0 (2 ^ bits))) where
        ep : 2 ^ bits ≡ 2 ^ (h.m * h.s)
        ep = ap (λ (x : ℕ). 2 ^ x) es

        terms : t ≡ all (u16_at f at / 4) (term_fits f (at + 4) (2 ^ bits))
        terms = et ∙ terms_in f b (at + 4) (u16_at f at) eb there (2 ^ bits)

        pub list_good : t ≡ true → 0 ≡ fault_at f h i at
        list_good e = sym (fault_list f h i at (code k) z ek ez (sym n) refl (ap code q) ep terms e)

        pub list_bad : t ≡ false → 6 ≡ fault_at f h i at
        list_bad e = sym (fault_list f h i at (code k) z ek ez (sym n) refl (ap code q) ep terms e)
