-- Laws of one record: its entries, its terms, its head and length, its body, and what a record without fault says.
use Prim.Native.Nat.{ℕ, zero, suc, ◌+◌, ◌*◌, ◌-◌, ◌/◌, ◌%◌, ◌^◌, ◌≤◌, ◌<◌}
use mathlib.Core.Path.{◌≡◌, refl, ◌∙◌, sym}
use mathlib.Core.List.{List}
use mathlib.Core.Bool.{Bool, true, false, ◌||◌}
use native.Mathlib.Omega.{arith}
use native.Mathlib.Numerals.{add-one}
use borrow.Author.Tests.{ltb-false, eqb-true, lt-ltb, ne_eqb, not-false, ltb-true}
use lib.ListN.{length}
use lib.Dec.{eqb, lit<}
use mathlib.Core.Logic.{⊎_elim, ◌⊎◌, inl, inr}
use Rattle.finite.specs.Tests.{pick, all}
use Rattle.finite.specs.Faults.{first_fault}
use Rattle.finite.proofs.Testing.{pick_twice, pick_not}
use Rattle.finite.proofs.Faults.{no_fault, fault_front, fault_past}
use Rattle.anf.specs.Terms.{before}
use Rattle.records.specs.Bytes.{byte, u16_at, u32_at}
use Rattle.design.specs.Reading.{last_of, kind_due, size_due, length_due, frame_faults, entry_fits, previous, term_fits, body_faults, fault_at}
use Rattle.design.specs.Inside.Framing.{frame_fault}
use Rattle.design.specs.Limits.{Head}
use Rattle.design.specs.Limits.{broken}
use Rattle.design.proofs.Limits.{head_number}

module _ (f : List ℕ) (start bound x : ℕ) where
  pub entry_fits_lem : byte f (start + x) < bound → entry_fits f start bound x ≡ true
  unfolding entry_fits
  entry_fits_lem h = lt-ltb _ _ h

  pub entry_below : entry_fits f start bound x ≡ true → byte f (start + x) < bound
  unfolding entry_fits
  entry_below e = ltb-true _ _ e

  pub entry_not : entry_fits f start bound x ≡ false → bound ≤ byte f (start + x)
  unfolding entry_fits
  entry_not e = ltb-false _ _ e

module _ (f : List ℕ) (start bound j : ℕ) where
  pub term_fits_lem : (eqb j 0 || before (previous f start j) (u32_at f (start + 4 * j))) ≡ true → u32_at f (start + 4 * j) < bound → term_fits f start bound j ≡ true
  unfolding term_fits
  term_fits_lem h l = simp (h, lt-ltb _ _ l)

  pub previous_more : previous f start (j + 1) ≡ u32_at f (start + 4 * j)
  unfolding previous
  previous_more = rw add-one

-- what a record's frame without fault says
pub record Framed (f : List ℕ) (at k z : ℕ) : Type 0 where
  pub head : at + 4 ≤ length f
  pub kind : u16_at f (at + 2) ≡ k
  pub size : length_due k z (u16_at f at) ≡ true
  pub rest : at + 4 + u16_at f at ≤ length f

pub zero_or : (x : ℕ) → (x ≡ 0) ⊎ (x ≡ 0 → ⊥)
zero_or zero = inl refl
zero_or (suc x) = inr (λ e. omega arith)

pub framed : (f : List ℕ) (at kind size : ℕ) → frame_fault f at kind size ≡ 0 → Framed f at kind size
unfolding frame_fault
framed f at kind size e =
    let a = no_fault _ 1 _ (lit< tt) e in
    let b = no_fault _ 2 _ (lit< tt) a.1 in
    let c = no_fault _ 3 _ (lit< tt) b.1 in
    let d = no_fault _ 1 _ (lit< tt) c.1 in
    let h : 4 ≤ length f - at = ltb-false _ _ a.0 in
    let l : u16_at f at ≤ length f - at - 4 = ltb-false _ _ d.0 in
    record { head = omega arith; kind = eqb-true _ _ (not-false _ b.0); size = not-false _ c.0; rest = omega arith }

-- the first fault of a body of n bytes from start, or 0
unfoldable pub body_fault : List ℕ → Head → ℕ → ℕ → ℕ → ℕ
body_fault f h kind start n = first_fault (body_faults f h kind start n) 0

module _ (f : List ℕ) (h : Head) (kind start n : ℕ) where
  pub body_1 : kind ≡ 1 → body_fault f h kind start n ≡ pick (broken h.m h.s h.k) 4 0
  unfolding body_fault first_fault
  body_1 e = rw (e, head_number h.m h.s h.k) (pick_twice (broken h.m h.s h.k) 4 0 0)

  pub body_2 : kind ≡ 2 → body_fault f h kind start n ≡ pick (all n (entry_fits f start (2 ^ h.m))) 0 5
  unfolding body_fault first_fault
  body_2 e = rw e (pick_not (all n (entry_fits f start (2 ^ h.m))) 5 0)

  pub body_3 : kind ≡ 3 → body_fault f h kind start n ≡ pick (all (n / 4) (term_fits f start (2 ^ (h.m * h.s)))) 0 6
  unfolding body_fault first_fault
  body_3 e = rw e (pick_not (all (n / 4) (term_fits f start (2 ^ (h.m * h.s)))) 6 0)

  pub body_4 : (kind ≡ 1 → ⊥) → (kind ≡ 2 → ⊥) → (kind ≡ 3 → ⊥) → body_fault f h kind start n ≡ 0
  unfolding body_fault first_fault
  body_4 a b c = simp (ne_eqb _ _ a, ne_eqb _ _ b, ne_eqb _ _ c)

module _ (f : List ℕ) (h : Head) (i at kind size : ℕ) (k : kind ≡ kind_due h i) (s : size ≡ size_due h kind) where
  -- the frame's faults come first
  pub fault_frame : (frame_fault f at kind size ≡ 0 → ⊥) → fault_at f h i at ≡ frame_fault f at kind size
  unfolding fault_at frame_fault
  fault_frame e = rw (← k) (rw (← s) (fault_front (frame_faults f at kind size) (body_faults f h kind (at + 4) (u16_at f at)) e))

  pub fault_body : frame_fault f at kind size ≡ 0 → fault_at f h i at ≡ body_fault f h kind (at + 4) (u16_at f at)
  unfolding fault_at frame_fault body_fault
  fault_body e =
      let a = no_fault _ 1 _ (lit< tt) e in
      let b = no_fault _ 2 _ (lit< tt) a.1 in
      let c = no_fault _ 3 _ (lit< tt) b.1 in
      let d = no_fault _ 1 _ (lit< tt) c.1 in
      rw (← k) (rw (← s) (fault_past _ 1 _ 0 a.0 ∙ fault_past _ 2 _ 0 b.0 ∙ fault_past _ 3 _ 0 c.0 ∙ fault_past _ 1 _ 0 d.0))

  -- the fault of a table, and that of a list, where the frame has none
  module _ (z : frame_fault f at kind size ≡ 0) {n p : ℕ} {t b : Bool} (q : n ≡ u16_at f at) where
    pub fault_table : kind ≡ 2 → p ≡ 2 ^ h.m → t ≡ all n (entry_fits f (at + 4) p) → t ≡ b → fault_at f h i at ≡ pick b 0 5
    fault_table e r a w = fault_body z ∙ body_2 f h kind (at + 4) (u16_at f at) e ∙ rw (← q, ← r, ← a, w) refl

    pub fault_list : kind ≡ 3 → p ≡ 2 ^ (h.m * h.s) → t ≡ all (n / 4) (term_fits f (at + 4) p) → t ≡ b → fault_at f h i at ≡ pick b 0 6
    fault_list e r a w = fault_body z ∙ body_3 f h kind (at + 4) (u16_at f at) e ∙ rw (← q, ← r, ← a, w) refl

-- a record without fault has none in its frame, and none in its body
module _ (f : List ℕ) (h : Head) (i at : ℕ) (e : fault_at f h i at ≡ 0) where
  pub frame_none : frame_fault f at (kind_due h i) (size_due h (kind_due h i)) ≡ 0
  frame_none = ⊎_elim (λ z. z) (λ n. sym (fault_frame f h i at _ _ refl refl n) ∙ e) (zero_or (frame_fault f at (kind_due h i) (size_due h (kind_due h i))))

  pub body_none : body_fault f h (kind_due h i) (at + 4) (u16_at f at) ≡ 0
  body_none = sym (fault_body f h i at _ _ refl refl frame_none) ∙ e

  pub fault_framed : Framed f at (kind_due h i) (size_due h (kind_due h i))
  fault_framed = framed f at (kind_due h i) (size_due h (kind_due h i)) frame_none

pub kind_later : (h : Head) (i : ℕ) → 1 ≤ i → kind_due h i ≡ 1 → ⊥
unfolding kind_due
kind_later h i l e = go (eqb i 1) (eqb i (last_of h)) (eqb ((i - 2) % (1 + h.m * h.s)) 0) (simp (ne_eqb i 0 (λ (z : i ≡ 0). omega arith)) at e)
  where
    go : (b c d : Bool) → ◌≡◌ {A = ℕ} (pick b 2 (pick c 4 (pick d 2 3))) 1 → ⊥
    go true c d e = omega arith
    go false true d e = omega arith
    go false false true e = omega arith
    go false false false e = omega arith
