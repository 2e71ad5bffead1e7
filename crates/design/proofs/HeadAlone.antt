-- The head record alone: seven bytes of a file decide what is found of it, and reading refuses at place 0 exactly where it does.
-- Assumes nothing.
use Prim.Native.Nat.{ℕ, zero, suc, ◌+◌, ◌-◌, ◌≤◌, ◌<◌}
use mathlib.Core.Path.{◌≡◌, refl, sym, ap, ap₂, ◌∙◌}
use mathlib.Core.Logic.{⊎_elim}
use mathlib.Core.List.{List}
use mathlib.Core.Bool.{Bool, true, false, not}
use native.Mathlib.Omega.{arith}
use native.Mathlib.Decide.{dec_lt}
use borrow.Author.Tests.{eqb-true, le-ltb}
use lib.Dec.{eqb, ltb, lit≤}
use lib.ListN.{length, take}
use lib.Seq.{get_or-take, take_all, length-take-le}
use Rattle.finite.specs.Tests.{pick}
use Rattle.finite.specs.Faults.{first_fault}
use Rattle.finite.proofs.Testing.{pick_false}
use Rattle.finite.proofs.Faults.{fault_either, fault_none}
use Rattle.records.specs.Bytes.{byte, u16_at}
use Rattle.design.specs.Limits.{broken}
use Rattle.records.specs.Design.{Design}
use Rattle.design.specs.Reading.{length_due, fault_at, head_of, head_fault, last_of, refused, means, meaning, reading, walk}
use Rattle.design.specs.Inside.Framing.{frame_fault}
use Rattle.design.specs.Limits.{Head}
use Rattle.design.proofs.Records.{zero_or}
use Rattle.design.proofs.Walking.{head_frame, head_body, head_refused, head_next}

-- ---- seven bytes decide

-- seven bytes are enough for the only length that is due, so its kind and its length are left to be tested
frame_long : (f : List ℕ) → 7 ≤ length f → frame_fault f 0 1 3 ≡ pick (not (eqb (u16_at f 2) 1)) 2 (pick (not (length_due 1 3 (u16_at f 0))) 3 0)
unfolding frame_fault first_fault length_due
frame_long f l =
    pick_false (ltb (length f - 0) 4) 1 _ (le-ltb (length f - 0) 4 (omega arith))
    ∙ ap (pick (not (eqb (u16_at f 2) 1)) 2) (go (eqb (u16_at f 0) 3) refl)
  where
    go : (b : Bool) → eqb (u16_at f 0) 3 ≡ b → ◌≡◌ {A = ℕ} (pick (not b) 3 (pick (ltb (length f - 0 - 4) (u16_at f 0)) 1 0)) (pick (not b) 3 0)
    go true e = let q = eqb-true (u16_at f 0) 3 e in ap (λ (c : Bool). pick c 1 0) (le-ltb (length f - 0 - 4) (u16_at f 0) (omega arith))
    go false e = refl

module _ (f g : List ℕ) (same : (i : ℕ) → i < 7 → byte f i ≡ byte g i) where
  same_pair : (i : ℕ) → i < 6 → u16_at f i ≡ u16_at g i
  unfolding u16_at
  same_pair i l = rw (same i (omega arith), same (i + 1) (omega arith)) refl

  same_head : head_of f ≡ head_of g
  same_head = rw (same 4 (omega arith), same 5 (omega arith), same 6 (omega arith)) refl

  module _ (l : 7 ≤ length f) (k : 7 ≤ length g) where
    same_frame : frame_fault f 0 1 3 ≡ frame_fault g 0 1 3
    same_frame =
        frame_long f l
        ∙ ap₂ (λ (a b : ℕ). pick (not (eqb a 1)) 2 (pick (not (length_due 1 3 b)) 3 0)) (same_pair 2 (omega arith)) (same_pair 0 (omega arith))
        ∙ sym (frame_long g k)

    same_fault : head_fault f ≡ head_fault g
    same_fault =
        ⊎_elim
        (λ z. head_body f z ∙ ap (λ (h : Head). pick (broken h.m h.s h.k) 4 0) same_head ∙ sym (head_body g (sym same_frame ∙ z)))
        (λ n. head_frame f n ∙ same_frame ∙ sym (head_frame g (λ z. n (same_frame ∙ z))))
        (zero_or (frame_fault f 0 1 3))

module _ (f : List ℕ) where
  first_bytes : (i : ℕ) → i < 7 → byte f i ≡ byte (take 7 f) i
  first_bytes i l = sym (get_or-take 7 f i 0 l)

  pub head_seven : head_of f ≡ head_of (take 7 f)
  head_seven = same_head f (take 7 f) first_bytes

  pub fault_seven : head_fault f ≡ head_fault (take 7 f)
  fault_seven = go (dec_lt (length f) 7)
    where
      go : Dec (length f < 7) → head_fault f ≡ head_fault (take 7 f)
      go (yes l) = ap head_fault (sym (take_all 7 f (omega arith)))
      go (no l) = same_fault f (take 7 f) first_bytes (omega arith) (omega (arith, length-take-le 7 f (omega arith)))

-- ---- the reasons: 1 to 3 of the frame, and 4

frame_range : (f : List ℕ) (at kind size : ℕ) → frame_fault f at kind size ≤ 3
unfolding frame_fault
frame_range f at kind size =
    fault_either (λ r. r ≤ 3) _ _ _ _ (λ e. lit≤ tt)
    (λ e. fault_either (λ r. r ≤ 3) _ _ _ _ (λ e. lit≤ tt)
    (λ e. fault_either (λ r. r ≤ 3) _ _ _ _ (λ e. lit≤ tt)
    (λ e. fault_either (λ r. r ≤ 3) _ _ _ _ (λ e. lit≤ tt) (λ e. rw fault_none (lit≤ tt)))))

pub head_range : (f : List ℕ) → head_fault f ≤ 4
head_range f =
    ⊎_elim
    (λ z. rw (head_body f z) (go (broken (byte f 4) (byte f 5) (byte f 6))))
    (λ n. omega (arith, head_frame f n, frame_range f 0 1 3))
    (zero_or (frame_fault f 0 1 3))
  where
    go : (b : Bool) → pick b 4 0 ≤ 4
    go true = lit≤ tt
    go false = lit≤ tt

-- ---- reading refuses at place 0 exactly where the head record is refused

-- a walk refuses no record before the one where it stands
walk_place : (f : List ℕ) (h : Head) (left i at r p : ℕ) → walk f h left i at ≡ refused r p → at ≤ p
unfolding walk
walk_place f h zero i at r p e = go (ltb at (length f)) e
  where
    go : (c : Bool) → pick c (refused 7 at) (means (meaning f)) ≡ refused r p → at ≤ p
    go true e = let q : at ≡ p = cc in omega arith
    go false e = let z : ◌≡◌ {A = ℕ} 0 1 = cc in absurd (omega arith)
walk_place f h (suc left) i at r p e = go (eqb (fault_at f h i at) 0) e (λ q. omega (arith, walk_place f h left (suc i) (at + 4 + u16_at f at) r p q))
  where
    go : (c : Bool) → pick c (walk f h left (suc i) (at + 4 + u16_at f at)) (refused (fault_at f h i at) at) ≡ refused r p
        → (walk f h left (suc i) (at + 4 + u16_at f at) ≡ refused r p → at ≤ p) → at ≤ p
    go true e ih = ih e
    go false e ih = let q : at ≡ p = cc in omega arith

module _ (f : List ℕ) where
  pub refused_first : (r : ℕ) → reading f ≡ refused r 0 → head_fault f ≡ r
  refused_first r e =
      ⊎_elim
      (λ z. absurd (omega (arith, walk_place f (head_of f) (last_of (head_of f) + 1 - 1) 1 7 r 0 (sym (head_next f z).2 ∙ e))))
      (λ n. let q = head_refused f n in cc)
      (zero_or (head_fault f))

  pub reads_head : (d : Design) → reading f ≡ means d → head_fault f ≡ 0
  reads_head d e =
      ⊎_elim
      (λ z. z)
      (λ n. let q = head_refused f n in let w : ◌≡◌ {A = ℕ} 0 1 = cc in absurd (omega arith))
      (zero_or (head_fault f))
