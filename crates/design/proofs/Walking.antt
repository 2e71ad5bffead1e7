-- Laws of the walk over the records: a step, a refusal, the end, and the head record.
use Prim.Native.Nat.{ℕ, suc, ◌+◌, ◌-◌, ◌≤◌, ◌<◌}
use mathlib.Core.Path.{◌≡◌, refl, sym, ◌∙◌}
use mathlib.Core.List.{List}
use native.Mathlib.Omega.{arith}
use native.Mathlib.Nat.{sub-zero}
use native.Mathlib.Numerals.{add-one}
use borrow.Author.Tests.{eqb-true, lt-ltb, le-ltb, ne_eqb}
use lib.ListN.{length}
use lib.Dec.{lit<}
use Rattle.finite.specs.Tests.{pick}
use Rattle.finite.proofs.Testing.{pick_missed}
use Rattle.records.specs.Bytes.{byte, u16_at}
use Rattle.design.specs.Limits.{broken}
use Rattle.design.specs.Reading.{last_of, kind_due, size_due, length_due, fault_at, head_fault, refused, means, reading, walk, place, head_of, meaning}
use Rattle.design.specs.Inside.Framing.{frame_fault}
use Rattle.design.specs.Inside.Described.{Limits}
use Rattle.design.specs.Limits.{Head}
use Rattle.design.proofs.Records.{framed, fault_frame, fault_body, body_1, frame_none, fault_framed}

module _ (f : List ℕ) (h : Head) (n i at : ℕ) where
  pub walk_next : i < n → fault_at f h i at ≡ 0 → walk f h (n - i) i at ≡ walk f h (n - (i + 1)) (i + 1) (at + 4 + u16_at f at)
  unfolding walk
  walk_next l e =
      let s : n - i ≡ suc (n - (i + 1)) = omega arith in
      rw s (simp (e, add-one))

  pub walk_stop : i < n → (fault_at f h i at ≡ 0 → ⊥) → walk f h (n - i) i at ≡ refused (fault_at f h i at) at
  unfolding walk
  walk_stop l e =
      let s : n - i ≡ suc (n - (i + 1)) = omega arith in
      rw s (simp (ne_eqb _ _ e))

  pub walk_over : n ≤ i → at < length f → walk f h (n - i) i at ≡ refused 7 at
  unfolding walk
  walk_over l e =
      let s : n - i ≡ 0 = omega arith in
      rw s (simp (lt-ltb _ _ e))

  pub walk_done : n ≤ i → length f ≤ at → walk f h (n - i) i at ≡ means (meaning f)
  unfolding walk
  walk_done l e =
      let s : n - i ≡ 0 = omega arith in
      rw s (simp (le-ltb _ _ e))

pub place_next : (f : List ℕ) (i : ℕ) → place f (i + 1) ≡ place f i + 4 + u16_at f (place f i)
unfolding place
place_next f i = rw add-one

start_walk : (f : List ℕ) → reading f ≡ walk f (head_of f) (last_of (head_of f) + 1 - 0) 0 0
unfolding reading
start_walk f = rw sub-zero

-- the head record
module _ (f : List ℕ) where
  pub head_size : frame_fault f 0 1 3 ≡ 0 → (u16_at f 0 ≡ 3) × (7 ≤ length f)
  unfolding length_due
  head_size e =
      let w = framed f 0 1 3 e in
      let s : u16_at f 0 ≡ 3 = eqb-true _ _ w.size in
      (s, omega arith)

  head_kind : (h : Head) → 1 ≡ kind_due h 0
  unfolding kind_due
  head_kind h = refl

  head_due : (h : Head) → 3 ≡ size_due h 1
  unfolding size_due
  head_due h = refl

  -- its frame's faults come first
  pub head_frame : (frame_fault f 0 1 3 ≡ 0 → ⊥) → head_fault f ≡ frame_fault f 0 1 3
  head_frame e = fault_frame f (head_of f) 0 0 1 3 (head_kind _) (head_due _) e

  pub head_body : frame_fault f 0 1 3 ≡ 0 → head_fault f ≡ pick (broken (byte f 4) (byte f 5) (byte f 6)) 4 0
  head_body e = fault_body f (head_of f) 0 0 1 3 (head_kind _) (head_due _) e ∙ body_1 f (head_of f) 1 4 (u16_at f 0) refl

  pub head_within : head_fault f ≡ 0 → Limits (head_of f)
  unfolding kind_due size_due
  head_within e = pick_missed _ 4 (lit< tt) (sym (head_body (frame_none f (head_of f) 0 0 e)) ∙ e)

  pub head_refused : (head_fault f ≡ 0 → ⊥) → reading f ≡ refused (head_fault f) 0
  head_refused e = start_walk f ∙ walk_stop f (head_of f) (last_of (head_of f) + 1) 0 0 (omega arith) e

  -- where the walk stands after the head
  pub head_next : head_fault f ≡ 0 → (7 ≤ length f) × (place f 1 ≡ 7) × (reading f ≡ walk f (head_of f) (last_of (head_of f) + 1 - 1) 1 7)
  unfolding place kind_due size_due length_due
  head_next e =
      let w = fault_framed f (head_of f) 0 0 e in
      let s : u16_at f 0 ≡ 3 = eqb-true _ _ w.size in
      (omega arith, place_next f 0 ∙ simp s, start_walk f ∙ walk_next f (head_of f) (last_of (head_of f) + 1) 0 0 (omega arith) e ∙ simp s)
