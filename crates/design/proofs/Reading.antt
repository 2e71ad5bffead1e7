-- The ways out of `walk`, `read_head` and `read` over plain values, and what the loop over the records keeps. A premise is a test as the code has it, or what a call's
-- contract says of its result.
-- Assumes nothing.
use Prim.Native.Nat.{ℕ, ◌+◌, ◌-◌, ◌^◌, ◌≤◌, ◌<◌}
use mathlib.Core.Path.{◌≡◌, refl, sym, ap, ◌∙◌}
use mathlib.Core.List.{List}
use mathlib.Core.Bool.{Bool, true, false}
use native.Mathlib.Omega.{arith}
use borrow.Author.Tests.{eq-eqb, ne_eqb}
use lib.ListN.{length, set, get_or, take, drop, length-set}
use mir.Syntax.{w64}
use mir.Val.{Fits}
use Rattle.finite.specs.Tests.{pick, tabulate}
use Rattle.finite.proofs.Testing.{pick_true, pick_false, pick_number, tabulate_more}
use Rattle.records.specs.Bytes.{byte, u16_at}
use Rattle.design.specs.Layout.{refused_head, head_read, no_starts, start_of, starts_to, refused_layout, layout_of}
use Rattle.design.specs.Layout.{Describes}
use Rattle.design.specs.Limits.{greatest_records, broken, checked}
use Rattle.design.specs.Reading.{last_of, fault_at, head_fault, refused, means, reading, walk, place, head_of, meaning}
use Rattle.design.specs.Inside.Framing.{frame_fault}
use Rattle.design.specs.Limits.{Head}
use Rattle.design.specs.Heads.{numbers, head_outcome, head_reading}
use Rattle.design.specs.declared.heads.Head as heads
use Rattle.records.specs.Kinds.{code}
use Rattle.records.specs.declared.kind.Kind.TheVariants as kinds
use Rattle.reasons.specs.Numbers.{number}
use Rattle.reasons.proofs.Numbers.{number_some}
use Rattle.design.proofs.Bodies.{length_in, byte_in}
use Rattle.design.specs.Layout.{HeadRead}
use Rattle.design.specs.Layout.{Layout}
use Rattle.std.specs.Prelude.{Result, Ok, Err}
use Rattle.reasons.specs.declared.Reason.{Reason}
use Rattle.design.specs.Errors.{fault_reason}
use Rattle.design.specs.declared.errors.Fault.{Fault}
use Rattle.design.specs.declared.errors.Fault.TheVariants as faults
use Rattle.std.specs.Result.{result_or}
use Rattle.reasons.specs.declared.Reason.TheVariants.{LimitBroken}
use Rattle.design.proofs.Layouts.{answers_described}
use Rattle.design.proofs.Records.{fault_framed}
use Rattle.design.proofs.Walking.{walk_next, walk_stop, walk_over, walk_done, place_next, head_size, head_frame, head_body, head_refused, head_next}

-- a refusal
answers_refused : (f : List ℕ) (l : Layout) (r p : ℕ) → reading f ≡ refused r p → l ≡ refused_layout r p → l ≡ layout_of f
unfolding layout_of
answers_refused f l r p e a = rw e a

-- ---- the loop of `walk`: record i of n starts at `at`

pub record Walked (f : List ℕ) (h : Head) (n : ℕ) (starts : List ℕ) (i at : ℕ) : Type 0 where
  pub head : h ≡ head_of f
  pub count : n ≡ last_of h + 1
  pub few : n ≤ greatest_records
  pub from : 1 ≤ i
  pub to : i ≤ n
  pub within : at ≤ length f
  pub here : at ≡ place f i
  pub room : length starts ≡ greatest_records
  pub passed : starts ≡ starts_to f i
  pub rest : reading f ≡ walk f h (n - i) i at

starts_first : (f : List ℕ) → set no_starts 0 4 ≡ starts_to f 1
unfolding starts_to start_of place tabulate
starts_first f = refl

starts_more : (f : List ℕ) (i at : ℕ) → i < greatest_records → at ≡ place f i → set (starts_to f i) i (at + 4) ≡ starts_to f (i + 1)
unfolding starts_to start_of
starts_more f i at l p = rw p (tabulate_more i (start_of f) no_starts l)

-- after the head; e is the number of the last record
pub walked_first : (f : List ℕ) (h : Head) (starts : List ℕ) (e : ℕ) → h ≡ head_of f → e ≡ last_of h → e < greatest_records → fault_at f h 0 0 ≡ 0 → length starts ≡ greatest_records
    → starts ≡ set no_starts 0 4 → (at : ℕ) → at ≡ 4 + 3 → Walked f h (e + 1) starts 1 at
unfolding place
walked_first f h starts e q m k z l s at p =
    let w = head_next f (rw q at z) in
    rw p (record {
      head = q;
      count = ap (λ (x : ℕ). x + 1) m;
      few = omega arith;
      from = omega arith;
      to = omega arith;
      within = w.0;
      here = sym w.1;
      room = l;
      passed = s ∙ starts_first f;
      rest = rw (m, q) w.2;
    })

module _ (f : List ℕ) (h : Head) (n : ℕ) (starts : List ℕ) (i at : ℕ) (w : Walked f h n starts i at) where
  -- a record is tested: r is its fault, b the length of its body
  module _ (l : i < n) where
    pub walk_stopped : (r : Fault) → number (fault_reason r) ≡ fault_at f h i at → refused_layout (number (fault_reason r)) at ≡ layout_of f
    walk_stopped r er =
        let d : fault_at f h i at ≡ 0 → ⊥ = λ z. number_some (fault_reason r) (er ∙ z) in
        answers_refused f _ _ _ (w.rest ∙ walk_stop f h n i at l d) (ap (λ (x : ℕ). refused_layout x at) er)

    pub walked_more : 0 ≡ fault_at f h i at → (b : ℕ) → b ≡ u16_at f at → Walked f h n (set starts i (at + 4)) (i + 1) (at + 4 + b)
    walked_more z b eb =
        let e : fault_at f h i at ≡ 0 = sym z in
        let t = fault_framed f h i at e in
        rw eb
        (record {
          head = w.head;
          count = w.count;
          few = w.few;
          from = omega arith;
          to = omega arith;
          within = t.rest;
          here = rw w.here (sym (place_next f i));
          room = length-set starts i (at + 4) ∙ w.room;
          passed = ap (λ (x : List ℕ). set x i (at + 4)) w.passed ∙ starts_more f i at (omega (arith, w.few)) w.here;
          rest = w.rest ∙ walk_next f h n i at l e;
        })

  -- all records are passed
  module _ (l : n ≤ i) where
    pub bytes_follow : at < length f → refused_layout 7 at ≡ layout_of f
    bytes_follow t = answers_refused f _ 7 at (w.rest ∙ walk_over f h n i at l t) refl

    pub walk_reads : length f ≤ at → record { reason = 0; place = 0; head = h; starts = starts } ≡ layout_of f
    unfolding layout_of
    walk_reads t =
        let e : reading f ≡ means (meaning f) = w.rest ∙ walk_done f h n i at l t in
        let q : i ≡ last_of (head_of f) + 1 = omega (arith, w.count, w.to, ap last_of w.head) in
        rw (e, w.head, w.passed, q) refl

    pub walk_describes : length f ≤ at → Describes f (record { reason = 0; place = 0; head = h; starts = starts })
    walk_describes t = answers_described f _ (walk_reads t) refl

module _ (f : List ℕ) (h : Head) (i at : ℕ) (z : 0 ≡ fault_at f h i at) where
  pub start_fits : length f < 2 ^ 64 → Fits w64 (at + 4)
  start_fits l = record { fits = omega (arith, (fault_framed f h i at (sym z)).rest) }

  pub next_fits : (b : ℕ) → b ≡ u16_at f at → length f < 2 ^ 64 → Fits w64 (at + 4 + b)
  next_fits b e l = record { fits = omega (arith, (fault_framed f h i at (sym z)).rest) }

-- ---- `read_head`: the frame has no fault, b is the body, h the answer of the head's constructor for its three bytes

module _ (f : List ℕ) where
  refused_head_lem : (r : ℕ) → head_fault f ≡ r → (r ≡ 0 → ⊥) → refused_head r ≡ head_read f
  unfolding head_read
  refused_head_lem r e n = sym (pick_false _ _ _ (ne_eqb (head_fault f) 0 (λ z. n (sym e ∙ z))) ∙ ap refused_head e)

  pub head_cut : (r : Fault) → number (fault_reason r) ≡ frame_fault f 0 (code kinds.Head) 3 → refused_head (number (fault_reason r)) ≡ head_read f
  head_cut r e = refused_head_lem (number (fault_reason r)) (head_frame f (λ z. number_some (fault_reason r) (e ∙ z)) ∙ sym e) (number_some (fault_reason r))

  module _ (z : 0 ≡ frame_fault f 0 (code kinds.Head) 3) (b : List ℕ) (eb : b ≡ take (u16_at f 0) (drop (0 + 4) f)) where
    three : (u16_at f 0 ≡ 3) × (7 ≤ length f)
    three = head_size f (sym z)

    head_length : length b ≡ 3
    head_length = length_in f b 4 3 (eb ∙ ap (λ (x : ℕ). take x (drop 4 f)) three.0) three.1

    pub head_there : (x : ℕ) → x < 3 → x < length b
    head_there x l = omega (arith, head_length)

    byte_of : (i : ℕ) → i < 3 → get_or b i 0 ≡ byte f (4 + i)
    byte_of = byte_in f b 4 3 (eb ∙ ap (λ (x : ℕ). take x (drop 4 f)) three.0)

    fault_is : head_fault f ≡ pick (broken (byte f 4) (byte f 5) (byte f 6)) 4 0
    fault_is = head_body f (sym z)

    module _ (m s k : ℕ) (p : m ≡ get_or b 0 0) (q : s ≡ get_or b 1 0) (t : k ≡ get_or b 2 0) where
      m_is : m ≡ byte f 4
      m_is = p ∙ byte_of 0 (omega arith)

      s_is : s ≡ byte f 5
      s_is = q ∙ byte_of 1 (omega arith)

      k_is : k ≡ byte f 6
      k_is = t ∙ byte_of 2 (omega arith)

      is_good : (h : Head) (c : Bool) → pick c (Err LimitBroken) (Ok (head_of f)) ≡ Ok h → (h ≡ head_of f) × (c ≡ false)
      is_good h true g = let w : ◌≡◌ {A = ℕ} 0 1 = cc in absurd (omega arith)
      is_good h false g = (cc, refl)

      is_beyond : (r : Reason) (c : Bool) → pick c (Err LimitBroken) (Ok (head_of f)) ≡ Err r → c ≡ true
      is_beyond r true g = refl
      is_beyond r false g = let w : ◌≡◌ {A = ℕ} 0 1 = cc in absurd (omega arith)

      -- y is the answer of the constructor
      pub head_answered : (y : Result heads.Head Reason) → head_outcome y ≡ checked m s k → (z : Result heads.Head Fault) → z ≡ result_or y (Err faults.LimitBroken)
          → head_reading z ≡ head_read f
      unfolding head_read
      head_answered (Ok h) e z ez =
          let w = is_good (numbers h) _ (sym (rw (m_is, s_is, k_is) at e)) in
          let n : head_fault f ≡ 0 = fault_is ∙ pick_false (broken (byte f 4) (byte f 5) (byte f 6)) 4 0 w.1 in
          rw ez (sym (pick_true _ _ _ (eq-eqb (head_fault f) 0 n) ∙ ap (λ (x : Head). record { reason = 0; head = x }) (sym w.0)))
      head_answered (Err r) e z ez =
          let w = is_beyond r _ (sym (rw (m_is, s_is, k_is) at e)) in
          rw ez (refused_head_lem 4 (fault_is ∙ pick_true (broken (byte f 4) (byte f 5) (byte f 6)) 4 0 w) (λ n. omega (arith, n)))

-- ---- x is what reading the head record alone answers of the file f

module _ (f : List ℕ) (x : HeadRead) (ex : x ≡ head_read f) where
  pub head_reason : x.reason ≡ head_fault f
  unfolding head_read
  head_reason = ap (λ (y : HeadRead). y.reason) ex ∙ pick_number (λ (y : HeadRead). y.reason) (head_fault f) _ _ refl refl

  module _ (z : x.reason ≡ 0) where
    none : head_fault f ≡ 0
    none = sym head_reason ∙ z

    pub head_read_lem : x.head ≡ head_of f
    unfolding head_read
    head_read_lem = ap (λ (y : HeadRead). y.head) (ex ∙ pick_true _ _ _ (eq-eqb (head_fault f) 0 none))

    pub head_faultless : fault_at f x.head 0 0 ≡ 0
    head_faultless = rw head_read_lem none

-- ---- `read`: the head record is read, or refused with the reason r

module _ (f : List ℕ) where
  pub head_found : (h : Head) → record { reason = 0; head = h } ≡ head_read f → h ≡ head_of f
  head_found h e = head_read_lem f (record { reason = 0; head = h }) e refl

  pub head_sound : (h : Head) → record { reason = 0; head = h } ≡ head_read f → fault_at f h 0 0 ≡ 0
  head_sound h e = head_faultless f (record { reason = 0; head = h }) e refl

  pub read_refused : (r : Fault) → refused_head (number (fault_reason r)) ≡ head_read f → refused_layout (number (fault_reason r)) 0 ≡ layout_of f
  read_refused r e =
      let w : number (fault_reason r) ≡ head_fault f = head_reason f (refused_head (number (fault_reason r))) e in
      answers_refused f _ (head_fault f) 0 (head_refused f (λ z. number_some (fault_reason r) (w ∙ z))) (ap (λ (x : ℕ). refused_layout x 0) w)
