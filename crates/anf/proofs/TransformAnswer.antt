-- What the transform answers and leaves, one law for each way out; and that applied twice it gives the input back.
use mathlib.Core.Path.{◌≡◌, refl, sym, ap, ◌∙◌}
use mathlib.Core.Logic.{◌⊎◌, inl, inr}
use mathlib.Core.Bool.{Bool, true, false, not, ◌||◌}
use mathlib.Core.List.{List, ◌++◌, ◌∷◌, []}
use Prim.Native.Nat.{ℕ, ◌^◌, ◌≤◌, ◌<◌}
use native.Mathlib.Omega.{arith}
use lib.Dec.{eqb, ltb}
use lib.ListN.{length, get_or, take, drop}
use lib.Seq.{ext_get_or, take_at}
use borrow.Author.Tests.{lt-ltb, le-ltb, eq-eqb, ne_eqb, ltb-false, eqb-true, not-false}
use Rattle.finite.specs.Faults.{first_fault}
use Rattle.std.proofs.lemmas.Bool.{or_parts, or_from, or_left, or_right}
use Rattle.finite.proofs.Testing.{tabulate_length, tabulate_at}
use Rattle.finite.proofs.Faults.{fault_here, fault_past, no_fault, fault_none}
use Rattle.anf.specs.NormalForm.{subset_sum, degree}
use Rattle.anf.specs.Tables.{entries_below}
use Rattle.anf.specs.Inside.Words.{words_degree}
use Rattle.anf.specs.Transform.{greatest_width, transform_reason, transform_after, transformed}
use Rattle.anf.proofs.SubsetSums.{subset_sum_twice, subset_sum_ext, subset_sum_lt}
use Rattle.anf.proofs.Tables.{entries_at, entries_intro}
use Rattle.anf.proofs.WordDegree.{words_degree_lem}

-- the reason answered, and the output afterwards
pub record Answered (m : ℕ) (t out : List ℕ) (r : ℕ) (after : List ℕ) : Type 0 where
  pub reason : r ≡ transform_reason m t (length out)
  pub left : after ≡ transform_after m t out

pub answered : {m : ℕ} {t out : List ℕ} {r : ℕ} {after : List ℕ} → Answered m t out r after
    → record { value : r ≡ transform_reason m t (length out); output_after : after ≡ transform_after m t out }
answered a = record { value = a.reason; output_after = a.left }

-- a refusal leaves the output as it was
refuses : (m : ℕ) (t out : List ℕ) (r : ℕ) → transform_reason m t (length out) ≡ r → (r ≡ 0 → ⊥) → Answered m t out r out
unfolding transform_after
refuses m t out r e n = record { reason = sym e; left = rw (e, ne_eqb r 0 n) refl }

module _ (m : ℕ) (t out : List ℕ) where
  beyond : (m < 1) ⊎ ((1 ≤ m) × (greatest_width < m)) → (ltb m 1 || ltb greatest_width m) ≡ true
  beyond (inl h) = or_left _ _ (lt-ltb _ _ h)
  beyond (inr h) = or_right (ltb m 1) _ (lt-ltb _ _ h.1)

  pub no_width : (m < 1) ⊎ ((1 ≤ m) × (greatest_width < m)) → Answered m t out 4 out
  no_width a = refuses m t out 4 (unfold transform_reason in fault_here _ 4 _ 0 (beyond a)) (omega arith)

  module _ (a : 1 ≤ m) where
    module _ (b : m ≤ greatest_width) (n : ℕ) (e : n ≡ 2 ^ m) where
      width : (ltb m 1 || ltb greatest_width m) ≡ false
      width = or_from _ _ (le-ltb _ _ a) (le-ltb _ _ b)

      pub uneven : (length t ≡ n → ⊥) → Answered m t out 3 out
      uneven f =
          refuses m t out 3 (unfold transform_reason in fault_past _ 4 _ 0 width ∙ fault_here _ 3 _ 0 (ap not (ne_eqb _ _ (λ h. f (h ∙ sym e))))) (omega arith)

      module _ (l : length t ≡ n) (s : Bool) (es : s ≡ entries_below t n) where
        size : not (eqb (length t) (2 ^ m)) ≡ false
        size = ap not (eq-eqb _ _ (l ∙ e))

        entries : entries_below t (2 ^ m) ≡ s
        entries = ap (entries_below t) (sym e) ∙ sym es

        pub large : not s ≡ true → Answered m t out 5 out
        large f =
            refuses m t out 5 (unfold transform_reason in fault_past _ 4 _ 0 width ∙ fault_past _ 3 _ 0 size ∙ fault_here _ 5 _ 0 (ap not entries ∙ f)) (omega arith)

        module _ (y : not s ≡ false) where
          last : transform_reason m t (length out) ≡ first_fault ((ltb (length out) (2 ^ m), 17) ∷ []) 0
          last = unfold transform_reason in fault_past _ 4 _ 0 width ∙ fault_past _ 3 _ 0 size ∙ fault_past _ 5 _ 0 (ap not entries ∙ y)

          pub short : length out < n → Answered m t out 17 out
          short f = let k : length out < 2 ^ m = rw e at f in refuses m t out 17 (last ∙ fault_here _ 17 _ 0 (lt-ltb _ _ k)) (omega arith)

          pub done : n ≤ length out → (after : List ℕ) → after ≡ transformed m t ++ drop (2 ^ m) out → Answered m t out 0 after
          unfolding transform_after
          done f after d =
              let k : 2 ^ m ≤ length out = rw e at f in
              let r : transform_reason m t (length out) ≡ 0 = last ∙ fault_past _ 17 _ 0 (le-ltb _ _ k) ∙ fault_none 0 in
              record { reason = sym r; left = d ∙ sym (rw r refl) }

-- ---- what is accepted, and that the transform applied twice gives it back

-- every test has passed
pub record InputPasses (m : ℕ) (input : List ℕ) (room : ℕ) : Type 0 where
  pub least : 1 ≤ m
  pub most : m ≤ greatest_width
  pub size : length input ≡ 2 ^ m
  pub below : entries_below input (2 ^ m) ≡ true
  pub room_enough : 2 ^ m ≤ room

pub reason_input : (m : ℕ) (input : List ℕ) (room : ℕ) → transform_reason m input room ≡ 0 → InputPasses m input room
unfolding transform_reason
reason_input m input room e =
    let p = no_fault (ltb m 1 || ltb greatest_width m) 4 _ (omega arith) e in
    let q = no_fault (not (eqb (length input) (2 ^ m))) 3 _ (omega arith) p.1 in
    let r = no_fault (not (entries_below input (2 ^ m))) 5 _ (omega arith) q.1 in
    let s = no_fault (ltb room (2 ^ m)) 17 [] (omega arith) r.1 in
    let w = or_parts (ltb m 1) (ltb greatest_width m) p.0 in
    record {
      least = ltb-false m 1 w.0;
      most = ltb-false greatest_width m w.1;
      size = eqb-true (length input) (2 ^ m) (not-false (eqb (length input) (2 ^ m)) q.0);
      below = not-false (entries_below input (2 ^ m)) r.0;
      room_enough = ltb-false room (2 ^ m) s.0;
    }

pub input_answer : (m : ℕ) (input output : List ℕ) → InputPasses m input (length output)
    → (transform_reason m input (length output) ≡ 0) × (transform_after m input output ≡ transformed m input ++ drop (2 ^ m) output)
input_answer m input output a =
    let w = done m input output a.least a.most (2 ^ m) refl a.size true (sym a.below) refl a.room_enough (transformed m input ++ drop (2 ^ m) output) refl in
    (sym w.reason, sym w.left)

-- the result of an accepted input is accepted, and transforms into that input
pub transformed_back : (m : ℕ) (input : List ℕ) → length input ≡ 2 ^ m → transformed m (transformed m input) ≡ input
transformed_back m input e =
    ext_get_or 0 (transformed m (transformed m input)) input (tabulate_length (2 ^ m) (subset_sum m (λ v. get_or (transformed m input) v 0)) ∙ sym e)
    (λ u l. let k : u < 2 ^ m = rw (tabulate_length (2 ^ m) (subset_sum m (λ v. get_or (transformed m input) v 0))) at l in
    tabulate_at (2 ^ m) (subset_sum m (λ v. get_or (transformed m input) v 0)) u 0 k
    ∙ subset_sum_ext m u (λ v. get_or (transformed m input) v 0) (subset_sum m (λ v. get_or input v 0)) (λ v q. tabulate_at (2 ^ m) (subset_sum m (λ v. get_or input v 0)) v 0 q)
    ∙ subset_sum_twice m (λ v. get_or input v 0) u k)

transformed_below : (m : ℕ) (input : List ℕ) → length input ≡ 2 ^ m → entries_below input (2 ^ m) ≡ true → entries_below (transformed m input) (2 ^ m) ≡ true
transformed_below m input e b =
    entries_intro (transformed m input) (2 ^ m)
    (λ u l. rw (tabulate_at (2 ^ m) (subset_sum m (λ v. get_or input v 0)) u 0 (rw (tabulate_length (2 ^ m) (subset_sum m (λ v. get_or input v 0))) at l))
    (subset_sum_lt m m u (λ v. get_or input v 0) (λ v k. entries_at input (2 ^ m) b v (omega (arith, e)))))

-- Applied twice it returns the input: what it writes for an accepted input it accepts, and writes the input back.
pub transform_twice : (m : ℕ) (input output back : List ℕ) → transform_reason m input (length output) ≡ 0 → 2 ^ m ≤ length back
    → (transform_reason m (take (2 ^ m) (transform_after m input output)) (length back) ≡ 0)
    × (transform_after m (take (2 ^ m) (transform_after m input output)) back ≡ input ++ drop (2 ^ m) back)
transform_twice m input output back e room =
    let a = reason_input m input (length output) e in
    let c = transformed m input in
    let size : length c ≡ 2 ^ m = tabulate_length (2 ^ m) (subset_sum m (λ v. get_or input v 0)) in
    let q : take (2 ^ m) (transform_after m input output) ≡ c =
    ap (take (2 ^ m)) (input_answer m input output a).1 ∙ take_at c (drop (2 ^ m) output) (2 ^ m) size in
    let w = input_answer m c back
    (record { least = a.least; most = a.most; size = size; below = transformed_below m input a.size a.below; room_enough = room }) in
    rw q (w.0, w.1 ∙ ap (λ (x : List ℕ). x ++ drop (2 ^ m) back) (transformed_back m input a.size))

-- the words that are written give the table's degree
pub transformed_degree : (m : ℕ) (input : List ℕ) → words_degree (transformed m input) ≡ degree m (λ v. get_or input v 0)
transformed_degree m input =
    words_degree_lem m (λ v. get_or input v 0) (transformed m input) (tabulate_length (2 ^ m) (subset_sum m (λ v. get_or input v 0)))
    (λ u l. tabulate_at (2 ^ m) (subset_sum m (λ v. get_or input v 0)) u 0 l)
