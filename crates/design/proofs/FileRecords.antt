-- What a layout that describes a file says of it: each record is without fault, so its body lies within the file, and a table's entries
-- and a list's terms stand where the design has them.
use Prim.Native.Nat.{ℕ, zero, suc, ◌+◌, ◌*◌, ◌-◌, ◌/◌, ◌%◌, ◌^◌, ◌≤◌, ◌<◌}
use mathlib.Core.Path.{◌≡◌, refl, sym, ◌∙◌}
use mathlib.Core.List.{List, []}
use mathlib.Core.Bool.{Bool, true, false}
use native.Mathlib.Omega.{arith}
use native.Mathlib.Decide.{dec_lt}
use native.Mathlib.Nat.{mod-lt, div-add-mod', div-lt_iff_lt-mul, add-zero}
use native.Mathlib.Numerals.{add-one}
use borrow.Author.Tests.{ltb-false, eqb-true, ne_eqb}
use lib.ListN.{length, get_or, take, drop}
use lib.Arith.{digits_lt, digits_mod, digits_div}
use lib.Dec.{ltb, eqb}
use Rattle.finite.specs.Tests.{pick}
use Rattle.finite.proofs.Testing.{tabulate_at}
use Rattle.design.specs.Limits.{greatest_terms}
use Rattle.records.specs.Bytes.{u16_at}
use Rattle.records.specs.Design.{Design, no_stage, stage_of, list_of}
use Rattle.design.specs.Inside.Described.{Limits}
use Rattle.design.specs.Layout.{Describes}
use Rattle.design.specs.Reading.{last_of, number_of, kind_due, size_due, length_due, fault_at, Reading, refused, means, reading, walk, place, head_of, meaning, stage_at, table_at, list_at}
use Rattle.design.specs.Limits.{Head}
use Rattle.design.specs.Layout.{Layout}
use Rattle.design.proofs.Limits.{Bounds, bounds}
use Rattle.design.proofs.Records.{Framed, fault_framed}
use Rattle.design.proofs.Walking.{head_within, place_next}

-- a walk that ends in a design met no fault
module _ (f : List ℕ) (h : Head) (d : Design) where
  step : (x at : ℕ) (w : Reading) (b : Bool) → eqb x 0 ≡ b → pick b w (refused x at) ≡ means d → (x ≡ 0) × (w ≡ means d)
  step x at w true q e = (eqb-true x 0 q, e)
  step x at w false q e = let z : ◌≡◌ {A = ℕ} 0 1 = cc in absurd (omega arith)

  pub none : (left i at : ℕ) → walk f h left i at ≡ means d → at ≡ place f i → (j : ℕ) → i ≤ j → j < i + left → fault_at f h j (place f j) ≡ 0
  unfolding walk
  none zero i at e p j l u = absurd (omega arith)
  none (suc left) i at e p j l u =
      let s = step (fault_at f h i at) at (walk f h left (suc i) (at + 4 + u16_at f at)) _ refl e in
      let q : at + 4 + u16_at f at ≡ place f (suc i) = rw p (sym (rw add-one at (place_next f i))) in
      go (dec_lt i j) s.0 (λ k. none left (suc i) (at + 4 + u16_at f at) s.1 q j k (omega arith))
    where
      go : Dec (i < j) → fault_at f h i at ≡ 0 → (i < j → fault_at f h j (place f j) ≡ 0) → fault_at f h j (place f j) ≡ 0
      go (yes k) a r = r k
      go (no k) a r = let t : j ≡ i = omega arith in rw (t, ← p) a

module _ (h : Head) (t l : ℕ) (a : t < h.k) (b : l ≤ h.m * h.s) where
  pub number_low : number_of h t l < last_of h
  unfolding number_of last_of
  number_low = let d = digits_lt {r = l} {c = 1 + h.m * h.s} a (omega arith) in omega arith

  pub number_two : 2 ≤ number_of h t l
  unfolding number_of
  number_two = omega arith

  pub number_div : (number_of h t l - 2) / (1 + h.m * h.s) ≡ t
  unfolding number_of
  number_div =
      let e : 2 + t * (1 + h.m * h.s) + l - 2 ≡ t * (1 + h.m * h.s) + l = omega arith in
      rw e (digits_div t (omega arith))

  pub number_mod : (number_of h t l - 2) % (1 + h.m * h.s) ≡ l
  unfolding number_of
  number_mod =
      let e : 2 + t * (1 + h.m * h.s) + l - 2 ≡ t * (1 + h.m * h.s) + l = omega arith in
      rw e (digits_mod t (omega arith))

  -- the kind due of a stage's record: a table first, then lists
  pub staged : kind_due h (number_of h t l) ≡ pick (eqb l 0) 2 3
  unfolding kind_due
  staged =
      let x = number_two in
      let y = number_low in
      simp (ne_eqb (number_of h t l) 0 (λ z. omega arith), ne_eqb (number_of h t l) 1 (λ z. omega arith), ne_eqb (number_of h t l) (last_of h) (λ z. omega arith), number_mod)

-- every record is the head, the box, the end or a stage's
pub record_cases : (h : Head) (P : ℕ → Type 0) → P 0 → P 1 → P (last_of h)
    → ((t l : ℕ) → t < h.k → l ≤ h.m * h.s → P (number_of h t l)) → (i : ℕ) → i < last_of h + 1 → P i
unfolding last_of number_of
record_cases h P a b c s i u = go (dec_lt i 1) (dec_lt i 2) (dec_lt i (last_of h))
  where
    stage : 2 ≤ i → i < last_of h → P i
    stage x y =
        let w : 0 < 1 + h.m * h.s = omega arith in
        let m = mod-lt (i - 2) w in
        let v = div-add-mod' (i - 2) (1 + h.m * h.s) in
        let q : (i - 2) / (1 + h.m * h.s) < h.k = (div-lt_iff_lt-mul w).1 (omega arith) in
        let e : 2 + (i - 2) / (1 + h.m * h.s) * (1 + h.m * h.s) + (i - 2) % (1 + h.m * h.s) ≡ i = omega arith in
        rw e at (s ((i - 2) / (1 + h.m * h.s)) ((i - 2) % (1 + h.m * h.s)) q (omega arith))

    go : Dec (i < 1) → Dec (i < 2) → Dec (i < last_of h) → P i
    go (yes x) y z = let e : 0 ≡ i = omega arith in rw e at a
    go (no x) (yes y) z = let e : 1 ≡ i = omega arith in rw e at b
    go (no x) (no y) (yes z) = stage (omega arith) z
    go (no x) (no y) (no z) = let e : last_of h ≡ i = omega arith in rw e at c

-- a walk that ends in a design ends with the file, and means it
pub ends : (f : List ℕ) (h : Head) (d : Design) (left i at : ℕ) → walk f h left i at ≡ means d → at ≡ place f i → (d ≡ meaning f) × (length f ≤ place f (i + left))
unfolding walk
ends f h d zero i at e p = go _ refl e
  where
    go : (b : Bool) → ltb at (length f) ≡ b → pick b (refused 7 at) (means (meaning f)) ≡ means d → (d ≡ meaning f) × (length f ≤ place f (i + 0))
    go true q e = let z : ◌≡◌ {A = ℕ} 0 1 = cc in absurd (omega arith)
    go false q e = (cc, let o : length f ≤ at = ltb-false _ _ q in rw add-zero (omega arith))
ends f h d (suc left) i at e p =
    let s = step f h d (fault_at f h i at) at (walk f h left (suc i) (at + 4 + u16_at f at)) _ refl e in
    let q : at + 4 + u16_at f at ≡ place f (suc i) = rw p (sym (rw add-one at (place_next f i))) in
    let k : i + suc left ≡ suc i + left = omega arith in
    rw k (ends f h d left (suc i) (at + 4 + u16_at f at) s.1 q)

-- a file that reads
module _ (f : List ℕ) (r : reading f ≡ means (meaning f)) where
  pub fine : (j : ℕ) → j < last_of (head_of f) + 1 → fault_at f (head_of f) j (place f j) ≡ 0
  unfolding reading place
  fine j u = none f (head_of f) (meaning f) (last_of (head_of f) + 1) 0 0 r refl j (omega arith) (omega arith)

  pub limits_file : Limits (head_of f)
  unfolding place
  limits_file = head_within f (fine 0 (omega arith))

  module _ (t : ℕ) (a : t < (head_of f).k) where
    pub stage_is : stage_of (meaning f) t ≡ stage_at f (head_of f) t
    unfolding meaning
    stage_is = tabulate_at _ _ t no_stage a

    pub list_is : (i : ℕ) → i < (head_of f).m * (head_of f).s → list_of (meaning f) t i ≡ list_at f (place f (number_of (head_of f) t (i + 1)))
    unfolding stage_at
    list_is i b = rw stage_is (tabulate_at _ _ i [] b)

    -- the table's record
    pub table_framed : Framed f (place f (number_of (head_of f) t 0)) 2 (2 ^ (head_of f).m)
    unfolding size_due
    table_framed =
        rw (staged (head_of f) t 0 a (omega arith)) at
        (fault_framed f (head_of f) (number_of (head_of f) t 0) _ (fine _ (let n = number_low (head_of f) t 0 a (omega arith) in omega arith)))

    pub list_framed : (i : ℕ) → i < (head_of f).m * (head_of f).s → Framed f (place f (number_of (head_of f) t (i + 1))) 3 (4 * greatest_terms)
    unfolding size_due
    list_framed i b =
        rw (staged (head_of f) t (i + 1) a (omega arith), ne_eqb (i + 1) 0 (λ z. omega arith)) at
        (fault_framed f (head_of f) (number_of (head_of f) t (i + 1)) _
        (fine _ (let n = number_low (head_of f) t (i + 1) a (omega arith) in omega arith)))

-- n bytes of the file f from a place on, which are b
pub record Part (f : List ℕ) (from n : ℕ) (b : List ℕ) : Type 0 where
  pub fits : from + n ≤ length f
  pub is : take n (drop from f) ≡ b

-- a layout that describes the file f
module _ (f : List ℕ) (l : Layout) (d : Describes f l) where
  pub limits : Limits l.head
  limits = rw d.head (limits_file f d.read)

  pub limited : Bounds l.head.m l.head.s l.head.k
  limited = bounds _ _ _ limits

  -- the box
  pub box_part : (from : ℕ) → from ≡ get_or l.starts 1 0 → Part f from (2 ^ l.head.m) (meaning f).box
  unfolding kind_due size_due length_due meaning table_at last_of
  box_part from e =
      let u : 1 < last_of (head_of f) + 1 = omega arith in
      let w = fault_framed f (head_of f) 1 (place f 1) (fine f d.read 1 u) in
      let s : u16_at f (place f 1) ≡ 2 ^ (head_of f).m = eqb-true _ _ w.size in
      let q : from ≡ place f 1 + 4 = e ∙ d.starts 1 u in
      rw (d.head, q) (record { fits = let r = w.rest in omega arith; is = refl })

  -- the table of stage t
  pub table_part : (t i from : ℕ) → t < l.head.k → i ≡ number_of l.head t 0 → from ≡ get_or l.starts i 0 → Part f from (2 ^ l.head.m) (stage_of (meaning f) t).table
  unfolding length_due stage_at table_at
  table_part t i from a₀ n₀ e₀ =
      let a : t < (head_of f).k = rw d.head at a₀ in
      let e : from ≡ get_or l.starts (number_of (head_of f) t 0) 0 = rw (n₀, d.head) at e₀ in
      let n = number_low (head_of f) t 0 a (omega arith) in
      let w = table_framed f d.read t a in
      let s : u16_at f (place f (number_of (head_of f) t 0)) ≡ 2 ^ (head_of f).m = eqb-true _ _ w.size in
      let q : from ≡ place f (number_of (head_of f) t 0) + 4 = e ∙ d.starts _ (omega arith) in
      rw (d.head, q, stage_is f d.read t a) (record { fits = let r = w.rest in omega arith; is = refl })
