-- The functions of `engine` at each way out and for a turn, over plain values: ls are lists, j is a component.
-- Lists are read from the last down: each step adds the value of one list below those so far, and the last step gives the output of all.
-- Assumes nothing.
use mathlib.Core.Path.{◌≡◌, refl, sym, ap, ◌∙◌}
use mathlib.Core.List.{List, [], ◌∷◌}
use lib.Dec.{eqb}
use borrow.Author.Tests.{eqb-true, eq-eqb}
use Rattle.std.specs.Int.{from_bool}
use Rattle.finite.specs.Tests.{pick}
use Rattle.finite.specs.Sets.{subset}
use Rattle.finite.proofs.Testing.{bool_ext}
use Prim.Native.Nat.{ℕ, ◌+◌, ◌-◌, ◌*◌, ◌/◌, ◌^◌, ◌≤◌, ◌<◌}
use native.Mathlib.Nat.{lt_of_lt_of_le, mul-le-mul_left, mul-suc}
use native.Mathlib.Omega.{arith}
use lib.Bits.{bit_and, bit_or, bit_xor, xor_zero_r, or_add_and}
use Rattle.finite.proofs.Xor.{xor_and}
use Rattle.std.specs.Int.Bits.{xor_assoc}
use lib.Pow.{pow_mono, pow_pos}
use lib.ListN.{length, get_or, take, drop, length-drop}
use lib.Seq.{length-take-le}
use mathlib.Core.Bool.{Bool, true, false}
use mir.Syntax.{w32, w64}
use mir.Val.{Fits}
use Rattle.anf.specs.Terms.{value_at}
use Rattle.anf.proofs.Terms.{value_at_lt}
use Rattle.design.specs.Limits.{greatest_width, greatest_share_bits, broken}
use Rattle.design.proofs.Limits.{bounds}
use Rattle.sharing.specs.Sharing.{sum}
use Rattle.sharing.specs.Stages.{output, component}
use Rattle.sharing.proofs.Sharing.{sum_none, sum_step, sum_lt}
use Rattle.sharing.proofs.Output.{output_lt, output_none, output_next, output_share}

-- ---- `value_of`: v is that of the terms so far, l are those that are left

one_there : (t x : ℕ) → eqb (bit_or t x) x ≡ subset t x
unfolding subset
one_there t x =
    bool_ext (eqb (bit_or t x) x) (eqb (bit_and t x) t)
    (λ h. eq-eqb _ _ (omega (arith, or_add_and t x, eqb-true _ _ h)))
    (λ h. eq-eqb _ _ (omega (arith, or_add_and t x, eqb-true _ _ h)))

one_is : (b : Bool) → from_bool b ≡ pick b 1 0
one_is true = refl
one_is false = refl

module _ (ts l : List ℕ) (x v : ℕ) (i : bit_xor v (value_at l x) ≡ value_at ts x) where
  -- the first of them is the term t, and r is whether it is 1
  pub value_more : (t r : ℕ) (l' : List ℕ) → l ≡ t ∷ l' → r ≡ from_bool (eqb (bit_or t x) x) → bit_xor (bit_xor v r) (value_at l' x) ≡ value_at ts x
  unfolding value_at
  value_more t r l' e er =
      let p : r ≡ pick (subset t x) 1 0 = er ∙ ap from_bool (one_there t x) ∙ one_is (subset t x) in
      xor_assoc v r (value_at l' x) ∙ ap (λ (a : ℕ). bit_xor v (bit_xor a (value_at l' x))) p ∙ rw e at i

  -- none is left
  pub value_all : l ≡ [] → v ≡ value_at ts x
  unfolding value_at
  value_all e = sym (xor_zero_r v) ∙ rw e at i

-- ---- `output_of`: y is the output of the lists from the i-th on

pub record OutputFrom (ls : List (List ℕ)) (x i y : ℕ) : Type 0 where
  pub value : y ≡ output (drop i ls) x
  pub small : y < 2 ^ greatest_share_bits

module _ (ls : List (List ℕ)) (x n : ℕ) (en : n ≡ length ls) where
  some_lt : (i : ℕ) → output (drop i ls) x < 2 ^ length ls
  some_lt i = let k = length-drop i ls in lt_of_lt_of_le (output_lt (drop i ls) x) (pow_mono (omega arith))

  from_value : n ≤ greatest_share_bits → (i y : ℕ) → y ≡ output (drop i ls) x → OutputFrom ls x i y
  from_value few i y e = record { value = e; small = rw e (lt_of_lt_of_le (some_lt i) (pow_mono {j = greatest_share_bits} (omega arith))) }

  pub from_start : n ≤ greatest_share_bits → OutputFrom ls x n 0
  from_start few = from_value few n 0 (sym (output_none x ls) ∙ ap (λ (k : ℕ). output (drop k ls) x) (sym en))

  module _ (i y : ℕ) (w : OutputFrom ls x i y) (ts : List ℕ) (v : ℕ) (ev : v ≡ value_at ts x) where
    pub from_fits : Fits w32 (2 * y + v)
    from_fits = record { fits = omega (arith, w.small, value_at_lt ts x) }

    pub from_more : n ≤ greatest_share_bits → 0 < i → i ≤ n → ts ≡ get_or ls (i - 1) [] → OutputFrom ls x (i - 1) (2 * y + v)
    from_more few low high eb =
        let o = output_next x (i - 1) ls (omega arith) in
        let j : i - 1 + 1 ≡ i = omega arith in
        let q : output (drop (i - 1 + 1) ls) x ≡ y = rw j (sym w.value) in
        let r : value_at (get_or ls (i - 1) []) x ≡ v = ap (λ (l : List ℕ). value_at l x) (sym eb) ∙ sym ev in
        from_value few (i - 1) (2 * y + v) (omega arith)

  module _ (i y : ℕ) (w : OutputFrom ls x i y) (h : i ≤ 0) where
    pub from_end : y ≡ output ls x
    from_end = let z : i ≡ 0 = omega arith in w.value ∙ ap (λ (k : ℕ). output (drop k ls) x) z

    pub from_lt : y < 2 ^ length ls
    from_lt = rw w.value (some_lt i)

-- ---- `component_at`: the m lists from m × j on

module _ (m s k : ℕ) (limits : broken m s k ≡ false) (j : ℕ) (u : j < s) where
  part_before : m * j + m ≤ m * s
  part_before = let e = mul-le-mul_left m u in let q = mul-suc m j in omega arith

  pub before_fits : Fits w64 (m * j)
  before_fits = record { fits = omega (arith, part_before, (bounds m s k limits).bits) }

  module _ (ls : List (List ℕ)) (many : length ls ≡ m * s) where
    pub part_within : m * j + m ≤ length ls
    part_within = omega (arith, part_before)

    pub component_lt : (part : List (List ℕ)) → part ≡ take m (drop (m * j) ls) → (r : ℕ) → r < 2 ^ length part → r < 2 ^ m
    component_lt part q r o =
        let n : length part ≡ m =
        ap (λ (y : List (List ℕ)). length y) q ∙ length-take-le m (drop (m * j) ls) (rw (length-drop (m * j) ls) (omega (arith, part_within))) in
        rw n at o

pub component_found : (m j : ℕ) (ls us part : List (List ℕ)) → part ≡ take m (drop (m * j) ls) → ls ≡ us → (r x : ℕ) → r ≡ output part x → r ≡ component m us j x
component_found m j ls us part q e r x o =
    o ∙ ap (λ (y : List (List ℕ)). output y x) (q ∙ ap (λ (y : List (List ℕ)). take m (drop (m * j) y)) e) ∙ sym (output_share x m j us)

-- ---- `share_mask`: p is the number of values of a share

module _ (m p : ℕ) (e : p ≡ 2 ^ m) where
  pub some_values : 1 ≤ p
  some_values = omega (arith, pow_pos m)

  pub mask_fits : m ≤ greatest_width → p - 1 < 2 ^ 32
  mask_fits h = let q : 2 ^ m ≤ 2 ^ greatest_width = pow_mono h in omega arith

-- ---- `sum_of`: the lowest bits of total are the sum of the i shares passed, rest holds those left

module _ (w s x total rest i : ℕ) (e : bit_xor (bit_and total (2 ^ w - 1)) (sum w (s - i) rest) ≡ sum w s x) where
  pub sum_more : i < s → bit_xor (bit_and (bit_xor total rest) (2 ^ w - 1)) (sum w (s - (i + 1)) (rest / 2 ^ w)) ≡ sum w s x
  sum_more h =
      let z : s - (i + 1) ≡ s - i - 1 = omega arith in
      rw (z, xor_and) (sum_step w (s - i) (bit_and total (2 ^ w - 1)) rest (sum w s x) (omega arith) e)

  module _ (h : s ≤ i) (mask : ℕ) (q : mask ≡ 2 ^ w - 1) where
    pub sum_end : bit_and total mask ≡ sum w s x
    sum_end =
        let z : s - i ≡ 0 = omega arith in
        ap (bit_and total) q
        ∙ sym (xor_zero_r (bit_and total (2 ^ w - 1))) ∙ ap (bit_xor (bit_and total (2 ^ w - 1))) (sym (sum_none w rest) ∙ ap (λ (k : ℕ). sum w k rest) (sym z))
        ∙ e

    pub sum_small : bit_and total mask < 2 ^ w
    sum_small = rw sum_end (sum_lt w s x)
