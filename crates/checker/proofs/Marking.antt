-- Marks: marking y marks y and nothing else. A pass that marks outputs meets a mark exactly where an output was met before.
-- Assumes nothing.
use mathlib.Core.Path.{◌≡◌, refl, sym, ap, ap₂, ◌∙◌, subst}
use mathlib.Core.List.{List, ◌++◌}
use Rattle.std.specs.Prelude.{Option, Some, None}
use mathlib.Core.Bool.{Bool, true, false, ◌||◌}
use mathlib.Core.Logic.{◌≢◌}
use Prim.Native.Nat.{ℕ, ◌+◌, ◌*◌, ◌/◌, ◌%◌, ◌^◌, ◌<◌, ◌≤◌}
use native.Mathlib.Nat.{one-mul}
use native.Mathlib.Decide.{ℕ_discrete}
use native.Mathlib.Omega.{arith}
use lib.Dec.{eqb, lit<}
use lib.ListN.{length, get_or, set, drop, replicate, length-set, get_or-append, get_or-replicate, length-replicate}
use lib.Seq.{get_or-set_same, get_or-set_other, drop-set-lt}
use lib.Bits.{bit_or}
use lib.Pow.{shl_exact}
use borrow.Author.Tests.{eq-eqb, ne_eqb}
use Rattle.finite.specs.Tests.{any}
use Rattle.finite.specs.Maps.{met_before}
use Rattle.std.proofs.lemmas.Bool.{or_right}
use Rattle.finite.proofs.Testing.{any_step, any_none_more, or_false_right}
use Rattle.finite.specs.Sets.{has}
use Rattle.finite.proofs.Elements.{has_none, has_with, has_with_other}
use Rattle.finite.proofs.Powers.{eights}
use Rattle.design.specs.Limits.{broken}
use Rattle.design.proofs.Limits.{bounds}
use Rattle.sharing.specs.Stages.{output}
use Rattle.sharing.proofs.Output.{output_lt}
use Rattle.checker.specs.Verdict.{workspace_for, zeroed}
use Rattle.checker.specs.Inside.Marks.{marked, mark, Clear}
use Rattle.checker.specs.Inside.Parts.{found}
use Rattle.checker.proofs.Passes.{found_at, found_none}

-- marking y marks y and nothing else
mark_same : (l : List ℕ) (y : ℕ) → y / 8 < length l → marked (mark l y) y ≡ true
unfolding marked mark
mark_same l y h = ap (λ (b : ℕ). has b (y % 8)) (get_or-set_same l (y / 8) _ 0 h) ∙ has_with (get_or l (y / 8) 0) (y % 8)

mark_other : (l : List ℕ) (y z : ℕ) → y / 8 < length l → y ≢ z → marked (mark l y) z ≡ marked l z
unfolding marked mark
mark_other l y z h f = go (ℕ_discrete (z / 8) (y / 8))
  where
    v : ℕ
    v = bit_or (get_or l (y / 8) 0) (2 ^ (y % 8))

    go : Dec (z / 8 ≡ y / 8) → has (get_or (set l (y / 8) v) (z / 8) 0) (z % 8) ≡ has (get_or l (z / 8) 0) (z % 8)
    go (yes e) =
        rw e
        (ap (λ (b : ℕ). has b (z % 8)) (get_or-set_same l (y / 8) v 0 h)
        ∙ has_with_other (get_or l (y / 8) 0) (y % 8) (z % 8) (λ q. f (omega arith)))
    go (no g) = ap (λ (b : ℕ). has b (z % 8)) (get_or-set_other l (y / 8) (z / 8) v 0 g)

pub mark_marks : (l : List ℕ) (y z : ℕ) → y / 8 < length l → marked (mark l y) z ≡ (marked l z || eqb y z)
mark_marks l y z h = go (ℕ_discrete y z)
  where
    go : Dec (y ≡ z) → marked (mark l y) z ≡ (marked l z || eqb y z)
    go (yes e) = subst (λ (z : ℕ). marked (mark l y) z ≡ (marked l z || eqb y z)) e (mark_same l y h ∙ sym (or_right (marked l y) (eqb y y) (eq-eqb y y refl)))
    go (no f) = mark_other l y z h f ∙ sym (or_false_right (marked l z) (eqb y z) (ne_eqb y z f))

-- the byte that `mark_one` stores: the shift loses no bit
pub mark_stored : (l : List ℕ) (y : ℕ) → set l (y / 8) (bit_or (get_or l (y / 8) 0) (1 * 2 ^ (y % 8) % 2 ^ 8)) ≡ mark l y
unfolding mark
mark_stored l y = rw (shl_exact 1 (y % 8) 8 (lit< tt) (omega arith), one-mul) refl

pub mark_length : (l : List ℕ) (y : ℕ) → length (mark l y) ≡ length l
unfolding mark
mark_length l y = simp length-set

pub mark_drop : (l : List ℕ) (k y : ℕ) → y / 8 < k → drop k (mark l y) ≡ drop k l
unfolding mark
mark_drop l k y h = drop-set-lt k l (y / 8) _ h

-- zero bytes have no mark
pub clear_none : (n : ℕ) (l rest : List ℕ) → n % 8 ≡ 0 → l ≡ replicate (n / 8) 0 ++ rest → Clear n l
unfolding marked
clear_none n l rest whole q y h =
    let k = n / 8 in
    let e : y / 8 < k = omega arith in
    rw (q, get_or-append (replicate k 0) rest 0 (y / 8) (rw length-replicate e), get_or-replicate {A = ℕ} k (y / 8) 0 0 e)
    (has_none (y % 8))

-- ---- what a run has found

-- i outputs are marked, and none twice
pub record MarkedTo (n : ℕ) (g : ℕ → ℕ) (l₀ l : List ℕ) (i : ℕ) : Type 0 where
  pub long : length l ≡ length l₀
  pub rest : drop (n / 8) l ≡ drop (n / 8) l₀
  pub once : any i (met_before g) ≡ false
  pub met : (y : ℕ) → y < n → marked l y ≡ any i (λ j. eqb (g j) y)

pub marked_start : (n : ℕ) (g : ℕ → ℕ) (l : List ℕ) → Clear n l → MarkedTo n g l l 0
unfolding any
marked_start n g l k = record { long = refl; rest = refl; once = refl; met = k }

-- `first_met_in`, at each way out and for a turn: ls are the lists, y is the output of sharing i, q whether it was marked before, l₁ the marks with it
module _ (ls : List (List ℕ)) (l₀ l : List ℕ) (i : ℕ) (r : MarkedTo (2 ^ length ls) (output ls) l₀ l i) where
  module _ (x y : ℕ) (ex : x ≡ i) (ey : y ≡ output ls i) (low : 3 ≤ length ls) (room : 2 ^ length ls / 8 ≤ length l₀) where
    below : y < 2 ^ length ls
    below = rw ey (output_lt ls i)

    within : y / 8 < 2 ^ length ls / 8
    within = let w = eights (length ls) low in let b = below in omega arith

    seen : marked l y ≡ met_before (output ls) i
    unfolding met_before
    seen = r.met y below ∙ ap (λ (z : ℕ). any i (λ j. eqb (output ls j) z)) ey

    -- the mark is inside the workspace
    pub marked_inside : y / 8 < length l
    marked_inside = let w = within in let h = r.long in omega arith

    -- a mark that is met is an earlier output
    pub marked_found : (q : Bool) → q ≡ true → q ≡ marked l y → i < 2 ^ length ls → Some x ≡ found (2 ^ length ls) (met_before (output ls))
    marked_found q h m k = ap Some ex ∙ found_at (2 ^ length ls) (met_before (output ls)) i k r.once (sym seen ∙ sym m ∙ h)

    pub marked_rest : (l₁ : List ℕ) → l₁ ≡ mark l y → drop (2 ^ length ls / 8) l₁ ≡ drop (2 ^ length ls / 8) l₀
    marked_rest l₁ m = ap (drop (2 ^ length ls / 8)) m ∙ mark_drop l (2 ^ length ls / 8) y within ∙ r.rest

    pub marked_step : (q : Bool) → q ≡ false → q ≡ marked l y → (l₁ : List ℕ) → l₁ ≡ mark l y → MarkedTo (2 ^ length ls) (output ls) l₀ l₁ (i + 1)
    marked_step q h m l₁ is = record {
      long = ap length is ∙ mark_length l y ∙ r.long;
      rest = marked_rest l₁ is;
      once = any_none_more i (met_before (output ls)) r.once (sym seen ∙ sym m ∙ h);
      met = λ z b.
          ap (λ (w : List ℕ). marked w z) is ∙ mark_marks l y z marked_inside ∙ ap (λ (a : Bool). a || eqb y z) (r.met z b)
          ∙ ap (λ (w : ℕ). any i (λ j. eqb (output ls j) z) || eqb w z) ey ∙ sym (any_step i (λ j. eqb (output ls j) z));
    }

  module _ (z : i ≡ 2 ^ length ls) where
    pub marked_none : None ≡ found (2 ^ length ls) (met_before (output ls))
    marked_none = found_none (2 ^ length ls) (met_before (output ls)) (rw z at r.once)

-- ---- `first_met`: zeroed bytes mark nothing, and ls are the lists of a stage

module _ (m s k : ℕ) (limits : broken m s k ≡ false) (ls : List (List ℕ)) (many : length ls ≡ m * s) where
  pub enough : 3 ≤ length ls
  enough = omega (arith, many, (bounds m s k limits).bits_low)

  same_bytes : 2 ^ length ls / 8 ≡ workspace_for m s
  same_bytes = ap (λ (x : ℕ). 2 ^ x / 8) many

  pub marks_fit : (ws : List ℕ) → workspace_for m s ≤ length ws → 2 ^ length ls / 8 ≤ length ws
  marks_fit ws room = omega (arith, same_bytes)

  pub none_marked : (ws : List ℕ) → zeroed (workspace_for m s) ws ≡ ws → Clear (2 ^ length ls) ws
  none_marked ws z =
      clear_none (2 ^ length ls) ws (drop (2 ^ length ls / 8) ws) (eights _ enough) (sym z ∙ ap (λ (n : ℕ). zeroed n ws) (sym same_bytes))

  pub rest_kept : (ws ws₁ : List ℕ) → drop (2 ^ length ls / 8) ws₁ ≡ drop (2 ^ length ls / 8) ws → drop (workspace_for m s) ws₁ ≡ drop (workspace_for m s) ws
  rest_kept ws ws₁ q = rw same_bytes at q

pub stage_meets : (m s : ℕ) (ls us : List (List ℕ)) → ls ≡ us → length ls ≡ m * s → (v : Option ℕ) → v ≡ found (2 ^ length ls) (met_before (output ls))
    → v ≡ found (2 ^ (m * s)) (met_before (output us))
stage_meets m s ls us e many v q = q ∙ ap₂ (λ (n : ℕ) (u : List (List ℕ)). found (2 ^ n) (met_before (output u))) many e
