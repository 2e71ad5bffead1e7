-- The outputs of a stage at 64 sharings together. A term of the list stands in a sharing where the sharing's upper bits have its upper variables and the
-- lower bits its lower ones, so what the terms add to the words are coefficients whose sums over subsets are the outputs.
-- Each function of `blocks` has a law for each way out, and for each loop one for its start, a turn and its end. Assumes nothing.
use mathlib.Core.Path.{◌≡◌, refl, sym, ap, ap₂, ◌∙◌}
use mathlib.Core.Logic.{◌≢◌}
use mathlib.Core.Bool.{Bool, true, false, ◌&&◌}
use mathlib.Core.List.{List, [], ◌∷◌}
use Prim.Native.Nat.{ℕ, zero, suc, ◌+◌, ◌-◌, ◌*◌, ◌/◌, ◌%◌, ◌^◌, ◌≤◌, ◌<◌}
use native.Mathlib.Nat.{pow-suc, sub-zero, div-eq_of_lt, lt-div-mul-add, zero-mul}
use native.Mathlib.Decide.{dec_lt}
use native.Mathlib.Omega.{arith}
use lib.Bits.{bit_xor, bit_and, bit_or, xor_comm, xor_self, xor_zero_r, and_le_l, or_add_and, and_block, xor_block}
use lib.Pow.{pow_pos}
use lib.Dec.{eqb}
use lib.ListN.{length, get_or, set, drop, replicate, length-set, drop_of_length-le}
use lib.Seq.{drop-cons}
use Rattle.std.specs.Int.Bits.{xor_shifted, xor_assoc}
use Rattle.std.proofs.Math.Seq.{get_or-set_same, get_or-set_other}
use Rattle.std.proofs.lemmas.List.{get_or-replicate}
use borrow.Author.Tests.{eqb-true, eqb-false, eq-eqb, ne_eqb}
use Rattle.finite.specs.Tests.{pick, tabulate}
use Rattle.finite.specs.Sets.{subset}
use Rattle.finite.proofs.Testing.{pick_true, pick_false, tabulate_length, tabulate_at, tabulate_of, tabulate_congr}
use Rattle.finite.proofs.Subsets.{eq_subset, ne_subset}
use Rattle.finite.proofs.Sums.{xor_below_one, pick_zero, pick_both, pick_swap}
use Rattle.anf.specs.NormalForm.{subset_sum}
use Rattle.anf.specs.Terms.{value_at}
use Rattle.anf.specs.Transform.{transformed}
use Rattle.anf.proofs.SubsetSums.{subset_sum_ext, subset_sum_xor, subset_sum_none}
use Rattle.anf.proofs.Terms.{value_at_lt}
use Rattle.sharing.specs.Stages.{output}
use Rattle.threshold.specs.Inside.Blocks.{outputs_from, term_added, terms_added, coefficient, coefficients}
use Rattle.threshold.specs.Inside.Outputs.{outputs_left}

-- ---- what one term adds

module _ (high p t : ℕ) (words : List ℕ) (size : length words ≡ 64) where
  term_size : length (term_added high p t words) ≡ 64
  unfolding term_added
  term_size = at (subset (t / 64) high)
    where
      at : (b : Bool) → length (pick b (set words (t % 64) (bit_xor (get_or words (t % 64) 0) p)) words) ≡ 64
      at true = length-set words (t % 64) _ ∙ size
      at false = size

  term_entry : (v : ℕ) → v < 64 → get_or (term_added high p t words) v 0 ≡ bit_xor (get_or words v 0) (pick (eqb (t % 64) v && subset (t / 64) high) p 0)
  unfolding term_added
  term_entry v lv = at (subset (t / 64) high) (eqb (t % 64) v) refl
    where
      at : (b e : Bool) → eqb (t % 64) v ≡ e
          → get_or (pick b (set words (t % 64) (bit_xor (get_or words (t % 64) 0) p)) words) v 0 ≡ bit_xor (get_or words v 0) (pick (e && b) p 0)
      at true true q =
          let k : t % 64 ≡ v = eqb-true (t % 64) v q in
          rw k (get_or-set_same words v _ 0 (omega arith))
      at true false q = get_or-set_other words (t % 64) v _ 0 (λ k. eqb-false (t % 64) v q (sym k)) ∙ sym (xor_zero_r (get_or words v 0))
      at false true q = sym (xor_zero_r (get_or words v 0))
      at false false q = sym (xor_zero_r (get_or words v 0))

-- ---- what the terms of a list add

terms_size : (high p : ℕ) (ts words : List ℕ) → length words ≡ 64 → length (terms_added high p ts words) ≡ 64
unfolding terms_added
terms_size high p [] words size = size
terms_size high p (t ∷ ts) words size = terms_size high p ts (term_added high p t words) (term_size high p t words size)

terms_entry : (high p : ℕ) (ts words : List ℕ) → length words ≡ 64 → (v : ℕ) → v < 64
    → get_or (terms_added high p ts words) v 0 ≡ bit_xor (get_or words v 0) (coefficient high p ts v)
unfolding terms_added coefficient
terms_entry high p [] words size v l = sym (xor_zero_r (get_or words v 0))
terms_entry high p (t ∷ ts) words size v l =
    terms_entry high p ts (term_added high p t words) (term_size high p t words size) v l
    ∙ ap (λ (x : ℕ). bit_xor x (coefficient high p ts v)) (term_entry high p t words size v l)
    ∙ xor_assoc (get_or words v 0) _ (coefficient high p ts v)

-- ---- the sums over subsets of what is added

module _ (high u : ℕ) (lu : u < 64) where
  -- the upper variables and the lower ones
  apart : (t : ℕ) → bit_and t (64 * high + u) ≡ 64 * bit_and (t / 64) high + bit_and (t % 64) u
  apart t =
      let a : t ≡ t / 64 * 2 ^ 6 + t % 64 = omega arith in
      let b : 64 * high + u ≡ high * 2 ^ 6 + u = omega arith in
      ap₂ bit_and a b ∙ and_block 6 (t / 64) high (t % 64) u (omega arith) lu ∙ omega arith

  subset_apart : (t : ℕ) → subset t (64 * high + u) ≡ (subset (t / 64) high && subset (t % 64) u)
  unfolding subset
  subset_apart t =
      at (eqb (bit_and (t / 64) high) (t / 64)) (eqb (bit_and (t % 64) u) (t % 64)) refl refl
    where
      small : bit_and (t % 64) u < 64
      small = omega (arith, and_le_l (t % 64) u)

      at : (a b : Bool) → eqb (bit_and (t / 64) high) (t / 64) ≡ a → eqb (bit_and (t % 64) u) (t % 64) ≡ b
          → eqb (bit_and t (64 * high + u)) t ≡ (a && b)
      at true true p q =
          let x : bit_and (t / 64) high ≡ t / 64 = eqb-true _ _ p in
          let y : bit_and (t % 64) u ≡ t % 64 = eqb-true _ _ q in
          eq-eqb _ _ (let e = apart t in omega arith)
      at true false p q =
          let y : bit_and (t % 64) u ≢ t % 64 = eqb-false _ _ q in
          ne_eqb _ _ (λ z. y (let e = apart t in let s = small in omega arith))
      at false b p q =
          let x : bit_and (t / 64) high ≢ t / 64 = eqb-false _ _ p in
          ne_eqb _ _ (λ z. x (let e = apart t in let s = small in omega arith))

  -- one term
  one_sum : (p t : ℕ) → subset_sum 6 (λ v. pick (eqb (t % 64) v && subset (t / 64) high) p 0) u ≡ pick (subset t (64 * high + u)) p 0
  unfolding subset_sum
  one_sum p t =
      xor_below_one (2 ^ 6) (t % 64) (λ v. pick (subset v u) (pick (eqb (t % 64) v && subset (t / 64) high) p 0) 0) (omega arith)
      (λ v l n. let e : eqb (t % 64) v ≡ false = ne_eqb (t % 64) v (λ k. n (sym k)) in rw e (pick_zero (subset v u)))
      ∙ ap (λ (b : Bool). pick (subset (t % 64) u) (pick (b && subset (t / 64) high) p 0) 0) (eq-eqb (t % 64) (t % 64) refl)
      ∙ pick_swap (subset (t % 64) u) (subset (t / 64) high) p
      ∙ sym (pick_both (subset (t / 64) high) (subset (t % 64) u) p)
      ∙ ap (λ (b : Bool). pick b p 0) (sym (subset_apart t))

  -- the terms of a list
  coefficient_sum : (p : ℕ) (ts : List ℕ) → subset_sum 6 (coefficient high p ts) u ≡ value_at ts (64 * high + u) * p
  unfolding coefficient value_at
  coefficient_sum p [] = subset_sum_none 6 u (coefficient high p []) (λ v l. refl) ∙ omega arith
  coefficient_sum p (t ∷ ts) =
      subset_sum_xor 6 u (λ v. pick (eqb (t % 64) v && subset (t / 64) high) p 0) (coefficient high p ts)
      ∙ ap₂ bit_xor (one_sum p t) (coefficient_sum p ts)
      ∙ one_more (subset t (64 * high + u)) (value_at ts (64 * high + u)) (value_at_lt ts (64 * high + u))
    where
      one_more : (b : Bool) (c : ℕ) → c < 2 → bit_xor (pick b p 0) (c * p) ≡ bit_xor (pick b 1 0) c * p
      one_more true zero l = let z : 0 * p ≡ 0 = omega arith in rw z (xor_zero_r p ∙ omega arith)
      one_more true (suc zero) l = let z : 1 * p ≡ p = omega arith in rw z (xor_self p ∙ omega arith)
      one_more false zero l = let z : 0 * p ≡ 0 = omega arith in rw z (omega arith)
      one_more false (suc zero) l = let z : 1 * p ≡ p = omega arith in rw z (xor_comm 0 p ∙ xor_zero_r p ∙ omega arith)
      one_more b (suc (suc c)) l = absurd (omega arith)

  -- all lists
  coefficients_sum : (i : ℕ) (ls : List (List ℕ)) → subset_sum 6 (coefficients high i ls) u ≡ output ls (64 * high + u) * 2 ^ i
  unfolding coefficients output
  coefficients_sum i [] = subset_sum_none 6 u (coefficients high i []) (λ v l. refl) ∙ omega arith
  coefficients_sum i (l ∷ ls) =
      subset_sum_xor 6 u (coefficient high (2 ^ i) l) (coefficients high (suc i) ls)
      ∙ ap₂ bit_xor (coefficient_sum (2 ^ i) l) (coefficients_sum (suc i) ls)
      ∙ joined (output ls (64 * high + u)) (value_at l (64 * high + u)) (value_at_lt l (64 * high + u))
    where
      joined : (a c : ℕ) → c < 2 → bit_xor (c * 2 ^ i) (a * 2 ^ suc i) ≡ (a * 2 + c) * 2 ^ i
      joined a c h =
          let x : c * 2 ^ i ≡ c * 2 ^ i + 0 = omega arith in
          let y : a * 2 ^ suc i ≡ a * 2 * 2 ^ i + 0 = ap (λ (q : ℕ). a * q) (pow-suc 2 i) ∙ omega arith in
          ap₂ bit_xor x y ∙ xor_block i c (a * 2) 0 0 (pow_pos i) (pow_pos i)
          ∙ ap (λ (q : ℕ). q * 2 ^ i + 0) (xor_comm c (a * 2) ∙ xor_shifted a 1 c h) ∙ omega arith

-- ---- `add_term`

module _ (t high p : ℕ) (words : List ℕ) where
  pub term_there : bit_or (t / 64) high ≡ high → set words (t % 64) (bit_xor (get_or words (t % 64) 0) p) ≡ term_added high p t words
  unfolding term_added
  term_there e = sym (pick_true (subset (t / 64) high) _ _ (eq_subset (t / 64) high (omega (arith, or_add_and (t / 64) high))))

  pub term_absent : (bit_or (t / 64) high ≡ high → ⊥) → words ≡ term_added high p t words
  unfolding term_added
  term_absent n = sym (pick_false (subset (t / 64) high) _ _ (ne_subset (t / 64) high (λ e. n (omega (arith, or_add_and (t / 64) high)))))

-- ---- `add_terms`: what the terms that are left add to the words is w, what all add to those of the start

module _ (high p : ℕ) (ts words w : List ℕ) (l : terms_added high p ts words ≡ w) where
  pub terms_more : (t : ℕ) (rest words' : List ℕ) → ts ≡ t ∷ rest → words' ≡ term_added high p t words → terms_added high p rest words' ≡ w
  unfolding terms_added
  terms_more t rest words' e a = rw a (rw e at l)

  pub terms_end : ts ≡ [] → words ≡ w
  unfolding terms_added
  terms_end e = rw e at l

-- ---- `add_lists`: the lists from the i-th on are added, each with the power of two of its number

module _ (high : ℕ) (ls : List (List ℕ)) where
  pub added_start : (n : ℕ) → n ≡ length ls → (words : List ℕ) → words ≡ replicate 64 0 → words ≡ tabulate 64 (coefficients high n (drop n ls))
  unfolding coefficients
  added_start n e words z =
      let none : drop n ls ≡ [] = drop_of_length-le ls {i = n} (omega arith) in
      sym (tabulate_of words 64 (coefficients high n (drop n ls)) 0 (ap length z)
      (λ v l. ap (λ (q : List (List ℕ)). coefficients high n q v) none ∙ sym (ap (λ (q : List ℕ). get_or q v 0) z ∙ get_or-replicate 64 v 0 0 l)))

  module _ (i : ℕ) (words : List ℕ) (a : words ≡ tabulate 64 (coefficients high i (drop i ls))) where
    pub added_end : i ≤ 0 → words ≡ tabulate 64 (coefficients high 0 ls)
    added_end h = let z : i ≡ 0 = omega arith in a ∙ ap (λ (k : ℕ). tabulate 64 (coefficients high k (drop k ls))) z

    pub added_more : (n : ℕ) → n ≡ length ls → 0 < i → i ≤ n → (words' ts : List ℕ) (p : ℕ) → ts ≡ get_or ls (i - 1) [] → p ≡ 2 ^ (i - 1)
        → words' ≡ terms_added high p ts words → words' ≡ tabulate 64 (coefficients high (i - 1) (drop (i - 1) ls))
    unfolding coefficients
    added_more n en low most words' ts p eb ep e =
        let j : i ≡ suc (i - 1) = omega arith in
        let d : drop (i - 1) ls ≡ get_or ls (i - 1) [] ∷ drop (suc (i - 1)) ls = drop-cons ls (i - 1) [] (omega arith) in
        let size : length words ≡ 64 = ap length a ∙ tabulate_length 64 (coefficients high i (drop i ls)) in
        sym (tabulate_of words' 64 (coefficients high (i - 1) (drop (i - 1) ls)) 0 (ap length e ∙ terms_size high p ts words size)
        (λ v l. sym (
        ap (λ (x : List ℕ). get_or x v 0) e
        ∙ terms_entry high p ts words size v l
        ∙ ap₂ bit_xor
        (ap (λ (x : List ℕ). get_or x v 0) a ∙ tabulate_at 64 (coefficients high i (drop i ls)) v 0 l ∙ ap (λ (x : ℕ). coefficients high x (drop x ls) v) j)
        (ap₂ (λ (x : ℕ) (y : List ℕ). coefficient high x y v) ep eb)
        ∙ xor_comm (coefficients high (suc (i - 1)) (drop (suc (i - 1)) ls) v) (coefficient high (2 ^ (i - 1)) (get_or ls (i - 1) []) v)
        ∙ ap (λ (x : List (List ℕ)). coefficients high (i - 1) x v) (sym d))))

-- ---- `fill`

module _ (ls : List (List ℕ)) (x : ℕ) where
  pub filled : (words words' : List ℕ) → words ≡ tabulate 64 (coefficients (x / 64) 0 ls) → words' ≡ transformed 6 words → x % 64 ≡ 0 → words' ≡ outputs_from ls x
  unfolding outputs_from
  filled words words' a s z =
      s ∙ tabulate_congr 64 (subset_sum 6 (λ v. get_or words v 0)) (λ u. output ls (x + u))
      (λ u lu. subset_sum_ext 6 u (λ v. get_or words v 0) (coefficients (x / 64) 0 ls)
      (λ v lv. ap (λ (q : List ℕ). get_or q v 0) a ∙ tabulate_at 64 (coefficients (x / 64) 0 ls) v 0 lv)
      ∙ coefficients_sum (x / 64) u lu 0 ls
      ∙ (let e : 64 * (x / 64) + u ≡ x + u = omega arith in rw e (omega arith)))

  -- ---- `Outputs`: the words of the block give each of its outputs

  module _ (words : List ℕ) (e : words ≡ outputs_from ls (x / 64 * 64)) where
    pub block_output : get_or words (x % 64) 0 ≡ output ls x
    unfolding outputs_from
    block_output =
        ap (λ (q : List ℕ). get_or q (x % 64) 0) e ∙ tabulate_at 64 (λ v. output ls (x / 64 * 64 + v)) (x % 64) 0 (omega arith)
        ∙ ap (output ls) (omega arith)

-- ---- what is left of the outputs

div-pos : (x b : ℕ) → (x / b ≡ 0 → ⊥) → b ≤ x
div-pos x b h = at (dec_lt x b)
  where
    at : Dec (x < b) → b ≤ x
    at (yes l) = absurd (h (div-eq_of_lt l))
    at (no l) = omega arith

div-none : (x b : ℕ) → 0 < b → x / b ≡ 0 → x < b
div-none x b p h = let w = lt-div-mul-add {a = x} p in let z : x / b * b ≡ 0 = rw h (zero-mul b) in omega arith

pub outputs_all : (ls : List (List ℕ)) → outputs_left ls 0 ≡ tabulate (2 ^ length ls) (output ls)
unfolding outputs_left
outputs_all ls = rw sub-zero (tabulate_congr (2 ^ length ls) _ _ (λ i h. let z : 0 + i ≡ i = omega arith in ap (output ls) z))

module _ (ls : List (List ℕ)) (x n : ℕ) (en : n ≡ length ls) where
  pub outputs_none : (x / 2 ^ n ≡ 0 → ⊥) → outputs_left ls x ≡ []
  unfolding outputs_left tabulate
  outputs_none h =
      let z : 2 ^ length ls - x ≡ 0 = (let q : 2 ^ length ls ≤ x = rw en at (div-pos x (2 ^ n) h) in omega arith) in
      rw z refl

  pub outputs_first : x / 2 ^ n ≡ 0 → outputs_left ls x ≡ output ls x ∷ outputs_left ls (x + 1)
  unfolding outputs_left tabulate
  outputs_first h =
      let k : x < 2 ^ length ls = rw en at (div-none x (2 ^ n) (pow_pos n) h) in
      let s : 2 ^ length ls - x ≡ suc (2 ^ length ls - (x + 1)) = omega arith in
      ap (λ (q : ℕ). tabulate q (λ i. output ls (x + i))) s
      ∙ ap₂ (λ (a : ℕ) (b : List ℕ). a ∷ b)
      (let z : x + 0 ≡ x = omega arith in ap (output ls) z)
      (tabulate_congr (2 ^ length ls - (x + 1)) _ _ (λ i l. let z : x + suc i ≡ x + 1 + i = omega arith in ap (output ls) z))

  module _ (h : x / 2 ^ n ≡ 0) where
    pub output_given : (words : List ℕ) → words ≡ outputs_from ls (x / 64 * 64) → outputs_left ls x ≡ get_or words (x % 64) 0 ∷ outputs_left ls (x + 1)
    output_given words e = outputs_first h ∙ ap (λ (y : ℕ). y ∷ outputs_left ls (x + 1)) (sym (block_output ls x words e))

    pub fewer_left : length (outputs_left ls (x + 1)) < length (outputs_left ls x)
    fewer_left = let e = ap (λ (l : List ℕ). length l) (outputs_first h) in omega (arith, e)
