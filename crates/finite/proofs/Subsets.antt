-- Subsets of sets of variables, and the top variable of a set: a number below 2 ^ suc n is below 2 ^ n, or 2 ^ n more than such a one.
-- Induction on the number of variables goes by that.
use mathlib.Core.Path.{◌≡◌, refl, sym, ap, ap₂, ◌∙◌, subst}
use mathlib.Core.Logic.{◌≢◌}
use mathlib.Core.Bool.{Bool, true, false}
use Prim.Native.Nat.{ℕ, suc, ◌+◌, ◌-◌, ◌*◌, ◌^◌, ◌<◌}
use native.Mathlib.Decide.{dec_lt}
use native.Mathlib.Omega.{arith}
use lib.Bits.{bit_and, bit_xor, and_block, xor_block, and_self, and_le_r}
use borrow.Author.Tests.{eqb-true, eqb-false, eq-eqb, ne_eqb}
use Rattle.finite.specs.Sets.{subset}
use Rattle.std.proofs.lemmas.Nat.{and_assoc}

pub subset_eq : (v u : ℕ) → subset v u ≡ true → bit_and v u ≡ v
unfolding subset
subset_eq v u e = eqb-true (bit_and v u) v e

pub subset_ne : (v u : ℕ) → subset v u ≡ false → bit_and v u ≢ v
unfolding subset
subset_ne v u e = eqb-false (bit_and v u) v e

pub eq_subset : (v u : ℕ) → bit_and v u ≡ v → subset v u ≡ true
unfolding subset
eq_subset v u e = eq-eqb (bit_and v u) v e

pub ne_subset : (v u : ℕ) → bit_and v u ≢ v → subset v u ≡ false
unfolding subset
ne_subset v u e = ne_eqb (bit_and v u) v e

pub subset_self : (u : ℕ) → subset u u ≡ true
subset_self u = eq_subset u u (and_self u)

pub subset_empty : (u : ℕ) → subset 0 u ≡ true
subset_empty u = eq_subset 0 u refl

-- a larger number is no subset
pub subset_gt : (v u : ℕ) → u < v → subset v u ≡ false
subset_gt v u h = ne_subset v u (λ e. omega (arith, and_le_r v u))

pub subset_trans : (v u w : ℕ) → subset v u ≡ true → subset u w ≡ true → subset v w ≡ true
subset_trans v u w p q =
    let e = subset_eq v u p in
    eq_subset v w (ap (λ (x : ℕ). bit_and x w) (sym e) ∙ and_assoc w v u ∙ ap (bit_and v) (subset_eq u w q) ∙ e)

-- two tests agree when the equations do
pub subset_iff : (v u v' u' : ℕ) → (bit_and v u ≡ v → bit_and v' u' ≡ v') → (bit_and v' u' ≡ v' → bit_and v u ≡ v) → subset v u ≡ subset v' u'
subset_iff v u v' u' p q = go (subset v u) refl
  where
    go : (b : Bool) → subset v u ≡ b → b ≡ subset v' u'
    go true e = sym (eq_subset v' u' (p (subset_eq v u e)))
    go false e = sym (ne_subset v' u' (λ r. subset_ne v u e (q r)))

-- ---- the top bit: 2 ^ n + i for i below 2 ^ n
module _ (n i j : ℕ) (hi : i < 2 ^ n) (hj : j < 2 ^ n) where
  pub and_top_top : bit_and (2 ^ n + i) (2 ^ n + j) ≡ 2 ^ n + bit_and i j
  and_top_top =
      let one : (k : ℕ) → 2 ^ n + k ≡ 1 * 2 ^ n + k = omega arith in
      ap₂ bit_and (one i) (one j) ∙ and_block n 1 1 i j hi hj ∙ sym (one (bit_and i j))

  pub and_low_top : bit_and i (2 ^ n + j) ≡ bit_and i j
  and_low_top =
      let one : (k : ℕ) → 2 ^ n + k ≡ 1 * 2 ^ n + k = omega arith in
      let none : (k : ℕ) → k ≡ 0 * 2 ^ n + k = omega arith in
      ap₂ bit_and (none i) (one j) ∙ and_block n 0 1 i j hi hj ∙ sym (none (bit_and i j))

  pub and_top_low : bit_and (2 ^ n + i) j ≡ bit_and i j
  and_top_low =
      let one : (k : ℕ) → 2 ^ n + k ≡ 1 * 2 ^ n + k = omega arith in
      let none : (k : ℕ) → k ≡ 0 * 2 ^ n + k = omega arith in
      ap₂ bit_and (one i) (none j) ∙ and_block n 1 0 i j hi hj ∙ sym (none (bit_and i j))

  pub xor_top_low : bit_xor (2 ^ n + i) j ≡ 2 ^ n + bit_xor i j
  xor_top_low =
      let one : (k : ℕ) → 2 ^ n + k ≡ 1 * 2 ^ n + k = omega arith in
      let none : (k : ℕ) → k ≡ 0 * 2 ^ n + k = omega arith in
      ap₂ bit_xor (one i) (none j) ∙ xor_block n 1 0 i j hi hj ∙ sym (one (bit_xor i j))

  pub xor_low_top : bit_xor i (2 ^ n + j) ≡ 2 ^ n + bit_xor i j
  xor_low_top =
      let one : (k : ℕ) → 2 ^ n + k ≡ 1 * 2 ^ n + k = omega arith in
      let none : (k : ℕ) → k ≡ 0 * 2 ^ n + k = omega arith in
      ap₂ bit_xor (none i) (one j) ∙ xor_block n 0 1 i j hi hj ∙ sym (one (bit_xor i j))

pub xor_top_top : (n i j : ℕ) → i < 2 ^ n → j < 2 ^ n → bit_xor (2 ^ n + i) (2 ^ n + j) ≡ bit_xor i j
xor_top_top n i j li lj =
    let one : (k : ℕ) → 2 ^ n + k ≡ 1 * 2 ^ n + k = omega arith in
    ap₂ bit_xor (one i) (one j) ∙ lib.Bits.xor_block n 1 1 i j li lj ∙ omega arith

module _ (n i j : ℕ) (hi : i < 2 ^ n) (hj : j < 2 ^ n) where
  pub subset_top_top : subset (2 ^ n + i) (2 ^ n + j) ≡ subset i j
  subset_top_top =
      subset_iff (2 ^ n + i) (2 ^ n + j) i j (λ e. omega (arith, and_top_top n i j hi hj)) (λ e. omega (arith, and_top_top n i j hi hj))

  pub subset_low_top : subset i (2 ^ n + j) ≡ subset i j
  subset_low_top =
      subset_iff i (2 ^ n + j) i j (λ e. omega (arith, and_low_top n i j hi hj)) (λ e. omega (arith, and_low_top n i j hi hj))

  pub subset_top_low : subset (2 ^ n + i) j ≡ false
  subset_top_low = subset_gt (2 ^ n + i) j (omega arith)

-- a number below 2 ^ suc n is below 2 ^ n, or 2 ^ n and such a one
pub data Top (n : ℕ) : ℕ → Type 0 where
  low : {i : ℕ} → i < 2 ^ n → Top n i
  top : {i : ℕ} → i < 2 ^ n → Top n (2 ^ n + i)

pub top_cases : (n u : ℕ) → u < 2 ^ suc n → Top n u
top_cases n u h = go (dec_lt u (2 ^ n))
  where
    go : Dec (u < 2 ^ n) → Top n u
    go (yes l) = low l
    go (no g) = let e : 2 ^ n + (u - 2 ^ n) ≡ u = omega arith in subst (Top n) e (top (omega arith))
