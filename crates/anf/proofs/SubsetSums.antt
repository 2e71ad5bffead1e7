-- Laws of the sum over subsets, by induction on the number of variables: a set has its top variable or not.
-- The sum over subsets of the sum over subsets is the table again.
use mathlib.Core.Path.{◌≡◌, sym, ap, ap₂, ◌∙◌}
use Prim.Native.Nat.{ℕ, zero, suc, ◌+◌, ◌/◌, ◌%◌, ◌^◌, ◌<◌}
use native.Mathlib.Omega.{arith}
use lib.Arith.{lt-one}
use lib.Pow.{pow_pos}
use lib.Bits.{bit_and, bit_xor, xor_zero_r, xor_self, xor_lt}
use Rattle.finite.specs.Tests.{pick}
use Rattle.finite.specs.Sums.{xor_below}
use Rattle.finite.specs.Sets.{subset}
use Rattle.finite.proofs.Xor.{xor_cancel}
use Rattle.finite.proofs.Sums.{xor_below_ext, xor_below_xor, xor_below_none, xor_below_double, xor_below_lt, xor_below_bit, pick_xor, pick_zero, pick_bit, pick_lt}
use Rattle.finite.proofs.Subsets.{subset_self, subset_top_top, subset_low_top, subset_top_low, Top, low, top, top_cases, and_top_top, and_top_low, and_low_top, xor_top_low, xor_low_top}
use Rattle.anf.specs.NormalForm.{subset_sum}

pub subset_sum_ext : (n u : ℕ) (f g : ℕ → ℕ) → ((v : ℕ) → v < 2 ^ n → f v ≡ g v) → subset_sum n f u ≡ subset_sum n g u
unfolding subset_sum
subset_sum_ext n u f g h = xor_below_ext (2 ^ n) (λ v. pick (subset v u) (f v) 0) (λ v. pick (subset v u) (g v) 0) (λ v l. ap (λ (x : ℕ). pick (subset v u) x 0) (h v l))

pub subset_sum_xor : (n u : ℕ) (f g : ℕ → ℕ) → subset_sum n (λ v. bit_xor (f v) (g v)) u ≡ bit_xor (subset_sum n f u) (subset_sum n g u)
unfolding subset_sum
subset_sum_xor n u f g = simp pick_xor (xor_below_xor (2 ^ n) (λ v. pick (subset v u) (f v) 0) (λ v. pick (subset v u) (g v) 0))

pub subset_sum_none : (n u : ℕ) (f : ℕ → ℕ) → ((v : ℕ) → v < 2 ^ n → f v ≡ 0) → subset_sum n f u ≡ 0
unfolding subset_sum
subset_sum_none n u f h = xor_below_none (2 ^ n) (λ v. pick (subset v u) (f v) 0) (λ v l. rw (h v l) (pick_zero (subset v u)))

-- no variable: one point
pub subset_sum_zero : (f : ℕ → ℕ) → subset_sum 0 f 0 ≡ f 0
unfolding subset_sum xor_below
subset_sum_zero f = rw (subset_self 0)

-- one more variable, which is not in the set
pub subset_sum_low : (n i : ℕ) (f : ℕ → ℕ) → i < 2 ^ n → subset_sum (suc n) f i ≡ subset_sum n f i
unfolding subset_sum
subset_sum_low n i f h =
    xor_below_double n (λ v. pick (subset v i) (f v) 0)
    ∙ ap (bit_xor (xor_below (2 ^ n) (λ v. pick (subset v i) (f v) 0)))
    (xor_below_none (2 ^ n) (λ j. pick (subset (2 ^ n + j) i) (f (2 ^ n + j)) 0) (λ j l. rw (subset_top_low n j i l h)))
    ∙ xor_zero_r (xor_below (2 ^ n) (λ v. pick (subset v i) (f v) 0))

-- one more variable, which is in the set
pub subset_sum_top : (n i : ℕ) (f : ℕ → ℕ) → i < 2 ^ n → subset_sum (suc n) f (2 ^ n + i) ≡ bit_xor (subset_sum n f i) (subset_sum n (λ j. f (2 ^ n + j)) i)
unfolding subset_sum
subset_sum_top n i f h =
    xor_below_double n (λ v. pick (subset v (2 ^ n + i)) (f v) 0)
    ∙ ap₂ bit_xor
    (xor_below_ext (2 ^ n) (λ v. pick (subset v (2 ^ n + i)) (f v) 0) (λ v. pick (subset v i) (f v) 0) (λ j l. rw (subset_low_top n j i l h)))
    (xor_below_ext (2 ^ n) (λ j. pick (subset (2 ^ n + j) (2 ^ n + i)) (f (2 ^ n + j)) 0) (λ j. pick (subset j i) (f (2 ^ n + j)) 0)
    (λ j l. rw (subset_top_top n j i l h)))

-- taken twice it is the table again
pub subset_sum_twice : (n : ℕ) (f : ℕ → ℕ) (u : ℕ) → u < 2 ^ n → subset_sum n (subset_sum n f) u ≡ f u
subset_sum_twice zero f u h = rw (lt-one h) (subset_sum_zero _ ∙ subset_sum_zero _)
subset_sum_twice (suc n) f u h = go (subset_sum_twice n) (top_cases n u h)
  where
    go : ((g : ℕ → ℕ) (v : ℕ) → v < 2 ^ n → subset_sum n (subset_sum n g) v ≡ g v) → {u : ℕ} → Top n u → subset_sum (suc n) (subset_sum (suc n) f) u ≡ f u
    go ih (low l) = subset_sum_low _ _ _ l ∙ subset_sum_ext _ _ _ _ (λ v k. subset_sum_low _ _ _ k) ∙ ih f _ l
    go ih (top {i} l) =
        subset_sum_top _ _ _ l
        ∙ ap₂ bit_xor
        (subset_sum_ext _ _ _ _ (λ v k. subset_sum_low _ _ _ k) ∙ ih f _ l)
        (subset_sum_ext _ _ _ _ (λ v k. subset_sum_top _ _ _ k) ∙ subset_sum_xor _ _ _ _ ∙ ap₂ bit_xor (ih _ _ l) (ih (λ j. f (2 ^ n + j)) _ l))
        ∙ xor_cancel (f i) (f (2 ^ n + i))

-- a set that is not empty has an even number of parts
pub subset_sum_const : (n c u : ℕ) → 0 < u → u < 2 ^ n → subset_sum n (λ v. c) u ≡ 0
subset_sum_const zero c u p h = absurd (omega arith)
subset_sum_const (suc n) c u p h = go (subset_sum_const n c) p (top_cases n u h)
  where
    go : ((v : ℕ) → 0 < v → v < 2 ^ n → subset_sum n (λ w. c) v ≡ 0) → {v : ℕ} → 0 < v → Top n v → subset_sum (suc n) (λ w. c) v ≡ 0
    go ih q (low {i} l) = subset_sum_low n i (λ w. c) l ∙ ih i q l
    go ih q (top {i} l) = subset_sum_top n i (λ w. c) l ∙ xor_self (subset_sum n (λ w. c) i)

-- the empty set has one part
pub subset_sum_empty : (n : ℕ) (f : ℕ → ℕ) → subset_sum n f 0 ≡ f 0
subset_sum_empty zero f = subset_sum_zero f
subset_sum_empty (suc n) f = subset_sum_low n 0 f (pow_pos n) ∙ subset_sum_empty n f

-- the parts of a union of two sets with nothing in common
pub subset_sum_union : (n b u : ℕ) (f : ℕ → ℕ) → b < 2 ^ n → u < 2 ^ n → bit_and b u ≡ 0
    → subset_sum n (λ x. subset_sum n (λ y. f (bit_xor x y)) u) b ≡ subset_sum n f (bit_xor b u)
subset_sum_union zero b u f hb hu d =
    rw (lt-one hb, lt-one hu) (subset_sum_zero (λ x. subset_sum 0 (λ y. f (bit_xor x y)) 0) ∙ subset_sum_zero f ∙ sym (subset_sum_zero f))
subset_sum_union (suc n) b u f hb hu d = go (subset_sum_union n) (top_cases n b hb) (top_cases n u hu) d
  where
    upper : ℕ → ℕ
    upper j = f (2 ^ n + j)

    go : ((b u : ℕ) (f : ℕ → ℕ) → b < 2 ^ n → u < 2 ^ n → bit_and b u ≡ 0 → subset_sum n (λ x. subset_sum n (λ y. f (bit_xor x y)) u) b ≡ subset_sum n f (bit_xor b u))
        → {b u : ℕ} → Top n b → Top n u → bit_and b u ≡ 0 → subset_sum (suc n) (λ x. subset_sum (suc n) (λ y. f (bit_xor x y)) u) b ≡ subset_sum (suc n) f (bit_xor b u)
    go ih (low {i = b} l) (low {i = u} k) e =
        subset_sum_low _ _ _ l ∙ subset_sum_ext _ _ _ _ (λ x p. subset_sum_low _ _ _ k) ∙ ih b u f l k e ∙ sym (subset_sum_low _ _ _ (xor_lt n b u l k))
    go ih (top {i = b} l) (low {i = u} k) e =
        let e' : bit_and b u ≡ 0 = sym (and_top_low n b u l k) ∙ e in
        subset_sum_top _ _ _ l
        ∙ ap₂ bit_xor
        (subset_sum_ext _ _ _ _ (λ x p. subset_sum_low _ _ _ k) ∙ ih b u f l k e')
        (subset_sum_ext _ _ _ _ (λ x p. subset_sum_low _ _ _ k ∙ subset_sum_ext _ _ _ _ (λ y q. ap f (xor_top_low n x y p q))) ∙ ih b u upper l k e')
        ∙ sym (ap (subset_sum (suc n) f) (xor_top_low n b u l k) ∙ subset_sum_top _ _ _ (xor_lt n b u l k))
    go ih (low {i = b} l) (top {i = u} k) e =
        let e' : bit_and b u ≡ 0 = sym (and_low_top n b u l k) ∙ e in
        subset_sum_low _ _ _ l
        ∙ subset_sum_ext _ _ _ _ (λ x p. subset_sum_top _ _ _ k ∙ ap (bit_xor (subset_sum n (λ y. f (bit_xor x y)) u)) (subset_sum_ext _ _ _ _ (λ y q. ap f (xor_low_top n x y p q))))
        ∙ subset_sum_xor _ _ _ _
        ∙ ap₂ bit_xor (ih b u f l k e') (ih b u upper l k e')
        ∙ sym (ap (subset_sum (suc n) f) (xor_low_top n b u l k) ∙ subset_sum_top _ _ _ (xor_lt n b u l k))
    go ih (top {i = b} l) (top {i = u} k) e = absurd (omega (arith, and_top_top n b u l k, pow_pos n))

-- a table of k bits has coefficient words of k bits
pub subset_sum_lt : (n k u : ℕ) (f : ℕ → ℕ) → ((v : ℕ) → v < 2 ^ n → f v < 2 ^ k) → subset_sum n f u < 2 ^ k
unfolding subset_sum
subset_sum_lt n k u f h = xor_below_lt (2 ^ n) k (λ v. pick (subset v u) (f v) 0) (λ v l. pick_lt (subset v u) (f v) k (h v l))

-- ---- entry bits are treated side by side

pub subset_sum_bit : (n u b : ℕ) (f : ℕ → ℕ) → subset_sum n (λ v. f v / 2 ^ b % 2) u ≡ subset_sum n f u / 2 ^ b % 2
unfolding subset_sum
subset_sum_bit n u b f = xor_below_ext _ _ _ (λ v l. pick_bit (subset v u) b (f v)) ∙ xor_below_bit _ b _
