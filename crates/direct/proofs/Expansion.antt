-- The sum of the products of a term at a sharing is the term at the value shared: for each variable a share is chosen, so the products are
-- those of the sums of shares multiplied out. A term of d variables has s^d products.
use mathlib.Core.Path.{◌≡◌, refl, sym, ap, ap₂, ◌∙◌}
use mathlib.Core.Bool.{Bool, true, false, ◌&&◌}
use Prim.Native.Nat.{ℕ, zero, suc, ◌+◌, ◌*◌, ◌/◌, ◌^◌, ◌<◌}
use native.Mathlib.Nat.{mul-zero, mul_comm}
use lib.Arith.{lt-one}
use lib.Dec.{eqb}
use lib.Bits.{bit_xor, xor_shr, and_zero_r, xor_lt}
use borrow.Author.Tests.{eqb-true, eq-eqb}
use Rattle.finite.specs.Tests.{pick}
use Rattle.finite.specs.Sums.{xor_below}
use Rattle.finite.specs.Sets.{subset}
use Rattle.finite.proofs.Testing.{bool_ext}
use Rattle.finite.proofs.Sums.{xor_below_ext, pick_both, xor_below_blocks, pick_swap, xor_below_pick}
use Rattle.finite.proofs.Subsets.{Top, low, top, top_cases, xor_top_low, subset_eq, eq_subset, subset_empty, xor_top_top}
use Rattle.finite.proofs.Elements.{subset_low, subset_split, subset_top, subset_one_xor}
use Rattle.anf.specs.NormalForm.{subset_sum}
use Rattle.anf.proofs.SubsetSums.{subset_sum_ext, subset_sum_none, subset_sum_low, subset_sum_top, subset_sum_zero}
use Rattle.sharing.specs.Sharing.{share, sum}
use Rattle.sharing.proofs.Sharing.{share_top, pow_step}
use Rattle.direct.specs.Direct.{is_product}
use Rattle.direct.proofs.Products.{product_more, product_low, product_none}

-- ---- a subset of u from one share, the others from the rest: the term u at a sum of two

subset_sum_pick : (n u : ℕ) (c : Bool) (f : ℕ → ℕ) → subset_sum n (λ t. pick c (f t) 0) u ≡ pick c (subset_sum n f u) 0
subset_sum_pick n u true f = refl
subset_sum_pick n u false f = subset_sum_none n u (λ t. 0) (λ v l. refl)

-- t at a, and what of u is not in t at b
abbrev both : ℕ → ℕ → ℕ → ℕ → ℕ
both u a b t = pick (subset t a) (pick (subset (bit_xor u t) b) 1 0) 0

pub split_sum : (n u a b : ℕ) → u < 2 ^ n → subset_sum n (both u a b) u ≡ pick (subset u (bit_xor b a)) 1 0
split_sum zero u a b l = rw (lt-one l) (subset_sum_zero (both 0 a b) ∙ rw (subset_empty a, subset_empty b, subset_empty (bit_xor b a)) refl)
split_sum (suc n) u a b l = go (split_sum n) (top_cases n u l)
  where
    go : ((u a b : ℕ) → u < 2 ^ n → subset_sum n (both u a b) u ≡ pick (subset u (bit_xor b a)) 1 0) → {u : ℕ} → Top n u
        → subset_sum (suc n) (both u a b) u ≡ pick (subset u (bit_xor b a)) 1 0
    go ih (low {i} k) = subset_sum_low n i (both i a b) k ∙ ih i a b k
    go ih (top {i} k) =
        subset_sum_top n i (both (2 ^ n + i) a b) k
        ∙ ap₂ bit_xor
        (subset_sum_ext n i (both (2 ^ n + i) a b) (λ t. pick (subset 1 (b / 2 ^ n)) (both i a b t) 0)
        (λ t h. ap (λ (x : ℕ). pick (subset t a) (pick (subset x b) 1 0) 0) (xor_top_low n i t k h)
        ∙ ap (λ (x : Bool). pick (subset t a) (pick x 1 0) 0) (subset_top n (bit_xor i t) b (xor_lt n i t k h))
        ∙ ap (λ (x : ℕ). pick (subset t a) x 0) (pick_both (subset 1 (b / 2 ^ n)) (subset (bit_xor i t) b) 1)
        ∙ pick_swap (subset t a) (subset 1 (b / 2 ^ n)) (pick (subset (bit_xor i t) b) 1 0))
        ∙ subset_sum_pick n i (subset 1 (b / 2 ^ n)) (both i a b) ∙ ap (λ (x : ℕ). pick (subset 1 (b / 2 ^ n)) x 0) (ih i a b k))
        (subset_sum_ext n i (λ j. both (2 ^ n + i) a b (2 ^ n + j)) (λ t. pick (subset 1 (a / 2 ^ n)) (both i a b t) 0)
        (λ j h. ap (λ (x : ℕ). pick (subset (2 ^ n + j) a) (pick (subset x b) 1 0) 0) (xor_top_top n i j k h)
        ∙ ap (λ (x : Bool). pick x (pick (subset (bit_xor i j) b) 1 0) 0) (subset_top n j a h)
        ∙ pick_both (subset 1 (a / 2 ^ n)) (subset j a) (pick (subset (bit_xor i j) b) 1 0))
        ∙ subset_sum_pick n i (subset 1 (a / 2 ^ n)) (both i a b) ∙ ap (λ (x : ℕ). pick (subset 1 (a / 2 ^ n)) x 0) (ih i a b k))
        ∙ subset_one_xor (b / 2 ^ n) (a / 2 ^ n) (pick (subset i (bit_xor b a)) 1 0)
        ∙ sym (ap (λ (x : Bool). pick x 1 0) (subset_top n i (bit_xor b a) k ∙ ap (λ (y : ℕ). subset 1 y && subset i (bit_xor b a)) (xor_shr b a n))
        ∙ pick_both (subset 1 (bit_xor (b / 2 ^ n) (a / 2 ^ n))) (subset i (bit_xor b a)) 1)

-- ---- the sum over all numbers, block by block

pub product_blocks : (m s u t r : ℕ) → t < 2 ^ m → r < 2 ^ (m * s)
    → is_product m (suc s) u (t * 2 ^ (m * s) + r) ≡ (subset t u && is_product m s (bit_xor u t) r)
product_blocks m s u t r lt lr =
    product_more m s u (t * 2 ^ (m * s) + r)
    ∙ ap (λ (x : ℕ). subset x u && is_product m s (bit_xor u x) (t * 2 ^ (m * s) + r)) (share_top m s t r lt lr)
    ∙ ap (λ (x : Bool). subset t u && x) (product_low m s (bit_xor u t) t r lr)

-- ---- the sum of the products of u at σ

pub expansion : (m s u σ : ℕ) → u < 2 ^ m
    → xor_below (2 ^ (m * s)) (λ p. pick (is_product m s u p) (pick (subset p σ) 1 0) 0) ≡ pick (subset u (sum m s σ)) 1 0
unfolding sum xor_below
expansion m zero u σ l =
    ap (λ (x : ℕ). xor_below x (λ p. pick (is_product m 0 u p) (pick (subset p σ) 1 0) 0)) (ap (λ (x : ℕ). 2 ^ x) (mul-zero m))
    ∙ ap₂ (λ (a b : Bool). pick a (pick b 1 0) 0) (product_none m u 0 l ∙ sym (subset_of_none u)) (subset_empty σ)
  where
    subset_of_none : (u : ℕ) → subset u 0 ≡ eqb u 0
    subset_of_none u =
        bool_ext _ _ (λ e. eq-eqb u 0 (sym (subset_eq u 0 e) ∙ and_zero_r u)) (λ e. eq_subset u 0 (and_zero_r u ∙ sym (eqb-true u 0 e)))
expansion m (suc s) u σ l =
    ap (λ (x : ℕ). xor_below x (λ p. pick (is_product m (suc s) u p) (pick (subset p σ) 1 0) 0)) (pow_step m s ∙ mul_comm (2 ^ (m * s)) (2 ^ m))
    ∙ xor_below_blocks (2 ^ m) (2 ^ (m * s)) (λ p. pick (is_product m (suc s) u p) (pick (subset p σ) 1 0) 0)
    ∙ xor_below_ext (2 ^ m) _ (λ t. pick (subset t u) (both u (share m s σ) (xor_below s (λ j. share m j σ)) t) 0)
    (λ t lt. xor_below_ext (2 ^ (m * s)) _ (λ r. pick (subset t u) (pick (subset t (share m s σ)) (pick (is_product m s (bit_xor u t) r) (pick (subset r σ) 1 0) 0) 0) 0)
    (λ r lr. ap₂ (λ (a b : Bool). pick a (pick b 1 0) 0) (product_blocks m s u t r lt lr) (subset_split (m * s) t r σ lr ∙ ap (λ (b : Bool). b && subset r σ) (subset_share t lt))
    ∙ regroup (subset t u) (is_product m s (bit_xor u t) r) (subset t (share m s σ)) (subset r σ))
    ∙ xor_below_pick (2 ^ (m * s)) (subset t u) _
    ∙ ap (λ (x : ℕ). pick (subset t u) x 0)
    (xor_below_pick (2 ^ (m * s)) (subset t (share m s σ)) _
    ∙ ap (λ (x : ℕ). pick (subset t (share m s σ)) x 0) (expansion m s (bit_xor u t) σ (xor_lt m u t l lt))))
    ∙ as_sum (split_sum m u (share m s σ) (xor_below s (λ j. share m j σ)) l)
  where
    subset_share : (t : ℕ) → t < 2 ^ m → subset t (σ / 2 ^ (m * s)) ≡ subset t (share m s σ)
    subset_share t lt = unfold share in sym (subset_low m t (σ / 2 ^ (m * s)) lt)

    regroup : (a b c d : Bool) → ◌≡◌ {A = ℕ} (pick (a && b) (pick (c && d) 1 0) 0) (pick a (pick c (pick b (pick d 1 0) 0) 0) 0)
    regroup false b c d = refl
    regroup true b true d = refl
    regroup true true false d = refl
    regroup true false false d = refl

    as_sum : subset_sum m (both u (share m s σ) (xor_below s (λ j. share m j σ))) u ≡ pick (subset u (bit_xor (xor_below s (λ j. share m j σ)) (share m s σ))) 1 0
        → xor_below (2 ^ m) (λ t. pick (subset t u) (both u (share m s σ) (xor_below s (λ j. share m j σ)) t) 0) ≡ pick (subset u (bit_xor (xor_below s (λ j. share m j σ)) (share m s σ))) 1 0
    as_sum e = unfold subset_sum in e
