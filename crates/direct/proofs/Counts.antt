-- How many products there are: s^d for a term of d variables, and (s + 1)^m for all terms in m variables.
use mathlib.Core.Path.{◌≡◌, refl, sym, ap, ap₂, ◌∙◌}
use mathlib.Core.Logic.{◌⊎◌, inl, inr}
use mathlib.Core.Bool.{Bool, true, false, ◌&&◌}
use Prim.Native.Nat.{ℕ, zero, suc, ◌+◌, ◌*◌, ◌^◌, ◌≤◌, ◌<◌}
use native.Mathlib.Nat.{mul_comm, add_comm, pow-zero, pow-suc, add-zero, mul-zero, suc-mul}
use native.Mathlib.Omega.{arith}
use lib.Arith.{lt-one}
use lib.Dec.{eqb}
use lib.Bits.{bit_xor, xor_lt}
use lib.Count.{ones}
use borrow.Author.Tests.{eqb-true, eqb-false}
use Rattle.finite.specs.Tests.{pick, bit, any, count, total}
use Rattle.finite.specs.Sets.{subset, has}
use Rattle.std.proofs.lemmas.Bool.{cases_Bool}
use Rattle.finite.proofs.Testing.{any_some}
use Rattle.finite.proofs.Counting.{total_congr, total_zero, total_one, count_has, total_double, total_times, total_blocks, count_any}
use Rattle.finite.proofs.Subsets.{Top, low, top, top_cases, xor_top_low, subset_low_top, subset_top_top, subset_top_low, subset_self, subset_empty, xor_top_top}
use Rattle.finite.proofs.Elements.{ones_count, some_element, ones_top}
use Rattle.direct.specs.Direct.{is_product}
use Rattle.sharing.specs.Sharing.{share}
use native.Mathlib.Decide.{ℕ_discrete}
use lib.Pow.{pow_pos}
use borrow.Author.Tests.{eq-eqb, ne_eqb}
use Rattle.std.specs.Int.Bits.{xor_zero_r}
use Rattle.direct.proofs.Products.{product_none}
use Rattle.direct.proofs.Expansion.{product_blocks}
use Rattle.sharing.proofs.Sharing.{pow_step, share_low, share_top}

-- ---- the subsets of u

abbrev pub subset_total : ℕ → (ℕ → ℕ) → ℕ → ℕ
subset_total n g u = total (2 ^ n) (λ t. pick (subset t u) (g t) 0)

subset_total_low : (n i : ℕ) (g : ℕ → ℕ) → i < 2 ^ n → subset_total (suc n) g i ≡ subset_total n g i
subset_total_low n i g h =
    total_double n (λ t. pick (subset t i) (g t) 0)
    ∙ ap (λ (x : ℕ). subset_total n g i + x)
    (total_zero (2 ^ n) (λ j. pick (subset (2 ^ n + j) i) (g (2 ^ n + j)) 0) (λ j l. ap (λ (b : Bool). pick b (g (2 ^ n + j)) 0) (subset_top_low n j i l h)))
    ∙ add-zero _

subset_total_top : (n i : ℕ) (g : ℕ → ℕ) → i < 2 ^ n → subset_total (suc n) g (2 ^ n + i) ≡ subset_total n g i + subset_total n (λ j. g (2 ^ n + j)) i
subset_total_top n i g h =
    total_double n (λ t. pick (subset t (2 ^ n + i)) (g t) 0)
    ∙ ap₂ ◌+◌
    (total_congr (2 ^ n) _ (λ t. pick (subset t i) (g t) 0) (λ j l. ap (λ (b : Bool). pick b (g j) 0) (subset_low_top n j i l h)))
    (total_congr (2 ^ n) _ (λ j. pick (subset j i) (g (2 ^ n + j)) 0) (λ j l. ap (λ (b : Bool). pick b (g (2 ^ n + j)) 0) (subset_top_top n j i l h)))

subset_total_congr : (n u : ℕ) (f g : ℕ → ℕ) → ((t : ℕ) → t < 2 ^ n → f t ≡ g t) → subset_total n f u ≡ subset_total n g u
subset_total_congr n u f g h = total_congr (2 ^ n) _ _ (λ t l. ap (λ (x : ℕ). pick (subset t u) x 0) (h t l))

subset_total_times : (n u c : ℕ) (g : ℕ → ℕ) → subset_total n (λ t. c * g t) u ≡ c * subset_total n g u
subset_total_times n u c g =
    total_congr (2 ^ n) _ (λ t. c * pick (subset t u) (g t) 0) (λ t l. at (subset t u) (g t)) ∙ total_times (2 ^ n) c (λ t. pick (subset t u) (g t) 0)
  where
    at : (b : Bool) (x : ℕ) → pick b (c * x) 0 ≡ c * pick b x 0
    at true x = refl
    at false x = sym (mul-zero c)

split_count : (n s u : ℕ) → u < 2 ^ n → subset_total n (λ t. s ^ ones (bit_xor u t)) u ≡ suc s ^ ones u
unfolding total
split_count zero s u l = rw (lt-one l) (ap (λ (b : Bool). pick b (s ^ ones 0) 0 + 0) (subset_self 0) ∙ none)
  where
    none : s ^ ones 0 + 0 ≡ suc s ^ ones 0
    none = unfold ones in simp (pow-zero, add-zero)
split_count (suc n) s u l = go (split_count n s) (top_cases n u l)
  where
    go : ((u : ℕ) → u < 2 ^ n → subset_total n (λ t. s ^ ones (bit_xor u t)) u ≡ suc s ^ ones u) → {u : ℕ} → Top n u
        → subset_total (suc n) (λ t. s ^ ones (bit_xor u t)) u ≡ suc s ^ ones u
    go ih (low {i} k) = subset_total_low n i (λ t. s ^ ones (bit_xor i t)) k ∙ ih i k
    go ih (top {i} k) =
        subset_total_top n i (λ t. s ^ ones (bit_xor (2 ^ n + i) t)) k
        ∙ ap₂ ◌+◌
        (subset_total_congr n i _ (λ t. s * s ^ ones (bit_xor i t))
        (λ t h. ap (λ (x : ℕ). s ^ x) (ap ones (xor_top_low n i t k h) ∙ ones_top n (bit_xor i t) (xor_lt n i t k h)) ∙ pow-suc s (ones (bit_xor i t)) ∙ mul_comm _ s)
        ∙ subset_total_times n i s (λ t. s ^ ones (bit_xor i t)) ∙ ap (λ (x : ℕ). s * x) (ih i k))
        (subset_total_congr n i _ (λ t. s ^ ones (bit_xor i t)) (λ t h. ap (λ (x : ℕ). s ^ ones x) (xor_top_top n i t k h)) ∙ ih i k)
        ∙ sym (ap (λ (x : ℕ). suc s ^ x) (ones_top n i k) ∙ pow-suc (suc s) (ones i) ∙ mul_comm _ (suc s) ∙ suc-mul s (suc s ^ ones i))

-- ---- the products

pub products_count : (m s u : ℕ) → u < 2 ^ m → count (2 ^ (m * s)) (is_product m s u) ≡ s ^ ones u
unfolding total
products_count m zero u l =
    ap (λ (x : ℕ). count x (is_product m 0 u)) (ap (λ (x : ℕ). 2 ^ x) (mul-zero m))
    ∙ ap (λ (b : Bool). bit b + 0) (product_none m u 0 l) ∙ at (cases_Bool (eqb u 0))
  where
    at : (eqb u 0 ≡ true) ⊎ (eqb u 0 ≡ false) → bit (eqb u 0) + 0 ≡ 0 ^ ones u
    at (inl e) = rw (eqb-true u 0 e) (unfold ones in refl)
    at (inr e) =
        let i = any_some m (has u) (some_element m u l (eqb-false u 0 e)) in
        rw e (none (ones u) (omega (arith, ones_count m u l, count_has m (has u) i.0 i.1 i.2)))
      where
        none : (d : ℕ) → 1 ≤ d → 0 ≡ 0 ^ d
        none zero h = absurd (omega arith)
        none (suc d) h = sym (pow-suc 0 d ∙ mul-zero (0 ^ d))
products_count m (suc s) u l =
    ap (λ (x : ℕ). count x (is_product m (suc s) u)) (pow_step m s ∙ mul_comm (2 ^ (m * s)) (2 ^ m))
    ∙ total_blocks (2 ^ m) (2 ^ (m * s)) (λ p. bit (is_product m (suc s) u p))
    ∙ total_congr (2 ^ m) _ (λ t. pick (subset t u) (s ^ ones (bit_xor u t)) 0)
    (λ t lt. total_congr (2 ^ (m * s)) _ (λ r. bit (subset t u && is_product m s (bit_xor u t) r)) (λ r lr. ap bit (product_blocks m s u t r lt lr))
    ∙ at (subset t u) (bit_xor u t) ∙ ap (λ (x : ℕ). pick (subset t u) x 0) (products_count m s (bit_xor u t) (xor_lt m u t l lt)))
    ∙ split_count m s u l
  where
    at : (b : Bool) (v : ℕ) → count (2 ^ (m * s)) (λ r. b && is_product m s v r) ≡ pick b (count (2 ^ (m * s)) (is_product m s v)) 0
    at true v = refl
    at false v = total_zero (2 ^ (m * s)) (λ r. 0) (λ r k. refl)

pub all_products : (m s : ℕ) → total (2 ^ m) (λ u. s ^ ones u) ≡ suc s ^ m
unfolding total
all_products zero s = unfold ones in simp (pow-zero, add-zero)
all_products (suc m) s =
    total_double m (λ u. s ^ ones u)
    ∙ ap₂ ◌+◌ (all_products m s)
    (total_congr (2 ^ m) _ (λ u. s * s ^ ones u) (λ u l. ap (λ (x : ℕ). s ^ x) (ones_top m u l) ∙ pow-suc s (ones u) ∙ mul_comm _ s)
    ∙ total_times (2 ^ m) s (λ u. s ^ ones u) ∙ ap (λ (x : ℕ). s * x) (all_products m s))
    ∙ add_comm _ _ ∙ sym (pow-suc (suc s) m ∙ mul_comm _ (suc s) ∙ suc-mul s (suc s ^ m))

-- the numbers that are products of some term
pub products_most : (m s : ℕ) → count (2 ^ (m * s)) (λ p. any (2 ^ m) (λ u. is_product m s u p)) ≤ suc s ^ m
products_most m s =
    omega (
      arith,
      count_any (2 ^ (m * s)) (2 ^ m) (is_product m s),
      total_congr (2 ^ m) (λ u. count (2 ^ (m * s)) (is_product m s u)) (λ u. s ^ ones u) (λ u l. products_count m s u l),
      all_products m s,
    )

-- ---- the products that take nothing of a share c: as many as with a share less

one_less : (b : Bool) (n : ℕ) (p q : ℕ → Bool) (k : ℕ) → count n (λ r. p r && q r) ≡ k → count n (λ r. (b && p r) && q r) ≡ pick b k 0
one_less true n p q k h = h
one_less false n p q k h = total_zero n (λ r. 0) (λ r i. refl)

-- the last share
left_last : (m s u : ℕ) → u < 2 ^ m
    → total (2 ^ m) (λ t. count (2 ^ (m * s)) (λ r. is_product m (suc s) u (t * 2 ^ (m * s) + r) && eqb (share m s (t * 2 ^ (m * s) + r)) 0)) ≡ s ^ ones u
left_last m s u l =
    total_one (2 ^ m) (λ t. count (2 ^ (m * s)) (λ r. is_product m (suc s) u (t * 2 ^ (m * s) + r) && eqb (share m s (t * 2 ^ (m * s) + r)) 0)) 0 (pow_pos m)
    (λ t lt ne. total_zero (2 ^ (m * s)) _ (λ r lr.
    ap (λ (b : Bool). bit (is_product m (suc s) u (t * 2 ^ (m * s) + r) && b)) (ne_eqb (share m s (t * 2 ^ (m * s) + r)) 0 (λ z. ne (sym (share_top m s t r lt lr) ∙ z)))
    ∙ none (is_product m (suc s) u (t * 2 ^ (m * s) + r))))
    ∙ total_congr (2 ^ (m * s)) _ (λ r. bit (is_product m s u r))
    (λ r lr. ap₂ (λ (a b : Bool). bit (a && b))
    (product_blocks m s u 0 r (pow_pos m) lr ∙ ap₂ (λ (a : Bool) (x : ℕ). a && is_product m s x r) (subset_empty u) (xor_zero_r u))
    (eq-eqb _ 0 (share_top m s 0 r (pow_pos m) lr))
    ∙ ap bit (and_true (is_product m s u r)))
    ∙ products_count m s u l
  where
    none : (b : Bool) → bit (b && false) ≡ 0
    none true = refl
    none false = refl

    and_true : (b : Bool) → (b && true) ≡ b
    and_true true = refl
    and_true false = refl

-- a lower share
pub left_lower : (m s c u : ℕ) → c < s → u < 2 ^ m
    → total (2 ^ m) (λ t. count (2 ^ (m * s)) (λ r. is_product m (suc s) u (t * 2 ^ (m * s) + r) && eqb (share m c (t * 2 ^ (m * s) + r)) 0)) ≡ s ^ ones u
left_lower m zero c u lc l = absurd (omega arith)
left_lower m (suc s) c u lc l =
    total_congr (2 ^ m) _ (λ t. pick (subset t u) (s ^ ones (bit_xor u t)) 0)
    (λ t lt. total_congr (2 ^ (m * suc s)) _ (λ r. bit ((subset t u && is_product m (suc s) (bit_xor u t) r) && eqb (share m c r) 0))
    (λ r lr. ap₂ (λ (a b : Bool). bit (a && b)) (product_blocks m (suc s) u t r lt lr) (ap (λ (x : ℕ). eqb x 0) (share_low m (suc s) c t r lc lr)))
    ∙ one_less (subset t u) (2 ^ (m * suc s)) (is_product m (suc s) (bit_xor u t)) (λ r. eqb (share m c r) 0) (s ^ ones (bit_xor u t))
    (ap (λ (x : ℕ). count x (λ p. is_product m (suc s) (bit_xor u t) p && eqb (share m c p) 0)) (pow_step m s ∙ mul_comm (2 ^ (m * s)) (2 ^ m))
    ∙ total_blocks (2 ^ m) (2 ^ (m * s)) (λ p. bit (is_product m (suc s) (bit_xor u t) p && eqb (share m c p) 0))
    ∙ at (bit_xor u t) (xor_lt m u t l lt) (ℕ_discrete c s) (λ k. left_lower m s c (bit_xor u t) k (xor_lt m u t l lt))))
    ∙ split_count m s u l
  where
    at : (v : ℕ) → v < 2 ^ m → Dec (c ≡ s)
        → (c < s → total (2 ^ m) (λ t. count (2 ^ (m * s)) (λ r. is_product m (suc s) v (t * 2 ^ (m * s) + r) && eqb (share m c (t * 2 ^ (m * s) + r)) 0)) ≡ s ^ ones v)
        → total (2 ^ m) (λ t. count (2 ^ (m * s)) (λ r. is_product m (suc s) v (t * 2 ^ (m * s) + r) && eqb (share m c (t * 2 ^ (m * s) + r)) 0)) ≡ s ^ ones v
    at v lv (yes e) ih = rw e (left_last m s v lv)
    at v lv (no n) ih = ih (omega arith)

pub left_count : (m s c u : ℕ) → c ≤ s → u < 2 ^ m → count (2 ^ (m * suc s)) (λ p. is_product m (suc s) u p && eqb (share m c p) 0) ≡ s ^ ones u
left_count m s c u lc l =
    ap (λ (x : ℕ). count x (λ p. is_product m (suc s) u p && eqb (share m c p) 0)) (pow_step m s ∙ mul_comm (2 ^ (m * s)) (2 ^ m))
    ∙ total_blocks (2 ^ m) (2 ^ (m * s)) (λ p. bit (is_product m (suc s) u p && eqb (share m c p) 0))
    ∙ at (ℕ_discrete c s)
  where
    at : Dec (c ≡ s)
        → total (2 ^ m) (λ t. count (2 ^ (m * s)) (λ r. is_product m (suc s) u (t * 2 ^ (m * s) + r) && eqb (share m c (t * 2 ^ (m * s) + r)) 0)) ≡ s ^ ones u
    at (yes e) = rw e (left_last m s u l)
    at (no n) = left_lower m s c u (omega arith) l

-- the numbers that are such a product of some term
left_most_suc : (m s c : ℕ) → c ≤ s → count (2 ^ (m * suc s)) (λ p. any (2 ^ m) (λ u. is_product m (suc s) u p && eqb (share m c p) 0)) ≤ suc s ^ m
left_most_suc m s c lc =
    omega (
      arith,
      count_any (2 ^ (m * suc s)) (2 ^ m) (λ u p. is_product m (suc s) u p && eqb (share m c p) 0),
      total_congr (2 ^ m) (λ u. count (2 ^ (m * suc s)) (λ p. is_product m (suc s) u p && eqb (share m c p) 0)) (λ u. s ^ ones u) (λ u l. left_count m s c u lc l),
      all_products m s,
    )

pub left_most : (m s c : ℕ) → c < s → count (2 ^ (m * s)) (λ p. any (2 ^ m) (λ u. is_product m s u p && eqb (share m c p) 0)) ≤ s ^ m
left_most m zero c l = absurd (omega arith)
left_most m (suc s) c l = left_most_suc m s c (omega arith)
