-- The elements of a set that is a number: numbers with the same bits are equal, and subsets, xor, shares and blocks are told by bits.
use mathlib.Core.Path.{◌≡◌, refl, sym, ap, ap₂, ◌∙◌}
use mathlib.Core.Logic.{⊎_elim, ◌≢◌}
use mathlib.Core.Bool.{Bool, true, false, not, ◌&&◌, ◌||◌}
use Prim.Native.Nat.{ℕ, zero, suc, ◌+◌, ◌-◌, ◌*◌, ◌/◌, ◌%◌, ◌^◌, ◌<◌, max}
use native.Mathlib.Nat.{mod-lt, mod-eq_of_lt, div-lt_iff_lt-mul, div-eq_of_lt}
use native.Mathlib.Omega.{arith}
use lib.Arith.{lt-one}
use lib.Pow.{pow_pos, high, low, split}
use lib.Dec.{eqb}
use lib.Bits.{bit_and, bit_xor, and_mod, and_block, bit_or, xor_mod, xor_self, xor_zero_r}
use lib.Count.{ones, ones_cat}
use borrow.Author.Tests.{eqb-true, eq-eqb}
use Rattle.std.proofs.lemmas.Nat.Bits.{same_from_bits_below, bit_at-zero, bit_at_cat_low, bit_at_ones, bit_at_or, bit_at-pow_same, bit_at-pow_other}
use Rattle.finite.specs.Tests.{implies, all, any, bit, count, total, pick}
use Rattle.finite.specs.Sets.{subset, has}
use Rattle.finite.proofs.Testing.{bool_ext, implies_at, implies_intro, all_at, all_intro, any_none, below, or_false_right}
use Rattle.std.proofs.lemmas.Bool.{cases_Bool, and_from, and_parts, or_right}
use Rattle.finite.proofs.Xor.{bit_cases, xor_bit, and_bit}
use Rattle.finite.proofs.Subsets.{subset_eq, eq_subset, subset_iff}

-- ---- bits

pub has_bit : (x i : ℕ) → has x i ≡ true → x / 2 ^ i % 2 ≡ 1
unfolding has
has_bit x i e = eqb-true _ _ e

pub bit_has : (x i : ℕ) → x / 2 ^ i % 2 ≡ 1 → has x i ≡ true
unfolding has
bit_has x i e = eq-eqb _ _ e

-- the bit is 1 where the set has the element, and 0 where it has not
pub has_is : (x i : ℕ) → bit (has x i) ≡ x / 2 ^ i % 2
unfolding has
has_is x i = bit_cases (λ r. bit (eqb r 1) ≡ r) refl refl (x / 2 ^ i)

pub has_congr : (x y i k : ℕ) → x / 2 ^ i % 2 ≡ y / 2 ^ k % 2 → has x i ≡ has y k
unfolding has
has_congr x y i k e = ap (λ (r : ℕ). eqb r 1) e

pub has_none : (i : ℕ) → has 0 i ≡ false
unfolding has
has_none i = ap (λ (r : ℕ). eqb r 1) (bit_at-zero i)

-- sets with the same elements are equal
pub sets-eq : (n a b : ℕ) → a < 2 ^ n → b < 2 ^ n → ((i : ℕ) → i < n → has a i ≡ has b i) → a ≡ b
sets-eq n a b la lb h = same_from_bits_below n a b la lb (λ i l. sym (has_is a i) ∙ ap bit (h i l) ∙ has_is b i)

-- a set that is not empty has an element
pub some_element : (n a : ℕ) → a < 2 ^ n → a ≢ 0 → any n (has a) ≡ true
some_element n a l ne =
    ⊎_elim (λ t. t) (λ f. absurd (ne (sets-eq n a 0 l (pow_pos n) (λ i k. any_none n (has a) f i k ∙ sym (has_none i))))) (cases_Bool (any n (has a)))

-- ---- xor and subsets

abbrev pub unlike : Bool → Bool → Bool
unlike true b = not b
unlike false b = b

pub has_xor : (a b i : ℕ) → has (bit_xor a b) i ≡ unlike (has a i) (has b i)
unfolding has
has_xor a b i =
    ap (λ (r : ℕ). eqb r 1) (xor_bit a b i)
    ∙ bit_cases (λ x. eqb (bit_xor x (b / 2 ^ i % 2)) 1 ≡ unlike (eqb x 1) (eqb (b / 2 ^ i % 2) 1))
    (bit_cases (λ y. eqb (bit_xor 0 y) 1 ≡ eqb y 1) refl refl (b / 2 ^ i))
    (bit_cases (λ y. eqb (bit_xor 1 y) 1 ≡ not (eqb y 1)) refl refl (b / 2 ^ i))
    (a / 2 ^ i)

pub subset_has : (t u i : ℕ) → subset t u ≡ true → has t i ≡ true → has u i ≡ true
subset_has t u i e h =
    bit_has u i
    (bit_cases (λ y. bit_and 1 y ≡ 1 → y ≡ 1) (λ q. q) (λ q. q) (u / 2 ^ i)
    (ap (λ (x : ℕ). bit_and x (u / 2 ^ i % 2)) (sym (has_bit t i h)) ∙ sym (and_bit t u i) ∙ ap (λ (x : ℕ). x / 2 ^ i % 2) (subset_eq t u e) ∙ has_bit t i h))

pub subset_all : (n t u : ℕ) → t < 2 ^ n → subset t u ≡ all n (λ i. implies (has t i) (has u i))
subset_all n t u l =
    bool_ext _ _
    (λ e. all_intro n _ (λ i k. implies_intro (has t i) (has u i) (subset_has t u i e)))
    (λ e. eq_subset t u (same_from_bits_below n (bit_and t u) t (and_le e) l (λ i k. and_bit t u i ∙ at i (implies_at (has t i) (has u i) (all_at n _ e i k)))))
  where
    and_le : {A : Type 0} → A → bit_and t u < 2 ^ n
    and_le a = omega (arith, lib.Bits.and_le_l t u)

    at : (i : ℕ) → (has t i ≡ true → has u i ≡ true) → bit_and (t / 2 ^ i % 2) (u / 2 ^ i % 2) ≡ t / 2 ^ i % 2
    at i h =
        bit_cases (λ x. ((x ≡ 1 → u / 2 ^ i % 2 ≡ 1) → bit_and x (u / 2 ^ i % 2) ≡ x))
        (λ q. refl) (λ q. ap (bit_and 1) (q refl)) (t / 2 ^ i) (λ e. has_bit u i (h (bit_has t i e)))

-- ---- blocks of bits

-- a subset of the low bits is one of the rest too
pub subset_low : (k r x : ℕ) → r < 2 ^ k → subset r (x % 2 ^ k) ≡ subset r x
subset_low k r x l =
    let e : bit_and r (x % 2 ^ k) ≡ bit_and r x =
    ap (λ (y : ℕ). bit_and y (x % 2 ^ k)) (sym (mod-eq_of_lt l)) ∙ sym (and_mod r x k) ∙ mod-eq_of_lt (omega (arith, lib.Bits.and_le_l r x)) in
    subset_iff r (x % 2 ^ k) r x (λ q. sym e ∙ q) (λ q. e ∙ q)

pub subset_split : (k a r x : ℕ) → r < 2 ^ k → subset (a * 2 ^ k + r) x ≡ (subset a (x / 2 ^ k) && subset r x)
subset_split k a r x l =
    bool_ext _ _
    (λ e. let z = sym whole ∙ subset_eq (a * 2 ^ k + r) x e in
    and_from _ _
    (eq_subset a (x / 2 ^ k) (sym (high _ k (and_lt' r)) ∙ ap (λ (y : ℕ). y / 2 ^ k) z ∙ high a k l))
    (sym (subset_low k r x l) ∙ eq_subset r (x % 2 ^ k) (sym (low _ k (and_lt' r)) ∙ ap (λ (y : ℕ). y % 2 ^ k) z ∙ low a k l)))
    (λ e. eq_subset (a * 2 ^ k + r) x
    (whole ∙ ap₂ (λ (y z : ℕ). y * 2 ^ k + z) (subset_eq a (x / 2 ^ k) (and_parts _ _ e).0) (subset_eq r (x % 2 ^ k) (subset_low k r x l ∙ (and_parts (subset a (x / 2 ^ k)) _ e).1))))
  where
    and_lt' : (r : ℕ) → bit_and r (x % 2 ^ k) < 2 ^ k
    and_lt' r = omega (arith, lib.Bits.and_le_r r (x % 2 ^ k), mod-lt x (pow_pos k))

    whole : bit_and (a * 2 ^ k + r) x ≡ bit_and a (x / 2 ^ k) * 2 ^ k + bit_and r (x % 2 ^ k)
    whole = ap (bit_and (a * 2 ^ k + r)) (sym (split x k)) ∙ and_block k a (x / 2 ^ k) r (x % 2 ^ k) l (mod-lt x (pow_pos k))

-- a low bit does not see the block above it
pub has_low : (k a r i : ℕ) → i < k → has (a * 2 ^ k + r) i ≡ has r i
has_low k a r i h = has_congr (a * 2 ^ k + r) r i i (bit_at_cat_low a k r i h)

-- the bit above a block of low bits is there where the number of the block is odd
pub has_odd : (k a r : ℕ) → r < 2 ^ k → has ((2 * a + 1) * 2 ^ k + r) k ≡ true
has_odd k a r l = bit_has ((2 * a + 1) * 2 ^ k + r) k (ap (λ (x : ℕ). x % 2) (high (2 * a + 1) k l) ∙ omega arith)

pub has_even : (k a r : ℕ) → r < 2 ^ k → has (2 * a * 2 ^ k + r) k ≡ false
unfolding has
has_even k a r l = let e : 2 * a % 2 ≡ 0 = omega arith in ap (λ (x : ℕ). eqb (x % 2) 1) (high (2 * a) k l) ∙ ap (λ (x : ℕ). eqb x 1) e

-- the set of all elements below s
pub has_all : (s c : ℕ) → c < s → has (2 ^ s - 1) c ≡ true
has_all s c l = bit_has (2 ^ s - 1) c (bit_at_ones s c l)

-- a set has no element beyond its bits
pub has_beyond : (x k : ℕ) → x < 2 ^ k → has x k ≡ false
unfolding has
has_beyond x k l = ap (λ (r : ℕ). eqb (r % 2) 1) (div-eq_of_lt l)

-- ---- one element more

pub has_or : (a b i : ℕ) → has (bit_or a b) i ≡ (has a i || has b i)
unfolding has
has_or a b i =
    ap (λ (r : ℕ). eqb r 1) (bit_at_or a b i)
    ∙ bit_cases (λ x. eqb (max x (b / 2 ^ i % 2)) 1 ≡ (eqb x 1 || eqb (b / 2 ^ i % 2) 1))
    (bit_cases (λ y. eqb (max 0 y) 1 ≡ eqb y 1) refl refl (b / 2 ^ i))
    (bit_cases (λ y. eqb (max 1 y) 1 ≡ true) refl refl (b / 2 ^ i))
    (a / 2 ^ i)

pub has_power : (k : ℕ) → has (2 ^ k) k ≡ true
has_power k = bit_has (2 ^ k) k (bit_at-pow_same k)

pub has_power_other : (k i : ℕ) → i ≢ k → has (2 ^ k) i ≡ false
unfolding has
has_power_other k i n = ap (λ (r : ℕ). eqb r 1) (bit_at-pow_other k i n)

module _ (p k : ℕ) where
  pub has_with : has (bit_or p (2 ^ k)) k ≡ true
  has_with = has_or p (2 ^ k) k ∙ or_right (has p k) (has (2 ^ k) k) (has_power k)

  pub has_with_other : (i : ℕ) → i ≢ k → has (bit_or p (2 ^ k)) i ≡ has p i
  has_with_other i n = has_or p (2 ^ k) i ∙ or_false_right (has p i) (has (2 ^ k) i) (has_power_other k i n)

-- ---- a set made of its elements

module _ (q : ℕ → Bool) where
  abbrev pub made : ℕ → ℕ
  made n = total n (λ j. bit (q j) * 2 ^ j)

  pub made_lt : (n : ℕ) → made n < 2 ^ n
  unfolding total
  made_lt zero = omega arith
  made_lt (suc n) = at (q n) (made_lt n)
    where
      at : (b : Bool) → made n < 2 ^ n → bit b * 2 ^ n + made n < 2 ^ suc n
      at true h = omega arith
      at false h = omega arith

  pub made_has : (n j : ℕ) → j < n → has (made n) j ≡ q j
  unfolding total
  made_has zero j l = absurd (omega arith)
  made_has (suc n) j l =
      below l
      (λ e. ap (has (bit (q n) * 2 ^ n + made n)) e ∙ top_bit (q n) ∙ ap q (sym e))
      (λ k. has_low n (bit (q n)) (made n) j k ∙ made_has n j k)
    where
      top_bit : (b : Bool) → has (bit b * 2 ^ n + made n) n ≡ b
      top_bit b = unfold has in ap (λ (x : ℕ). eqb (x % 2) 1) (high (bit b) n (made_lt n)) ∙ at b
        where
          at : (b : Bool) → eqb (bit b % 2) 1 ≡ b
          at true = refl
          at false = refl

-- ---- how many elements

pub ones_top : (n i : ℕ) → i < 2 ^ n → ones (2 ^ n + i) ≡ suc (ones i)
unfolding ones
ones_top n i h = let e : 2 ^ n + i ≡ 1 * 2 ^ n + i = omega arith in ap ones e ∙ ones_cat n 1 i h ∙ omega arith

pub ones_count : (n u : ℕ) → u < 2 ^ n → ones u ≡ count n (has u)
unfolding total ones
ones_count zero u l = rw (lt-one l) refl
ones_count (suc n) u l =
    let q : u / 2 ^ n < 2 = (div-lt_iff_lt-mul (pow_pos n)).1 (omega arith) in
    ap ones (sym (split u n)) ∙ ones_cat n (u / 2 ^ n) (u % 2 ^ n) (mod-lt u (pow_pos n))
    ∙ ap₂ ◌+◌ (one_bit (u / 2 ^ n) q ∙ sym (has_is u n ∙ mod-eq_of_lt q))
    (ones_count n (u % 2 ^ n) (mod-lt u (pow_pos n)) ∙ low_count)
  where
    one_bit : (x : ℕ) → x < 2 → ones x ≡ x
    one_bit zero h = refl
    one_bit (suc zero) h = refl
    one_bit (suc (suc x)) h = absurd (omega arith)

    low_count : count n (has (u % 2 ^ n)) ≡ count n (has u)
    low_count =
        Rattle.finite.proofs.Counting.count_congr n (has (u % 2 ^ n)) (has u)
        (λ i k. sym (has_low n (u / 2 ^ n) (u % 2 ^ n) i k) ∙ ap (λ (x : ℕ). has x i) (split u n))

-- ---- the lowest and the highest element

pub subset_top : (n i x : ℕ) → i < 2 ^ n → subset (2 ^ n + i) x ≡ (subset 1 (x / 2 ^ n) && subset i x)
subset_top n i x l = let e : 2 ^ n + i ≡ 1 * 2 ^ n + i = omega arith in ap (λ (y : ℕ). subset y x) e ∙ subset_split n 1 i x l

subset_one : (x : ℕ) → subset 1 x ≡ subset 1 (x % 2)
subset_one x = sym (subset_low 1 1 x (omega arith))

-- the lowest bit of a sum
pub subset_one_xor : (x y c : ℕ) → bit_xor (pick (subset 1 x) c 0) (pick (subset 1 y) c 0) ≡ pick (subset 1 (bit_xor x y)) c 0
subset_one_xor x y c =
    ap₂ (λ (a b : Bool). bit_xor (pick a c 0) (pick b c 0)) (subset_one x) (subset_one y)
    ∙ low_bits (x % 2) (y % 2) (mod-lt x (omega arith)) (mod-lt y (omega arith))
    ∙ sym (ap (λ (b : Bool). pick b c 0) (subset_one (bit_xor x y) ∙ ap (subset 1) (xor_mod x y 1)))
  where
    low_bits : (x y : ℕ) → x < 2 → y < 2 → bit_xor (pick (subset 1 x) c 0) (pick (subset 1 y) c 0) ≡ pick (subset 1 (bit_xor x y)) c 0
    low_bits zero zero h k = unfold subset in refl
    low_bits zero (suc zero) h k = unfold subset in refl
    low_bits (suc zero) zero h k = unfold subset in xor_zero_r c
    low_bits (suc zero) (suc zero) h k = unfold subset in xor_self c
    low_bits zero (suc (suc y)) h k = absurd (omega arith)
    low_bits (suc zero) (suc (suc y)) h k = absurd (omega arith)
    low_bits (suc (suc x)) y h k = absurd (omega arith)
