-- Laws of `total` and `count`, and the pigeonhole: an injective map of the numbers below n into themselves takes each value exactly once.
-- Assumes nothing.
use mathlib.Core.Path.{◌≡◌, refl, sym, ap, ap₂, ◌∙◌}
use mathlib.Core.Bool.{Bool, true, false, ◌&&◌, ◌||◌}
use mathlib.Core.Logic.{⊎_elim}
use Prim.Native.Nat.{ℕ, zero, suc, ◌+◌, ◌*◌, ◌≤◌, ◌<◌, zero-le, ◌^◌}
use native.Mathlib.Nat.{le_of_suc-le-suc, not-suc-le-zero, le_refl, le_step, le_antisymm, lt_of_not-le, mul-add, mul-one, add-zero, zero-mul, mul-zero, add-suc, suc-mul, add_comm}
use native.Mathlib.Omega.{arith}
use lib.Dec.{eqb}
use borrow.Author.Tests.{eqb-true, eq-eqb, ne_eqb}
use Rattle.finite.specs.Tests.{total, bit, count, any}
use Rattle.finite.specs.Maps.{Injective}
use Rattle.finite.proofs.Testing.{true_or_not, below}

-- ---- totals

pub total_congr : (n : ℕ) (f g : ℕ → ℕ) → ((i : ℕ) → i < n → f i ≡ g i) → total n f ≡ total n g
unfolding total
total_congr zero f g h = refl
total_congr (suc n) f g h = ap₂ ◌+◌ (h n (le_refl (suc n))) (total_congr n f g (λ i l. h i (le_step l)))

pub total_zero : (n : ℕ) (f : ℕ → ℕ) → ((i : ℕ) → i < n → f i ≡ 0) → total n f ≡ 0
unfolding total
total_zero zero f h = refl
total_zero (suc n) f h = omega (arith, h n (le_refl (suc n)), total_zero n f (λ i l. h i (le_step l)))

pub total_add : (n : ℕ) (f g : ℕ → ℕ) → total n (λ i. f i + g i) ≡ total n f + total n g
unfolding total
total_add zero f g = refl
total_add (suc n) f g = omega (arith, total_add n f g)

pub total_mono : (n : ℕ) (f g : ℕ → ℕ) → ((i : ℕ) → i < n → f i ≤ g i) → total n f ≤ total n g
unfolding total
total_mono zero f g h = zero-le
total_mono (suc n) f g h = omega (arith, h n (le_refl (suc n)), total_mono n f g (λ i l. h i (le_step l)))

-- where only the place k may differ from zero, the total is what stands there
pub total_one : (n : ℕ) (f : ℕ → ℕ) (k : ℕ) → k < n → ((i : ℕ) → i < n → (i ≡ k → ⊥) → f i ≡ 0) → total n f ≡ f k
unfolding total
total_one zero f k l h = absurd (not-suc-le-zero l)
total_one (suc n) f k l h =
    below l
    (λ e. omega (arith, ap f e, total_zero n f (λ i b. h i (le_step b) (λ q. omega arith))))
    (λ b. omega (arith, h n (le_refl (suc n)) (λ q. omega arith), total_one n f k b (λ i c. h i (le_step c))))

-- numbers that are each at most another's, and make as much, are the other's
pub total_same : (n : ℕ) (f g : ℕ → ℕ) → ((i : ℕ) → i < n → f i ≤ g i) → total n f ≡ total n g → (k : ℕ) → k < n → f k ≡ g k
unfolding total
total_same zero f g h e k l = absurd (not-suc-le-zero l)
total_same (suc n) f g h e k l =
    let b = total_mono n f g (λ i c. h i (le_step c)) in
    let t = h n (le_refl (suc n)) in
    below l
    (λ q. ap f q ∙ (let r : f n ≡ g n = omega arith in r) ∙ sym (ap g q))
    (λ c. total_same n f g (λ i d. h i (le_step d)) (omega arith) k c)

pub total_range : (n k : ℕ) (f : ℕ → ℕ) → total (n + k) f ≡ total n f + total k (λ i. f (n + i))
unfolding total
total_range n zero f = rw (add-zero n) (omega arith)
total_range n (suc k) f = rw (add-suc n k) (omega (arith, total_range n k f))

pub total_double : (n : ℕ) (f : ℕ → ℕ) → total (2 ^ suc n) f ≡ total (2 ^ n) f + total (2 ^ n) (λ i. f (2 ^ n + i))
total_double n f = let e : 2 ^ suc n ≡ 2 ^ n + 2 ^ n = omega arith in rw e (total_range (2 ^ n) (2 ^ n) f)

pub total_blocks : (a b : ℕ) (f : ℕ → ℕ) → total (a * b) f ≡ total a (λ i. total b (λ j. f (i * b + j)))
unfolding total
total_blocks zero b f = rw (zero-mul b) refl
total_blocks (suc a) b f =
    ap (λ (x : ℕ). total x f) (suc-mul a b) ∙ total_range (a * b) b f
    ∙ ap (λ (x : ℕ). x + total b (λ j. f (a * b + j))) (total_blocks a b f) ∙ add_comm _ _

pub total_swap : (n k : ℕ) (f : ℕ → ℕ → ℕ) → total n (λ i. total k (f i)) ≡ total k (λ j. total n (λ i. f i j))
unfolding total
total_swap zero k f = sym (total_zero k (λ j. 0) (λ j l. refl))
total_swap (suc n) k f = ap (λ (x : ℕ). total k (f n) + x) (total_swap n k f) ∙ sym (total_add k (f n) (λ j. total n (λ i. f i j)))

pub total_times : (n c : ℕ) (f : ℕ → ℕ) → total n (λ i. c * f i) ≡ c * total n f
unfolding total
total_times zero c f = sym (mul-zero c)
total_times (suc n) c f = ap (λ (x : ℕ). c * f n + x) (total_times n c f) ∙ sym (mul-add c (f n) (total n f))

-- the same number n times
pub total_const : (n c : ℕ) → total n (λ i. c) ≡ n * c
unfolding total
total_const zero c = sym (zero-mul c)
total_const (suc n) c = omega (arith, total_const n c, suc-mul n c)

pub count_true : (n : ℕ) → count n (λ i. true) ≡ n
count_true n = total_const n 1 ∙ mul-one n

-- ---- counts. A test's answer is an equation, `p i ≡ true`.

bit_true : {b : Bool} → b ≡ true → bit b ≡ 1
bit_true e = ap bit e

bit_not : (b : Bool) → (b ≡ true → ⊥) → bit b ≡ 0
bit_not true h = absurd (h refl)
bit_not false h = refl

pub bit_inj : (a b : Bool) → bit a ≡ bit b → a ≡ b
bit_inj true true e = refl
bit_inj true false e = absurd (omega arith)
bit_inj false true e = absurd (omega arith)
bit_inj false false e = refl

pub count_congr : (n : ℕ) (p q : ℕ → Bool) → ((i : ℕ) → i < n → p i ≡ q i) → count n p ≡ count n q
count_congr n p q h = total_congr n _ _ (λ i l. ap bit (h i l))

pub count_mono : (n : ℕ) (p q : ℕ → Bool) → ((i : ℕ) → i < n → p i ≡ true → q i ≡ true) → count n p ≤ count n q
count_mono n p q h = total_mono n _ _ (λ i l. step (p i) (q i) (h i l))
  where
    step : (a b : Bool) → (a ≡ true → b ≡ true) → bit a ≤ bit b
    step true b f = omega (arith, bit_true (f refl))
    step false b f = zero-le

pub count_none : (n : ℕ) (p : ℕ → Bool) → ((i : ℕ) → i < n → p i ≡ true → ⊥) → count n p ≡ 0
count_none n p h = total_zero n _ (λ i l. bit_not (p i) (h i l))

-- one place passes and no other: the count is 1
pub count_one : (n : ℕ) (p : ℕ → Bool) (k : ℕ) → k < n → p k ≡ true → ((i : ℕ) → i < n → p i ≡ true → i ≡ k) → count n p ≡ 1
count_one n p k l e u = total_one n _ k l (λ i b ne. bit_not (p i) (λ q. ne (u i b q))) ∙ bit_true e

-- a count that is not 0 has a place
pub count_some : (n : ℕ) (p : ℕ → Bool) → 1 ≤ count n p → (k : ℕ) × (k < n) × (p k ≡ true)
unfolding total
count_some zero p h = absurd (not-suc-le-zero h)
count_some (suc n) p h =
    ⊎_elim
    (λ e. (n, le_refl (suc n), e))
    (λ ne. let r = count_some n p (omega (arith, bit_not (p n) ne)) in (r.0, le_step r.1, r.2))
    (true_or_not (p n))

-- one place that passes makes 1, and two places make 2
pub count_has : (n : ℕ) (p : ℕ → Bool) (k : ℕ) → k < n → p k ≡ true → 1 ≤ count n p
unfolding total
count_has zero p k l e = absurd (not-suc-le-zero l)
count_has (suc n) p k l e =
    below l (λ q. omega (arith, bit_true (ap p (sym q) ∙ e))) (λ b. omega (arith, count_has n p k b e))

pub count_two : (n : ℕ) (p : ℕ → Bool) (i k : ℕ) → i < k → k < n → p i ≡ true → p k ≡ true → 2 ≤ count n p
unfolding total
count_two zero p i k d l ei ek = absurd (not-suc-le-zero l)
count_two (suc n) p i k d l ei ek =
    below l
    (λ q. omega (arith, bit_true (ap p (sym q) ∙ ek), count_has n p i (omega arith) ei))
    (λ b. omega (arith, count_two n p i k d b ei ek))

-- a count of 1: two places that pass are one
pub count_unique : (n : ℕ) (p : ℕ → Bool) → count n p ≡ 1 → (i k : ℕ) → i < n → k < n → p i ≡ true → p k ≡ true → i ≡ k
count_unique n p c i k li lk ei ek =
    le_antisymm
    (le_of_suc-le-suc (lt_of_not-le (λ h. omega (arith, count_two n p k i h li ek ei))))
    (le_of_suc-le-suc (lt_of_not-le (λ h. omega (arith, count_two n p i k h lk ei ek))))

-- ---- the pigeonhole

-- the values of f, each below m, counted by value
pub by_value : (n m : ℕ) (f : ℕ → ℕ) → ((i : ℕ) → i < n → f i < m) → total m (λ y. count n (λ i. eqb (f i) y)) ≡ n
unfolding total
by_value zero m f h = total_zero m _ (λ i l. refl)
by_value (suc n) m f h =
    total_add m (λ y. bit (eqb (f n) y)) (λ y. count n (λ i. eqb (f i) y))
    ∙ omega (
      arith,
      count_one m (λ y. eqb (f n) y) (f n) (h n (le_refl (suc n))) (eq-eqb (f n) (f n) refl) (λ i l e. sym (eqb-true (f n) i e)),
      by_value n m f (λ i l. h i (le_step l)),
    )

module _ (n : ℕ) (f : ℕ → ℕ) (inj : Injective n f) where
  -- an injective f takes no value twice
  at_most_once : (y : ℕ) → count n (λ i. eqb (f i) y) ≤ 1
  at_most_once y =
      le_of_suc-le-suc (lt_of_not-le (λ h. more h))
    where
      more : 2 ≤ count n (λ i. eqb (f i) y) → ⊥
      more h =
          let a = count_some n (λ i. eqb (f i) y) (omega arith) in
          omega (
            arith,
            count_one n (λ i. eqb (f i) y) a.0 a.1 a.2
                (λ i l e. inj i a.0 l a.1 (eqb-true (f i) y e ∙ sym (eqb-true (f a.0) y a.2))),
          )

  -- and where its values are below n too, it takes each of them exactly once
  pub pigeonhole : ((i : ℕ) → i < n → f i < n) → (y : ℕ) → y < n → count n (λ i. eqb (f i) y) ≡ 1
  pigeonhole into = total_same n _ (λ y. 1) (λ y l. at_most_once y) (by_value n n f into ∙ sym (count_true n))

  pub onto : ((i : ℕ) → i < n → f i < n) → (y : ℕ) → y < n → (k : ℕ) × (k < n) × (f k ≡ y)
  onto into y l =
      let r = count_some n (λ i. eqb (f i) y) (omega (arith, pigeonhole into y l)) in
      (r.0, r.1, eqb-true (f r.0) y r.2)

-- a map of the numbers below n into themselves that takes each value takes it exactly once
pub onto_once : (n : ℕ) (f : ℕ → ℕ) → ((i : ℕ) → i < n → f i < n) → ((y : ℕ) → y < n → 1 ≤ count n (λ i. eqb (f i) y))
    → (y : ℕ) → y < n → count n (λ i. eqb (f i) y) ≡ 1
onto_once n f into some y l = sym (total_same n (λ y. 1) (λ y. count n (λ i. eqb (f i) y)) some (count_true n ∙ sym (by_value n n f into)) y l)

-- the places that pass a, counted by what d makes of them
pub by_part : (n k : ℕ) (a : ℕ → Bool) (d : ℕ → ℕ) (p : ℕ → Bool) → ((i : ℕ) → i < n → d i < k)
    → count n (λ i. a i && p (d i)) ≡ total k (λ q. bit (p q) * count n (λ i. a i && eqb (d i) q))
unfolding total
by_part zero k a d p h = sym (total_zero k _ (λ q l. refl' (p q)))
  where
    refl' : (b : Bool) → bit b * 0 ≡ 0
    refl' true = refl
    refl' false = refl
by_part (suc n) k a d p h =
    sym (total_congr k _ _ (λ q l. mul-add (bit (p q)) (bit (a n && eqb (d n) q)) (count n (λ i. a i && eqb (d i) q)))
    ∙ total_add k (λ q. bit (p q) * bit (a n && eqb (d n) q)) (λ q. bit (p q) * count n (λ i. a i && eqb (d i) q))
    ∙ ap₂ ◌+◌
    (total_one k (λ q. bit (p q) * bit (a n && eqb (d n) q)) (d n) (h n (le_refl (suc n))) (λ q l ne. none (p q) (a n) (eqb (d n) q) (ne_eqb (d n) q (λ e. ne (sym e))))
    ∙ here (p (d n)) (a n) (eqb (d n) (d n)) (eq-eqb (d n) (d n) refl))
    (sym (by_part n k a d p (λ i l. h i (le_step l)))))
  where
    none : (b c e : Bool) → e ≡ false → bit b * bit (c && e) ≡ 0
    none true true e z = ap (λ (x : Bool). 1 * bit x) z
    none true false e z = refl
    none false true e z = ap (λ (x : Bool). 0 * bit x) z
    none false false e z = refl

    here : (b c e : Bool) → e ≡ true → bit b * bit (c && e) ≡ bit (c && b)
    here true true e z = ap (λ (x : Bool). 1 * bit x) z
    here true false e z = refl
    here false true e z = ap (λ (x : Bool). 0 * bit x) z
    here false false e z = refl

-- where each part is met once, the count is that of the parts
pub by_part_once : (n k : ℕ) (a : ℕ → Bool) (d : ℕ → ℕ) (p : ℕ → Bool) → ((i : ℕ) → i < n → d i < k)
    → ((q : ℕ) → q < k → count n (λ i. a i && eqb (d i) q) ≡ 1) → count n (λ i. a i && p (d i)) ≡ count k p
by_part_once n k a d p h o =
    by_part n k a d p h ∙ total_congr k _ _ (λ q l. ap (λ (x : ℕ). bit (p q) * x) (o q l) ∙ mul-one (bit (p q)))

-- what passes one of several tests, counted test by test
pub count_any : (n k : ℕ) (q : ℕ → ℕ → Bool) → count n (λ p. any k (λ u. q u p)) ≤ total k (λ u. count n (q u))
unfolding any total
count_any n zero q = omega (arith, total_zero n (λ i. 0) (λ i l. refl))
count_any n (suc k) q =
    omega (
      arith,
      count_any n k q,
      total_mono n (λ p. bit (any k (λ u. q u p) || q k p)) (λ p. bit (any k (λ u. q u p)) + bit (q k p)) (λ p l. or_le (any k (λ u. q u p)) (q k p)),
      total_add n (λ p. bit (any k (λ u. q u p))) (λ p. bit (q k p)),
    )
  where
    or_le : (a b : Bool) → bit (a || b) ≤ bit a + bit b
    or_le true b = omega arith
    or_le false b = omega arith
