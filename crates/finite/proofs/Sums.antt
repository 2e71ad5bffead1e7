-- Laws of the sum f 0 ⊕ f 1 ⊕ .. ⊕ f (n - 1), each by induction on n.
use mathlib.Core.Path.{◌≡◌, refl, sym, ap, ap₂, ◌∙◌}
use mathlib.Core.Logic.{◌⊎◌, inl, inr, ◌≢◌}
use mathlib.Core.Bool.{Bool, true, false, ◌&&◌}
use Prim.Native.Nat.{ℕ, zero, suc, ◌+◌, ◌/◌, ◌%◌, ◌^◌, ◌<◌, ◌*◌}
use native.Mathlib.Nat.{zero-div, add-zero, add-suc, eq-or-lt_of_le, not-suc-le-zero, le_of_suc-le-suc, zero-mul, suc-mul}
use native.Mathlib.Omega.{arith}
use lib.Pow.{pow_pos}
use lib.Bits.{bit_xor, xor_zero_r, xor_lt}
use Rattle.finite.specs.Tests.{pick}
use Rattle.finite.specs.Sums.{xor_below}
use Rattle.finite.proofs.Xor.{xor_swap4, xor_bit}
use Rattle.std.specs.Int.Bits.{xor_assoc}

pub xor_below_ext : (n : ℕ) (f g : ℕ → ℕ) → ((i : ℕ) → i < n → f i ≡ g i) → xor_below n f ≡ xor_below n g
unfolding xor_below
xor_below_ext zero f g h = refl
xor_below_ext (suc n) f g h = ap₂ bit_xor (xor_below_ext n f g (λ i l. h i (omega arith))) (h n (omega arith))

pub xor_below_xor : (n : ℕ) (f g : ℕ → ℕ) → xor_below n (λ i. bit_xor (f i) (g i)) ≡ bit_xor (xor_below n f) (xor_below n g)
unfolding xor_below
xor_below_xor zero f g = refl
xor_below_xor (suc n) f g = rw (xor_below_xor n f g) (xor_swap4 (xor_below n f) (xor_below n g) (f n) (g n))

pub xor_below_none : (n : ℕ) (f : ℕ → ℕ) → ((i : ℕ) → i < n → f i ≡ 0) → xor_below n f ≡ 0
unfolding xor_below
xor_below_none zero f h = refl
xor_below_none (suc n) f h = ap₂ bit_xor (xor_below_none n f (λ i l. h i (omega arith))) (h n (omega arith))

pub xor_below_zeros : (n : ℕ) → xor_below n (λ i. 0) ≡ 0
xor_below_zeros n = xor_below_none n (λ i. 0) (λ i l. refl)

pub xor_below_swap : (n m : ℕ) (f : ℕ → ℕ → ℕ) → xor_below n (λ i. xor_below m (f i)) ≡ xor_below m (λ j. xor_below n (λ i. f i j))
unfolding xor_below
xor_below_swap zero m f = sym (xor_below_zeros m)
xor_below_swap (suc n) m f = rw (xor_below_swap n m f) (sym (xor_below_xor m (λ j. xor_below n (λ i. f i j)) (f n)))

pub xor_below_one : (n k : ℕ) (f : ℕ → ℕ) → k < n → ((i : ℕ) → i < n → i ≢ k → f i ≡ 0) → xor_below n f ≡ f k
unfolding xor_below
xor_below_one zero k f l h = absurd (not-suc-le-zero l)
xor_below_one (suc n) k f l h = go (xor_below_one n k f) (eq-or-lt_of_le (le_of_suc-le-suc l))
  where
    go : (k < n → ((i : ℕ) → i < n → i ≢ k → f i ≡ 0) → xor_below n f ≡ f k) → (k ≡ n) ⊎ (k < n) → bit_xor (xor_below n f) (f n) ≡ f k
    go ih (inl e) = rw e (ap (λ (x : ℕ). bit_xor x (f n)) (xor_below_none n f (λ i p. h i (omega arith) (omega arith))))
    go ih (inr p) = ap₂ bit_xor (ih p (λ i q ne. h i (omega arith) ne)) (h n (omega arith) (omega arith)) ∙ xor_zero_r (f k)

pub xor_below_add : (n k : ℕ) (f : ℕ → ℕ) → xor_below (n + k) f ≡ bit_xor (xor_below n f) (xor_below k (λ i. f (n + i)))
unfolding xor_below
xor_below_add n zero f = rw (add-zero, xor_zero_r)
xor_below_add n (suc k) f = rw (add-suc, xor_below_add n k f) (xor_assoc (xor_below n f) (xor_below k (λ i. f (n + i))) (f (n + k)))

pub xor_below_double : (n : ℕ) (f : ℕ → ℕ) → xor_below (2 ^ suc n) f ≡ bit_xor (xor_below (2 ^ n) f) (xor_below (2 ^ n) (λ i. f (2 ^ n + i)))
xor_below_double n f = let e : 2 ^ suc n ≡ 2 ^ n + 2 ^ n = omega arith in rw e (xor_below_add (2 ^ n) (2 ^ n) f)

pub xor_below_lt : (n k : ℕ) (f : ℕ → ℕ) → ((i : ℕ) → i < n → f i < 2 ^ k) → xor_below n f < 2 ^ k
unfolding xor_below
xor_below_lt zero k f h = pow_pos k
xor_below_lt (suc n) k f h = xor_lt k (xor_below n f) (f n) (xor_below_lt n k f (λ i l. h i (omega arith))) (h n (omega arith))

-- bit b of a sum is the sum of the bits
pub xor_below_bit : (n b : ℕ) (f : ℕ → ℕ) → xor_below n (λ i. f i / 2 ^ b % 2) ≡ xor_below n f / 2 ^ b % 2
unfolding xor_below
xor_below_bit zero b f = sym (ap (λ (x : ℕ). x % 2) (zero-div (2 ^ b)))
xor_below_bit (suc n) b f = ap (λ (x : ℕ). bit_xor x (f n / 2 ^ b % 2)) (xor_below_bit n b f) ∙ sym (xor_bit (xor_below n f) (f n) b)

-- block by block
pub xor_below_blocks : (a b : ℕ) (f : ℕ → ℕ) → xor_below (a * b) f ≡ xor_below a (λ i. xor_below b (λ j. f (i * b + j)))
unfolding xor_below
xor_below_blocks zero b f = rw (zero-mul b) refl
xor_below_blocks (suc a) b f =
    ap (λ (x : ℕ). xor_below x f) (suc-mul a b) ∙ xor_below_add (a * b) b f
    ∙ ap (λ (x : ℕ). bit_xor x (xor_below b (λ j. f (a * b + j)))) (xor_below_blocks a b f)

pub xor_below_pick : (n : ℕ) (c : Bool) (f : ℕ → ℕ) → xor_below n (λ t. pick c (f t) 0) ≡ pick c (xor_below n f) 0
xor_below_pick n true f = refl
xor_below_pick n false f = xor_below_none n (λ t. 0) (λ v l. refl)

-- the first apart
pub xor_below_first : (n : ℕ) (f : ℕ → ℕ) → xor_below (suc n) f ≡ bit_xor (f 0) (xor_below n (λ i. f (suc i)))
unfolding xor_below
xor_below_first zero f = sym (xor_zero_r (f 0))
xor_below_first (suc n) f = ap (λ (x : ℕ). bit_xor x (f (suc n))) (xor_below_first n f) ∙ xor_assoc (f 0) (xor_below n (λ i. f (suc i))) (f (suc n))

-- ---- a number that counts where a test passes

pub pick_xor : (b : Bool) (x y : ℕ) → pick b (bit_xor x y) 0 ≡ bit_xor (pick b x 0) (pick b y 0)
pick_xor true x y = refl
pick_xor false x y = refl

pub pick_zero : (b : Bool) → pick {A = ℕ} b 0 0 ≡ 0
pick_zero true = refl
pick_zero false = refl

pub pick_bit : (t : Bool) (b x : ℕ) → pick t (x / 2 ^ b % 2) 0 ≡ pick t x 0 / 2 ^ b % 2
pick_bit true b x = refl
pick_bit false b x = sym (ap (λ (y : ℕ). y % 2) (zero-div (2 ^ b)))

pub pick_lt : (b : Bool) (x k : ℕ) → x < 2 ^ k → pick b x 0 < 2 ^ k
pick_lt true x k h = h
pick_lt false x k h = pow_pos k

pub pick_both : (a b : Bool) (x : ℕ) → pick (a && b) x 0 ≡ pick a (pick b x 0) 0
pick_both true b x = refl
pick_both false b x = refl

pub pick_swap : (a b : Bool) (x : ℕ) → pick a (pick b x 0) 0 ≡ pick b (pick a x 0) 0
pick_swap true true x = refl
pick_swap true false x = refl
pick_swap false true x = refl
pick_swap false false x = refl
