-- Xor and and of numbers form a Boolean ring; and distributes over or too. Each law holds of the halves and, by cases, of the lowest bits.
use mathlib.Core.Path.{◌≡◌, refl, sym, ap, ap₂, ◌∙◌}
use Prim.Native.Nat.{ℕ, zero, suc, ◌/◌, ◌%◌, ◌^◌, ◌<◌, min, max}
use native.Mathlib.Nat.{mod-lt, zero-lt-suc, not-suc-le-zero, le_of_suc-le-suc}
use native.Mathlib.Omega.{arith}
use Rattle.std.specs.Int.Bits.{xor_assoc}
use lib.Arith.{bin_ind, digits_div, digits_mod}
use lib.Bits.{bit_and, bit_or, bit_xor, differ, xor_step, and_step, or_step, xor_comm, and_comm, xor_self, xor_zero_r, xor_shr, xor_mod, and_shr, and_mod}

-- case analysis on the lowest bit
pub bit_cases : (P : ℕ → Type 0) → P 0 → P 1 → (n : ℕ) → P (n % 2)
bit_cases P p0 p1 n = go (n % 2) (mod-lt n (zero-lt-suc 1))
  where
    go : (r : ℕ) → r < 2 → P r
    go zero h = p0
    go (suc zero) h = p1
    go (suc (suc r)) h = absurd (not-suc-le-zero (le_of_suc-le-suc (le_of_suc-le-suc h)))

differ_lt : (a b : ℕ) → differ (a % 2) (b % 2) < 2
differ_lt a b =
    bit_cases (λ x. differ x (b % 2) < 2) (bit_cases (λ y. y < 2) (omega arith) (omega arith) b)
    (bit_cases (λ y. differ 1 y < 2) (omega arith) (omega arith) b) a

pub xor_half : (a b : ℕ) → bit_xor a b / 2 ≡ bit_xor (a / 2) (b / 2)
xor_half a b = rw (xor_step a b) (digits_div (bit_xor (a / 2) (b / 2)) (differ_lt a b))

pub xor_odd : (a b : ℕ) → bit_xor a b % 2 ≡ differ (a % 2) (b % 2)
xor_odd a b = rw (xor_step a b) (digits_mod (bit_xor (a / 2) (b / 2)) (differ_lt a b))

min_lt : (a b : ℕ) → min (a % 2) (b % 2) < 2
min_lt a b = bit_cases (λ x. min x (b % 2) < 2) (omega arith) (omega arith) a

pub and_half : (a b : ℕ) → bit_and a b / 2 ≡ bit_and (a / 2) (b / 2)
and_half a b = rw (and_step a b) (digits_div (bit_and (a / 2) (b / 2)) (min_lt a b))

pub and_odd : (a b : ℕ) → bit_and a b % 2 ≡ min (a % 2) (b % 2)
and_odd a b = rw (and_step a b) (digits_mod (bit_and (a / 2) (b / 2)) (min_lt a b))

max_lt : (a b : ℕ) → max (a % 2) (b % 2) < 2
max_lt a b = bit_cases (λ x. max x (b % 2) < 2) (omega arith) (omega arith) a

or_half : (a b : ℕ) → bit_or a b / 2 ≡ bit_or (a / 2) (b / 2)
or_half a b = rw (or_step a b) (digits_div (bit_or (a / 2) (b / 2)) (max_lt a b))

or_odd : (a b : ℕ) → bit_or a b % 2 ≡ max (a % 2) (b % 2)
or_odd a b = rw (or_step a b) (digits_mod (bit_or (a / 2) (b / 2)) (max_lt a b))

-- two numbers are equal when their halves and their lowest bits are
pub digits_eq : (a b : ℕ) → a / 2 ≡ b / 2 → a % 2 ≡ b % 2 → a ≡ b
digits_eq a b p q = omega arith

-- on three lowest bits: what holds of all eight
cases3 : (P : ℕ → ℕ → ℕ → Type 0) → P 0 0 0 → P 0 0 1 → P 0 1 0 → P 0 1 1 → P 1 0 0 → P 1 0 1 → P 1 1 0 → P 1 1 1
    → (a b c : ℕ) → P (a % 2) (b % 2) (c % 2)
cases3 P p000 p001 p010 p011 p100 p101 p110 p111 a b c =
    bit_cases (λ x. P x (b % 2) (c % 2))
    (bit_cases (λ y. P 0 y (c % 2)) (bit_cases (λ z. P 0 0 z) p000 p001 c) (bit_cases (λ z. P 0 1 z) p010 p011 c) b)
    (bit_cases (λ y. P 1 y (c % 2)) (bit_cases (λ z. P 1 0 z) p100 p101 c) (bit_cases (λ z. P 1 1 z) p110 p111 c) b) a

pub and_xor : (a b c : ℕ) → bit_and a (bit_xor b c) ≡ bit_xor (bit_and a b) (bit_and a c)
and_xor =
    bin_ind (λ a. (b c : ℕ) → bit_and a (bit_xor b c) ≡ bit_xor (bit_and a b) (bit_and a c)) (λ b c. refl)
    (λ a ih b c. digits_eq (bit_and a (bit_xor b c)) (bit_xor (bit_and a b) (bit_and a c))
    (simp (and_half, xor_half, ih))
    (simp (and_odd, xor_odd) (cases3 (λ x y z. min x (differ y z) ≡ differ (min x y) (min x z)) refl refl refl refl refl refl refl refl a b c)))

pub and_or : (a b c : ℕ) → bit_and a (bit_or b c) ≡ bit_or (bit_and a b) (bit_and a c)
and_or =
    bin_ind (λ a. (b c : ℕ) → bit_and a (bit_or b c) ≡ bit_or (bit_and a b) (bit_and a c)) (λ b c. refl)
    (λ a ih b c. digits_eq (bit_and a (bit_or b c)) (bit_or (bit_and a b) (bit_and a c))
    (simp (and_half, or_half, ih))
    (simp (and_odd, or_odd) (cases3 (λ x y z. min x (max y z) ≡ max (min x y) (min x z)) refl refl refl refl refl refl refl refl a b c)))

pub xor_left_comm : (a b c : ℕ) → bit_xor a (bit_xor b c) ≡ bit_xor b (bit_xor a c)
xor_left_comm a b c = sym (xor_assoc a b c) ∙ ap (λ (x : ℕ). bit_xor x c) (xor_comm a b) ∙ xor_assoc b a c

-- x ⊕ (x ⊕ b) = b
pub xor_cancel : (a b : ℕ) → bit_xor a (bit_xor a b) ≡ b
xor_cancel a b = sym (xor_assoc a a b) ∙ ap (λ (x : ℕ). bit_xor x b) (xor_self a)

-- for `simp`: xor_ac sorts a sum, xor_ring cancels too
pub ruleset xor_ac = (xor_assoc, xor_comm, xor_left_comm)

pub ruleset xor_ring = (xor_assoc, xor_comm, xor_left_comm, xor_self, xor_cancel, xor_zero_r)

pub xor_swap4 : (a b c d : ℕ) → bit_xor (bit_xor a b) (bit_xor c d) ≡ bit_xor (bit_xor a c) (bit_xor b d)
xor_swap4 a b c d = simp xor_ac

pub xor_and : (a b c : ℕ) → bit_and (bit_xor a b) c ≡ bit_xor (bit_and a c) (bit_and b c)
xor_and a b c = and_comm (bit_xor a b) c ∙ and_xor c a b ∙ ap₂ bit_xor (and_comm c a) (and_comm c b)

pub xor_left_cancel : (a b c : ℕ) → bit_xor a b ≡ bit_xor a c → b ≡ c
xor_left_cancel a b c e = sym (xor_cancel a b) ∙ ap (bit_xor a) e ∙ xor_cancel a c

-- bit k of a sum
pub xor_bit : (a b k : ℕ) → bit_xor a b / 2 ^ k % 2 ≡ bit_xor (a / 2 ^ k % 2) (b / 2 ^ k % 2)
xor_bit a b k = ap (λ (x : ℕ). x % 2) (xor_shr a b k) ∙ xor_mod (a / 2 ^ k) (b / 2 ^ k) 1

pub and_bit : (a b k : ℕ) → bit_and a b / 2 ^ k % 2 ≡ bit_and (a / 2 ^ k % 2) (b / 2 ^ k % 2)
and_bit a b k = ap (λ (x : ℕ). x % 2) (and_shr a b k) ∙ and_mod (a / 2 ^ k) (b / 2 ^ k) 1
