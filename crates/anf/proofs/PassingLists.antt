-- The list of the numbers that pass a test: it rises, it has those members and no rising list but it has them, and its value is a sum.
-- So a table is the sum of its terms: at each bit, the list of the sets whose coefficient word has that bit.
use mathlib.Core.Path.{◌≡◌, refl, sym, ap, ap₂, ◌∙◌}
use mathlib.Core.Bool.{Bool, true, false, ◌&&◌, ◌||◌, and-or_distrib_right}
use mathlib.Core.List.{List, [], ◌∷◌, ◌++◌, append-nil}
use Prim.Native.Nat.{ℕ, zero, suc, ◌/◌, ◌%◌, ◌^◌, ◌<◌, ◌+◌}
use native.Mathlib.Nat.{add_comm}
use native.Mathlib.Omega.{arith}
use borrow.Author.Tests.{lt-ltb, le-ltb, eqb-true}
use lib.Dec.{eqb, ltb}
use lib.ListN.{length, length-append}
use Rattle.finite.specs.Tests.{pick, bit, count, total}
use Rattle.finite.specs.Sums.{xor_below}
use Rattle.finite.specs.Sets.{subset}
use Rattle.std.proofs.lemmas.Bool.{or_left, or_from}
use Rattle.finite.proofs.Testing.{ltb_suc}
use Rattle.finite.proofs.Xor.{bit_cases}
use Rattle.finite.proofs.Sums.{xor_below_ext}
use Rattle.anf.specs.NormalForm.{subset_sum}
use Rattle.anf.specs.Terms.{value_at, before, IsTermList, passing}
use Rattle.anf.proofs.SubsetSums.{subset_sum_twice, subset_sum_bit}
use Rattle.anf.proofs.Order.{Rising, first_append, rising_terms, member, member_append}
use Rattle.anf.proofs.Terms.{rising_value}

pub passing_none : (n : ℕ) → passing n (λ q. false) ≡ []
unfolding passing
passing_none zero = refl
passing_none (suc n) = append-nil (passing n (λ q. false)) ∙ passing_none n

-- ---- it rises

-- by their numbers, as the numbers below n are taken
before_lt : (a b : ℕ) → a < b → before a b ≡ true
unfolding before
before_lt a b h = lt-ltb a b h

-- the number n behind a rising list of smaller ones
rising_last : (n : ℕ) (l : List ℕ) (t : Bool) → Rising n l → Rising (suc n) (l ++ pick t (n ∷ []) [])
rising_last n [] true r = (omega arith, tt, tt)
rising_last n [] false r = tt
rising_last n (u ∷ l) true r = (omega arith, first_append u l (n ∷ []) r.1 (before_lt u n r.0, tt), rising_last n l true r.2)
rising_last n (u ∷ l) false r = (omega arith, first_append u l [] r.1 tt, rising_last n l false r.2)

pub passing_rising : (n : ℕ) (p : ℕ → Bool) → Rising n (passing n p)
unfolding passing
passing_rising zero p = tt
passing_rising (suc n) p = rising_last n (passing n p) (p n) (passing_rising n p)

-- the number n alone, where it passes
one_member : (n : ℕ) (p : ℕ → Bool) (u : ℕ) → member u (pick (p n) (n ∷ []) []) ≡ (eqb u n && p u)
one_member n p u = go (eqb u n) refl (p n) refl
  where
    go : (c : Bool) → eqb u n ≡ c → (t : Bool) → p n ≡ t → member u (pick t (n ∷ []) []) ≡ (c && p u)
    go true e true f = or_left (eqb u n) false e ∙ sym (ap p (eqb-true u n e) ∙ f)
    go true e false f = sym (ap p (eqb-true u n e) ∙ f)
    go false e true f = or_from _ _ e refl
    go false e false f = refl

-- it has those numbers
pub passing_member : (n : ℕ) (p : ℕ → Bool) (u : ℕ) → member u (passing n p) ≡ (ltb u n && p u)
unfolding passing
passing_member zero p u = sym (ap (λ (x : Bool). x && p u) (le-ltb u 0 (omega arith)))
passing_member (suc n) p u =
    member_append u (passing n p) (pick (p n) (n ∷ []) []) ∙ ap₂ ◌||◌ (passing_member n p u) (one_member n p u)
    ∙ sym (and-or_distrib_right (ltb u n) (eqb u n) (p u)) ∙ ap (λ (x : Bool). x && p u) (sym (ltb_suc u n))

pub passing_terms : (n : ℕ) (p : ℕ → Bool) → IsTermList n (passing (2 ^ n) p)
passing_terms n p = rising_terms n (passing (2 ^ n) p) (passing_rising (2 ^ n) p)

pub passing_congr : (n : ℕ) (p q : ℕ → Bool) → ((i : ℕ) → i < n → p i ≡ q i) → passing n p ≡ passing n q
unfolding passing
passing_congr zero p q h = refl
passing_congr (suc n) p q h =
    ap₂ ◌++◌ (passing_congr n p q (λ i l. h i (omega arith))) (ap (λ (t : Bool). pick t (n ∷ []) []) (h n (omega arith)))

length_one : (n : ℕ) (t : Bool) → length (pick t (n ∷ []) []) ≡ bit t
length_one n true = refl
length_one n false = refl

pub passing_length : (n : ℕ) (p : ℕ → Bool) → length (passing n p) ≡ count n p
unfolding passing total
passing_length zero p = refl
passing_length (suc n) p =
    length-append (passing n p) (pick (p n) (n ∷ []) []) ∙ ap₂ ◌+◌ (passing_length n p) (length_one n (p n)) ∙ add_comm (count n p) (bit (p n))

-- ---- its value

pub value_at_passing : (n : ℕ) (p : ℕ → Bool) (x : ℕ) → value_at (passing n p) x ≡ xor_below n (λ i. pick (subset i x) (bit (p i)) 0)
value_at_passing n p x =
    rising_value n (passing n p) x (passing_rising n p)
    ∙ xor_below_ext n (λ u. pick (subset u x) (bit (member u (passing n p))) 0) (λ i. pick (subset i x) (bit (p i)) 0)
    (λ u h. ap (λ (c : Bool). pick (subset u x) (bit c) 0) (passing_member n p u ∙ ap (λ (c : Bool). c && p u) (lt-ltb u n h)))

-- ---- a table is the sum of its terms

bit_one : (y : ℕ) → bit (eqb (y % 2) 1) ≡ y % 2
bit_one y = bit_cases (λ r. bit (eqb r 1) ≡ r) refl refl y

-- for any n variables, entries of any width and any bit b
pub table_terms : (n b : ℕ) (f : ℕ → ℕ) (x : ℕ) → x < 2 ^ n
    → value_at (passing (2 ^ n) (λ u. eqb (subset_sum n f u / 2 ^ b % 2) 1)) x ≡ f x / 2 ^ b % 2
table_terms n b f x l =
    value_at_passing (2 ^ n) (λ u. eqb (subset_sum n f u / 2 ^ b % 2) 1) x
    ∙ xor_below_ext (2 ^ n) (λ u. pick (subset u x) (bit (eqb (subset_sum n f u / 2 ^ b % 2) 1)) 0) (λ u. pick (subset u x) (subset_sum n f u / 2 ^ b % 2) 0)
    (λ u k. ap (λ (y : ℕ). pick (subset u x) y 0) (bit_one (subset_sum n f u / 2 ^ b)))
    ∙ sum_is
    ∙ subset_sum_bit n x b (subset_sum n f)
    ∙ ap (λ (y : ℕ). y / 2 ^ b % 2) (subset_sum_twice n f x l)
  where
    sum_is : xor_below (2 ^ n) (λ u. pick (subset u x) (subset_sum n f u / 2 ^ b % 2) 0) ≡ subset_sum n (λ u. subset_sum n f u / 2 ^ b % 2) x
    sum_is = unfold subset_sum in refl
