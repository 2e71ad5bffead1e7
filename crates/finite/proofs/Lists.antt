-- The tests that iterators make of a list, as tests over the numbers below its length: the i-th element of xs is `get_or xs i d`.
use mathlib.Core.Path.{◌≡◌, refl, sym, ap, ap₂, ◌∙◌}
use mathlib.Core.Bool.{Bool, ◌&&◌, ◌||◌}
use mathlib.Core.List.{List, [], ◌∷◌}
use Prim.Native.Nat.{ℕ, zero, suc, ◌+◌, ◌≤◌}
use native.Mathlib.Omega.{arith}
use lib.ListN.{length, get_or, take}
use lib.Seq.{get_or-take}
use Rattle.std.specs.List.{list_all, list_any, enumerate_from, range_with_len}
use Rattle.std.proofs.Math.Bool.{and-true, or-false, and_assoc, or_assoc}
use Rattle.std.proofs.lemmas.List.{length-take-le}
use Rattle.std.proofs.lemmas.List.FromFn.{length-enumerate_from, get_or-enumerate_from}
use Rattle.finite.specs.Tests.{all, any}
use Rattle.finite.proofs.Testing.{all_congr, any_congr}

-- the first number apart, as a list has its first element apart
pub all_first : (n : ℕ) (p : ℕ → Bool) → all (suc n) p ≡ (p 0 && all n (λ i. p (suc i)))
unfolding all
all_first zero p = sym (and-true (p 0))
all_first (suc n) p = ap (λ (b : Bool). b && p (suc n)) (all_first n p) ∙ and_assoc (p 0) (all n (λ i. p (suc i))) (p (suc n))

any_first : (n : ℕ) (p : ℕ → Bool) → any (suc n) p ≡ (p 0 || any n (λ i. p (suc i)))
unfolding any
any_first zero p = sym (or-false (p 0))
any_first (suc n) p = ap (λ (b : Bool). b || p (suc n)) (any_first n p) ∙ or_assoc (p 0) (any n (λ i. p (suc i))) (p (suc n))

module _ {A : Type 0} (d : A) where
  pub list_all_is : (p : A → Bool) (xs : List A) → list_all p xs ≡ all (length xs) (λ i. p (get_or xs i d))
  unfolding all
  list_all_is p [] = refl
  list_all_is p (x ∷ xs) = ap (λ (b : Bool). p x && b) (list_all_is p xs) ∙ sym (all_first (length xs) (λ i. p (get_or (x ∷ xs) i d)))

  pub list_any_is : (p : A → Bool) (xs : List A) → list_any p xs ≡ any (length xs) (λ i. p (get_or xs i d))
  unfolding any
  list_any_is p [] = refl
  list_any_is p (x ∷ xs) = ap (λ (b : Bool). p x || b) (list_any_is p xs) ∙ sym (any_first (length xs) (λ i. p (get_or (x ∷ xs) i d)))

  -- of the elements before place n
  pub list_any_take : (p : A → Bool) (xs : List A) (n : ℕ) → n ≤ length xs → list_any p (take n xs) ≡ any n (λ i. p (get_or xs i d))
  list_any_take p xs n h =
      list_any_is p (take n xs) ∙ ap (λ (k : ℕ). any k (λ i. p (get_or (take n xs) i d))) (length-take-le n xs h)
      ∙ any_congr n _ _ (λ i l. ap p (get_or-take n xs i d l))

-- of the elements with their places
pub list_any_places : {A : Type 0} (d : A) (p : ℕ × A → Bool) (xs : List A) → list_any p (enumerate_from 0 xs) ≡ any (length xs) (λ i. p (i, get_or xs i d))
list_any_places d p xs =
    list_any_is (0, d) p (enumerate_from 0 xs) ∙ ap (λ (k : ℕ). any k (λ i. p (get_or (enumerate_from 0 xs) i (0, d)))) (length-enumerate_from 0 xs)
    ∙ any_congr (length xs) _ _ (λ i l. ap p (get_or-enumerate_from 0 xs i (0, d) l ∙ ap (λ (k : ℕ). (k, get_or xs i d)) (omega arith)))

-- ---- what an iterator asks of all numbers below n, as a test over them

all_from : (n a : ℕ) (p : ℕ → Bool) → list_all p (range_with_len a n) ≡ all n (λ i. p (a + i))
unfolding all
all_from zero a p = refl
all_from (suc n) a p =
    ap₂ (λ (x : ℕ) (b : Bool). p x && b) (omega arith) (all_from n (a + 1) p ∙ all_congr n _ _ (λ i l. ap p (omega arith))) ∙ sym (all_first n (λ i. p (a + i)))

pub all_range : (n : ℕ) (p : ℕ → Bool) → list_all p (range_with_len 0 n) ≡ all n p
all_range n p = all_from n 0 p ∙ all_congr n _ _ (λ i l. ap p (omega arith))
