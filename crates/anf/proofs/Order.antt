-- The order of terms, and the lists that rise in it. Of the laws of lists the first four alone open `before`: all else holds of any strict total order in which
-- no subset of a term stands behind it. `PassingLists` opens it too, for the one list that a definition gives.
use mathlib.Core.Path.{◌≡◌, refl, sym, ap, ◌∙◌}
use mathlib.Core.Bool.{Bool, true, false, ◌||◌, or_assoc}
use mathlib.Core.List.{List, [], ◌∷◌, ◌++◌}
use Prim.Native.Nat.{ℕ, zero, suc, ◌^◌, ◌<◌}
use native.Mathlib.Nat.{not-suc-le-zero, le_of_suc-le-suc}
use native.Mathlib.Numerals.{add-one}
use native.Mathlib.Omega.{arith}
use lib.Dec.{eqb}
use lib.ListN.{length, get_or}
use borrow.Author.Tests.{ne_eqb, ltb-true, ltb-false, lt-ltb, le-ltb}
use Rattle.finite.specs.Sets.{subset}
use Rattle.finite.proofs.Testing.{clash}
use Rattle.std.proofs.lemmas.Bool.{or_from}
use Rattle.finite.proofs.Subsets.{subset_gt}
use Rattle.anf.specs.Terms.{before, IsTermList}

-- ---- the order

pub before_self : (a : ℕ) → before a a ≡ false
unfolding before
before_self a = le-ltb a a (omega arith)

pub before_trans : (a b c : ℕ) → before a b ≡ true → before b c ≡ true → before a c ≡ true
unfolding before
before_trans a b c p q = lt-ltb a c (omega (arith, ltb-true a b p, ltb-true b c q))

pub before_total : (a b : ℕ) → before a b ≡ false → before b a ≡ false → a ≡ b
unfolding before
before_total a b p q = omega (arith, ltb-false a b p, ltb-false b a q)

-- what stands behind a term is no subset of it
pub before_subset : (a b : ℕ) → before a b ≡ true → subset b a ≡ false
unfolding before
before_subset a b p = subset_gt b a (ltb-true a b p)

-- ---- lists that rise

-- t stands before each term of a list
abbrev pub First : ℕ → List ℕ → Type 0
First t [] = Unit
First t (u ∷ l) = (before t u ≡ true) × First t l

-- each term stands before those that follow it, and all are below n
abbrev pub Rising : ℕ → List ℕ → Type 0
Rising n [] = Unit
Rising n (t ∷ l) = (t < n) × First t l × Rising n l

pub first_trans : (s t : ℕ) (l : List ℕ) → before s t ≡ true → First t l → First s l
first_trans s t [] b f = tt
first_trans s t (u ∷ l) b f = (before_trans s t u b f.0, first_trans s t l b f.1)

pub first_append : (t : ℕ) (a b : List ℕ) → First t a → First t b → First t (a ++ b)
first_append t [] b fa fb = fb
first_append t (u ∷ a) b fa fb = (fa.0, first_append t a b fa.1 fb)

rising_below : (n : ℕ) (l : List ℕ) → Rising n l → (j : ℕ) → j < length l → get_or l j 0 < n
rising_below n [] r j h = absurd (not-suc-le-zero h)
rising_below n (t ∷ l) r zero h = r.0
rising_below n (t ∷ l) r (suc j) h = rising_below n l r.2 j (le_of_suc-le-suc h)

rising_next : (n : ℕ) (l : List ℕ) → Rising n l → (j : ℕ) → suc j < length l → before (get_or l j 0) (get_or l (suc j) 0) ≡ true
rising_next n [] r j h = absurd (omega arith)
rising_next n (t ∷ []) r j h = absurd (omega arith)
rising_next n (t ∷ u ∷ l) r zero h = r.1.0
rising_next n (t ∷ u ∷ l) r (suc j) h = rising_next n (u ∷ l) r.2 j (omega arith)

next_first : (n t : ℕ) (l : List ℕ) → Rising n l → (0 < length l → before t (get_or l 0 0) ≡ true) → First t l
next_first n t [] r h = tt
next_first n t (u ∷ l) r h = let b = h (omega arith) in (b, first_trans t u l b r.1)

next_rising : (n : ℕ) (l : List ℕ) → ((j : ℕ) → j < length l → get_or l j 0 < n)
    → ((j : ℕ) → suc j < length l → before (get_or l j 0) (get_or l (suc j) 0) ≡ true) → Rising n l
next_rising n [] b c = tt
next_rising n (t ∷ l) b c =
    let r : Rising n l = next_rising n l (λ j h. b (suc j) (omega arith)) (λ j h. c (suc j) (omega arith)) in
    (b 0 (omega arith), next_first n t l r (λ h. c 0 (omega arith)), r)

pub rising_terms : (n : ℕ) (l : List ℕ) → Rising (2 ^ n) l → IsTermList n l
rising_terms n l r = record { below = rising_below (2 ^ n) l r; rising = λ j h. rw add-one (rising_next (2 ^ n) l r j (omega arith)) }

pub terms_rising : (n : ℕ) (l : List ℕ) → IsTermList n l → Rising (2 ^ n) l
terms_rising n l t = next_rising (2 ^ n) l t.below (λ j h. rw add-one at (t.rising j (omega arith)))

-- ---- the members of a list

abbrev pub member : ℕ → List ℕ → Bool
member u [] = false
member u (t ∷ l) = eqb u t || member u l

pub member_append : (u : ℕ) (a b : List ℕ) → member u (a ++ b) ≡ (member u a || member u b)
member_append u [] b = refl
member_append u (t ∷ a) b = ap (λ (x : Bool). eqb u t || x) (member_append u a b) ∙ sym (or_assoc (eqb u t) (member u a) (member u b))

-- what stands before each term of a list is none of them
pub first_apart : (t : ℕ) (l : List ℕ) → First t l → member t l ≡ false
first_apart t [] f = refl
first_apart t (u ∷ l) f = or_from _ _ (ne_eqb t u (λ e. clash f.0 (ap (before t) (sym e) ∙ before_self t))) (first_apart t l f.1)
