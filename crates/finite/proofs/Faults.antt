-- The first fault of a list: this one, past this one, none; and of one list behind another. Assumes nothing.
use mathlib.Core.Path.{◌≡◌, refl, ap, ◌∙◌}
use mathlib.Core.Logic.{◌≢◌, ◌⊎◌, inl, inr, ⊎_elim}
use mathlib.Core.Bool.{Bool, true, false}
use mathlib.Core.List.{List, [], ◌∷◌, ◌++◌}
use Prim.Native.Nat.{ℕ, ◌<◌}
use native.Mathlib.Omega.{arith}
use Rattle.finite.specs.Tests.{pick}
use Rattle.finite.specs.Faults.{first_fault}
use Rattle.finite.proofs.Testing.{pick_true, pick_false}

module _ {A : Type 0} (b : Bool) (a : A) (fs : List (Bool × A)) (good : A) where
  -- this one
  pub fault_here : b ≡ true → first_fault ((b, a) ∷ fs) good ≡ a
  unfolding first_fault
  fault_here e = pick_true b _ _ e

  -- past this one
  pub fault_past : b ≡ false → first_fault ((b, a) ∷ fs) good ≡ first_fault fs good
  unfolding first_fault
  fault_past e = pick_false b _ _ e

-- none
pub fault_none : {A : Type 0} (good : A) → first_fault [] good ≡ good
unfolding first_fault
fault_none good = refl

-- what holds at either outcome of a test holds of the answer
pub fault_either : {A : Type 0} (P : A → Type 0) (b : Bool) (a : A) (fs : List (Bool × A)) (good : A) → (b ≡ true → P a) → (b ≡ false → P (first_fault fs good))
    → P (first_fault ((b, a) ∷ fs) good)
unfolding first_fault
fault_either P true a fs good h g = h refl
fault_either P false a fs good h g = g refl

-- the other way: a test whose own answer does not have what the answer has found no fault
pub fault_passed : {A : Type 0} (P : A → Type 0) (b : Bool) (a : A) (fs : List (Bool × A)) (good : A) → (P a → ⊥) → P (first_fault ((b, a) ∷ fs) good)
    → (b ≡ false) × P (first_fault fs good)
unfolding first_fault
fault_passed P true a fs good n h = absurd (n h)
fault_passed P false a fs good n h = (refl, h)

-- where answers are numbers: a test whose number is not the answer found no fault
pub other_fault : (b : Bool) (r : ℕ) (fs : List (Bool × ℕ)) (good n : ℕ) → r ≢ n → first_fault ((b, r) ∷ fs) good ≡ n → (b ≡ false) × (first_fault fs good ≡ n)
other_fault b r fs good n ne e = fault_passed (λ x. x ≡ n) b r fs good ne e

-- and where the answer is 0, for none
pub no_fault : (b : Bool) (r : ℕ) (fs : List (Bool × ℕ)) → 0 < r → first_fault ((b, r) ∷ fs) 0 ≡ 0 → (b ≡ false) × (first_fault fs 0 ≡ 0)
no_fault b r fs p e = other_fault b r fs 0 0 (λ z. omega arith) e

-- this one or past it
pub fault_cases : {A : Type 0} (b : Bool) (a : A) (fs : List (Bool × A)) (good x : A) → first_fault ((b, a) ∷ fs) good ≡ x
    → ((b ≡ true) × (a ≡ x)) ⊎ ((b ≡ false) × (first_fault fs good ≡ x))
unfolding first_fault
fault_cases true a fs good x e = inl (refl, e)
fault_cases false a fs good x e = inr (refl, e)

-- ---- one list behind another

pub fault_append : {A : Type 0} (fs gs : List (Bool × A)) (good : A) → first_fault (fs ++ gs) good ≡ first_fault fs (first_fault gs good)
unfolding first_fault
fault_append [] gs good = refl
fault_append (f ∷ fs) gs good = ap (pick f.0 f.1) (fault_append fs gs good)

-- a list finds no fault, or it answers the same whatever comes behind it
pub some_or_none : {A : Type 0} (fs : List (Bool × A)) → ((a : A) → first_fault fs a ≡ a) ⊎ ((a b : A) → first_fault fs a ≡ first_fault fs b)
unfolding first_fault
some_or_none [] = inl (λ a. refl)
some_or_none {A = A} (f ∷ fs) = go f.0 f.1 (some_or_none fs)
  where
    go : (t : Bool) (x : A) → ((a : A) → first_fault fs a ≡ a) ⊎ ((a b : A) → first_fault fs a ≡ first_fault fs b)
        → ((a : A) → pick t x (first_fault fs a) ≡ a) ⊎ ((a b : A) → pick t x (first_fault fs a) ≡ pick t x (first_fault fs b))
    go true x h = inr (λ a b. refl)
    go false x h = h

-- a fault of the first stands
pub fault_front : (fs gs : List (Bool × ℕ)) → (first_fault fs 0 ≡ 0 → ⊥) → first_fault (fs ++ gs) 0 ≡ first_fault fs 0
fault_front fs gs n =
    fault_append fs gs 0 ∙ ⊎_elim (λ none. absurd (n (none 0))) (λ same. same (first_fault gs 0) 0) (some_or_none fs)
