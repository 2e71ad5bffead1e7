-- A term put into its place in a list: `insert` of TermList, which moves those behind it one place further; and what the new list is.
use mathlib.Core.Path.{◌≡◌, refl, sym, ap, ap₂, ◌∙◌}
use mathlib.Core.Logic.{◌⊎◌, inl, inr, ⊎_elim}
use mathlib.Core.Bool.{Bool, true, false, cond, not, ◌&&◌, ◌||◌, or_comm, or_assoc, and-or_distrib_left}
use mathlib.Core.List.{List, [], ◌∷◌, ◌++◌, append_assoc}
use Prim.Native.Nat.{ℕ, suc, ◌+◌, ◌-◌, ◌≤◌, ◌<◌}
use native.Mathlib.Nat.{zero-add}
use native.Mathlib.Numerals.{one-add, add-one}
use native.Mathlib.Omega.{arith}
use native.Mathlib.Decide.{dec_lt}
use lib.Dec.{eqb, ltb}
use lib.ListN.{length, get_or, set, take, drop, length-set, length-take}
use lib.Seq.{take-take, take-suc-set, drop-cons, drop-set-lt, take-set-lt, get_or-take, drop-length}
use borrow.Author.Tests.{eqb-true, eq-eqb, lt-ltb, le-ltb}
use Rattle.std.proofs.lemmas.Bool.{cases_Bool, false_from_ne_true, and_from, and_right, or_left, or_right}
use Rattle.std.proofs.Common.{Option, Some, None}
use Rattle.std.proofs.lemmas.List.{length-take-le}
use Rattle.std.proofs.lemmas.List.Sums.{prefix_len-le-length}
use Rattle.std.specs.List.{position, position_or_len}
use Rattle.std.specs.Option.{unwrap_or}
use Rattle.finite.proofs.Testing.{clash, or_false_right}
use Rattle.anf.specs.Terms.{before, passing}
use Rattle.anf.proofs.Order.{before_total, First, Rising, first_trans, member}
use Rattle.anf.proofs.Terms.{unique_members}
use Rattle.anf.proofs.PassingLists.{passing_rising, passing_member}
use Rattle.design.specs.Inside.Inserting.{inserted, inserted_all}

-- the place of a term
place_is : (p : ℕ → Bool) (l : List ℕ) (n : ℕ) → length l ≡ n → unwrap_or (position p l) n ≡ position_or_len p l
place_is p l n e = at (dec_lt (position_or_len p l) (length l))
  where
    at : Dec (position_or_len p l < length l) → unwrap_or (position p l) n ≡ position_or_len p l
    at (yes h) = ap (λ (b : Bool). unwrap_or (cond b (Some (position_or_len p l)) None) n) (lt-ltb (position_or_len p l) (length l) h)
    at (no h) =
        ap (λ (b : Bool). unwrap_or (cond b (Some (position_or_len p l)) None) n) (le-ltb (position_or_len p l) (length l) (omega arith))
        ∙ omega (arith, prefix_len-le-length (λ x. not (p x)) l)

-- i terms of l stand, and t takes the place of the next, which goes on among the others of the first n
abbrev shifted : ℕ → List ℕ → ℕ → ℕ → List ℕ
shifted n l i t = take i l ++ t ∷ drop i (take n l)

shifted_start : (t n k : ℕ) (xs l : List ℕ) (o : Option ℕ) → n ≤ length xs → take n xs ≡ l → o ≡ position (before t) (take n xs) → k ≡ unwrap_or o n
    → (k ≤ n) × (shifted n xs k t ≡ inserted t l)
shifted_start t n k xs l o most e q w =
    let size : length (take n xs) ≡ n = length-take-le n xs most in
    let ke : k ≡ position_or_len (before t) (take n xs) = w ∙ ap (λ (x : Option ℕ). unwrap_or x n) q ∙ place_is (before t) (take n xs) n size in
    let kn : k ≤ n = omega (arith, prefix_len-le-length (λ x. not (before t x)) (take n xs)) in (
      kn,
      ap (λ (a : List ℕ). a ++ t ∷ drop k (take n xs)) (sym (take-take k n xs kn))
          ∙ ap (λ (i : ℕ). take i (take n xs) ++ t ∷ drop i (take n xs)) ke
          ∙ ap (inserted t) e,
    )

shifted_on : (n : ℕ) (l : List ℕ) (i t : ℕ) → i < n → n ≤ length l → shifted n (set l i t) (i + 1) (get_or l i 0) ≡ shifted n l i t
shifted_on n l i t h k =
    let x = get_or l i 0 in
    let size : i < length (take n l) = omega (arith, length-take n l) in
    ap (λ (a : ℕ). take a (set l i t) ++ x ∷ drop a (take n (set l i t))) (add-one i)
    ∙ ap₂ (λ (a b : List ℕ). a ++ x ∷ b)
    (take-suc-set l i t (omega arith))
    (ap (drop (suc i)) (take-set-lt n l i t h) ∙ drop-set-lt (suc i) (take n l) i t (omega arith))
    ∙ append_assoc (take i l) (t ∷ []) (x ∷ drop (suc i) (take n l))
    ∙ sym (ap (λ (a : List ℕ). take i l ++ t ∷ a) (drop-cons (take n l) i 0 size ∙ ap (λ (y : ℕ). y ∷ drop (suc i) (take n l)) (get_or-take n l i 0 h)))

shifted_end : (n : ℕ) (l : List ℕ) (t : ℕ) → n < length l → take (n + 1) (set l n t) ≡ shifted n l n t
shifted_end n l t h =
    let size : length (take n l) ≡ n = length-take-le n l (omega arith) in
    ap (λ (a : ℕ). take a (set l n t)) (add-one n) ∙ take-suc-set l n t h
    ∙ sym (ap (λ (a : List ℕ). take n l ++ t ∷ a) (ap (λ (a : ℕ). drop a (take n l)) (sym size) ∙ drop-length (take n l)))

-- the loop of `insert`, of a list with room for N terms that has n: xs, from place k on with t, is ys now, at place i with u
pub record Moving (N n len end : ℕ) (xs ys : List ℕ) (k i t u : ℕ) : Type 0 where
  pub same : len ≡ n
  pub last : end ≡ n
  pub room : n < N
  pub size : length ys ≡ N
  pub comes : shifted n ys i u ≡ shifted n xs k t

-- a list that has fewer than N terms
fewer : (n N : ℕ) (xs l : List ℕ) → take n xs ≡ l → n ≤ N → length xs ≡ N → length l < N → n < N
fewer n N xs l e most size few = omega (arith, length-take-le n xs (omega arith), ap length e, few)

pub moving_start : (N n k t : ℕ) (xs l : List ℕ) → take n xs ≡ l → n ≤ N → length xs ≡ N → length l < N → Moving N n n n xs xs k k t t
moving_start N n k t xs l e most size few = record { same = refl; last = refl; room = fewer n N xs l e most size few; size = size; comes = refl }

module _ (N n len end : ℕ) (xs ys : List ℕ) (k i t u : ℕ) (m : Moving N n len end xs ys k i t u) where
  pub moving_on : i < n → Moving N n len end xs (set ys i u) k (i + 1) t (get_or ys i 0)
  moving_on h =
      record {
        same = m.same;
        last = m.last;
        room = m.room;
        size = length-set ys i u ∙ m.size;
        comes = shifted_on n ys i u h (omega (arith, m.room, m.size)) ∙ m.comes;
      }

  pub moving_room : len < N
  moving_room = omega (arith, m.same, m.room)

  pub moving_end : (o : Option ℕ) (l : List ℕ) → n ≤ i → i ≤ n → take n xs ≡ l → n ≤ N → length xs ≡ N → o ≡ position (before t) (take n xs) → k ≡ unwrap_or o n
      → take (len + 1) (set ys len u) ≡ inserted t l
  moving_end o l h₀ h₁ e most size q w =
      let i_n : i ≡ n = omega (arith, h₀, h₁) in
      rw m.same (shifted_end n ys u (omega (arith, m.room, m.size)))
      ∙ ap (λ (a : ℕ). shifted n ys a u) (sym i_n) ∙ m.comes
      ∙ (shifted_start t n k xs l o (omega (arith, most, size)) e q w).1

-- ---- a term in its place

-- t stands before x, the first of a list, or behind it
inserted_here : (t x : ℕ) (l : List ℕ) → before t x ≡ true → inserted t (x ∷ l) ≡ t ∷ x ∷ l
inserted_here t x l e = rw e refl

inserted_behind : (t x : ℕ) (l : List ℕ) → before t x ≡ false → inserted t (x ∷ l) ≡ x ∷ inserted t l
inserted_behind t x l e = rw (e, one-add) refl

first_inserted : (x t : ℕ) (l : List ℕ) → before x t ≡ true → First x l → First x (inserted t l)
first_inserted x t [] h f = (h, tt)
first_inserted x t (u ∷ l) h f = at (first_inserted x t l h f.1) (cases_Bool (before t u))
  where
    at : First x (inserted t l) → (before t u ≡ true) ⊎ (before t u ≡ false) → First x (inserted t (u ∷ l))
    at ih (inl e) = rw (inserted_here t u l e) (h, f)
    at ih (inr e) = rw (inserted_behind t u l e) (f.0, ih)

-- a rising list with t in its place rises, where t is none of its terms
rising_inserted : (n t : ℕ) (l : List ℕ) → t < n → Rising n l → member t l ≡ false → Rising n (inserted t l)
rising_inserted n t [] h r m = (h, tt, tt)
rising_inserted n t (u ∷ l) h r m = at (rising_inserted n t l h r.2) (cases_Bool (before t u))
  where
    behind : before t u ≡ false → (before u t ≡ true) ⊎ (before u t ≡ false) → before u t ≡ true
    behind e (inl q) = q
    behind e (inr q) = absurd (clash (or_left (eqb t u) (member t l) (eq-eqb t u (before_total t u e q))) m)

    at : (member t l ≡ false → Rising n (inserted t l)) → (before t u ≡ true) ⊎ (before t u ≡ false) → Rising n (inserted t (u ∷ l))
    at ih (inl e) = rw (inserted_here t u l e) (h, (e, first_trans t u l e r.1), r)
    at ih (inr e) =
        let none : member t l ≡ false = false_from_ne_true (member t l) (λ q. clash (or_right (eqb t u) (member t l) q) m) in
        rw (inserted_behind t u l e) (r.0, first_inserted u t l (behind e (cases_Bool (before u t))) r.1, ih none)

-- its terms are t and those of the list
member_inserted : (u t : ℕ) (l : List ℕ) → member u (inserted t l) ≡ (member u l || eqb u t)
member_inserted u t [] = or_false_right (eqb u t) false refl
member_inserted u t (x ∷ l) = at (member_inserted u t l) (cases_Bool (before t x))
  where
    at : member u (inserted t l) ≡ (member u l || eqb u t) → (before t x ≡ true) ⊎ (before t x ≡ false)
        → member u (inserted t (x ∷ l)) ≡ (member u (x ∷ l) || eqb u t)
    at ih (inl e) = ap (member u) (inserted_here t x l e) ∙ or_comm (eqb u t) (member u (x ∷ l))
    at ih (inr e) = ap (member u) (inserted_behind t x l e) ∙ ap (λ (b : Bool). eqb u x || b) ih ∙ sym (or_assoc (eqb u x) (member u l) (eqb u t))

-- the rising list of a set with t too
pub inserted_passing : (n t : ℕ) (P : ℕ → Bool) → t < n → P t ≡ false → inserted t (passing n P) ≡ passing n (λ q. P q || eqb q t)
inserted_passing n t P l f =
    unique_members n (inserted t (passing n P)) (passing n Q) (rising_inserted n t (passing n P) l (passing_rising n P) none) (passing_rising n Q)
    (λ u. member_inserted u t (passing n P) ∙ ap (λ (b : Bool). b || eqb u t) (passing_member n P u) ∙ with_t u ∙ sym (passing_member n Q u))
  where
    Q : ℕ → Bool
    Q q = P q || eqb q t

    none : member t (passing n P) ≡ false
    none = passing_member n P t ∙ and_right (ltb t n) (P t) f

    within : (u : ℕ) → (eqb u t ≡ true) ⊎ (eqb u t ≡ false) → eqb u t ≡ (ltb u n && eqb u t)
    within u (inl e) = e ∙ sym (and_from _ _ (lt-ltb u n (omega (arith, eqb-true u t e))) e)
    within u (inr e) = e ∙ sym (and_right (ltb u n) (eqb u t) e)

    with_t : (u : ℕ) → ((ltb u n && P u) || eqb u t) ≡ (ltb u n && (P u || eqb u t))
    with_t u = ap (λ (b : Bool). (ltb u n && P u) || b) (within u (cases_Bool (eqb u t))) ∙ sym (and-or_distrib_left (ltb u n) (P u) (eqb u t))

inserted_length : (t : ℕ) (l : List ℕ) → length (inserted t l) ≡ suc (length l)
inserted_length t [] = refl
inserted_length t (x ∷ l) =
    let ih = inserted_length t l in
    ⊎_elim (λ e. ap length (inserted_here t x l e)) (λ e. ap length (inserted_behind t x l e) ∙ ap suc ih) (cases_Bool (before t x))

-- ---- several terms

pub inserted_all_append : (a b l : List ℕ) → inserted_all (a ++ b) l ≡ inserted_all b (inserted_all a l)
unfolding inserted_all
inserted_all_append [] b l = refl
inserted_all_append (t ∷ a) b l = inserted_all_append a b (inserted t l)

pub inserted_one : (t : ℕ) (l : List ℕ) → inserted_all (t ∷ []) l ≡ inserted t l
unfolding inserted_all
inserted_one t l = refl

pub inserted_none : (l : List ℕ) → inserted_all [] l ≡ l
unfolding inserted_all
inserted_none l = refl

pub inserted_all_length : (ts l : List ℕ) → length (inserted_all ts l) ≡ length ts + length l
unfolding inserted_all
inserted_all_length [] l = sym (zero-add (length l))
inserted_all_length (t ∷ ts) l = inserted_all_length ts (inserted t l) ∙ omega (arith, inserted_length t l)
