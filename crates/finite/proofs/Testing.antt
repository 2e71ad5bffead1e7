-- Laws of the tests over numbers below n, of the lowest that passes, and of tabulated lists.
-- Assumes nothing.
use mathlib.Core.Path.{◌≡◌, refl, sym, ap, ap₂, ◌∙◌}
use mathlib.Core.Logic.{◌⊎◌, inl, inr, ⊎_elim}
use mathlib.Core.Bool.{Bool, true, false, ◌&&◌, ◌||◌, true≢false, false≢true, not}
use mathlib.Core.List.{List, [], ◌∷◌, ◌++◌, map, append_assoc, append-nil}
use Prim.Native.Nat.{ℕ, zero, suc, ◌+◌, ◌≤◌, ◌<◌}
use native.Mathlib.Nat.{add-zero, le_of_suc-le-suc, not-suc-le-zero, le_refl, le_step, eq-or-lt_of_le}
use native.Mathlib.Numerals.{add-one}
use native.Mathlib.Omega.{arith}
use lib.Dec.{eqb, ltb}
use borrow.Author.Tests.{eqb-true}
use lib.ListN.{length, get_or, drop, set, length-map, get_or-map}
use lib.Seq.{set_at, drop-cons, ext_get_or}
use Rattle.std.proofs.lemmas.Bool.{cases_Bool, false_from_ne_true, and_from, and_parts, or_left, or_right, or_parts, or_from, or_cases}
use Rattle.std.proofs.lemmas.Bool.Decides.{nat_tests}
use Rattle.finite.specs.Tests.{pick, implies, all, any, first, tried, tabulate}

-- ---- Bool

pub true_or_not : (b : Bool) → (b ≡ true) ⊎ (b ≡ true → ⊥)
true_or_not true = inl refl
true_or_not false = inr (λ e. false≢true e)

pub clash : {b : Bool} → b ≡ true → b ≡ false → ⊥
clash p q = true≢false (sym p ∙ q)

-- two tests that pass at the same places are equal tests
pub bool_ext : (a b : Bool) → (a ≡ true → b ≡ true) → (b ≡ true → a ≡ true) → a ≡ b
bool_ext true b f g = sym (f refl)
bool_ext false true f g = g refl
bool_ext false false f g = refl

pub and_pairs : (a b c d : Bool) → ((a && b) && (c && d)) ≡ ((a && c) && (b && d))
and_pairs true true c d = refl
and_pairs true false true d = refl
and_pairs true false false d = refl
and_pairs false b c d = refl

pub or_false_right : (a b : Bool) → b ≡ false → (a || b) ≡ a
or_false_right true b e = refl
or_false_right false b e = e

pub implies_at : (a b : Bool) → implies a b ≡ true → a ≡ true → b ≡ true
implies_at true b e t = e
implies_at false b e t = absurd (false≢true t)

pub implies_intro : (a b : Bool) → (a ≡ true → b ≡ true) → implies a b ≡ true
implies_intro true b f = f refl
implies_intro false b f = refl

pub pick_true : {A : Type 0} (b : Bool) (x y : A) → b ≡ true → pick b x y ≡ x
pick_true true x y e = refl
pick_true false x y e = absurd (false≢true e)

pub pick_false : {A : Type 0} (b : Bool) (x y : A) → b ≡ false → pick b x y ≡ y
pick_false true x y e = absurd (true≢false e)
pick_false false x y e = refl

pub pick_twice : {A : Type 0} (b : Bool) (x y z : A) → pick b (pick b x y) z ≡ pick b x z
pick_twice true x y z = refl
pick_twice false x y z = refl

pub pick_not : {A : Type 0} (b : Bool) (x y : A) → pick (not b) x y ≡ pick b y x
pick_not true x y = refl
pick_not false x y = refl

-- where the answer is 0, the test is known by the number that it did not give
pub pick_passed : (b : Bool) (r : ℕ) → 0 < r → pick b 0 r ≡ 0 → b ≡ true
pick_passed true r p e = refl
pick_passed false r p e = absurd (omega arith)

pub pick_missed : (b : Bool) (r : ℕ) → 0 < r → pick b r 0 ≡ 0 → b ≡ false
pick_missed true r p e = absurd (omega arith)
pick_missed false r p e = refl

-- an answer that is picked by whether a number is 0, and that has the number either way
pub pick_number : {A : Type 0} (number : A → ℕ) (n : ℕ) (a b : A) → number a ≡ 0 → number b ≡ n → number (pick (eqb n 0) a b) ≡ n
pick_number {A} number n a b ea eb = go (eqb n 0) refl
  where
    go : (t : Bool) → eqb n 0 ≡ t → number (pick t a b) ≡ n
    go true e = ea ∙ sym (eqb-true n 0 e)
    go false e = eb

-- ---- all and any. i < suc n is n itself or below n.

pub below : {A : Type 0} {i n : ℕ} → i < suc n → (i ≡ n → A) → (i < n → A) → A
below l f g = ⊎_elim f g (eq-or-lt_of_le (le_of_suc-le-suc l))

pub all_at : (n : ℕ) (p : ℕ → Bool) → all n p ≡ true → (i : ℕ) → i < n → p i ≡ true
unfolding all
all_at zero p e i l = absurd (not-suc-le-zero l)
all_at (suc n) p e i l =
    below l (λ q. ap p q ∙ (and_parts (all n p) (p n) e).1) (λ b. all_at n p (and_parts (all n p) (p n) e).0 i b)

pub all_intro : (n : ℕ) (p : ℕ → Bool) → ((i : ℕ) → i < n → p i ≡ true) → all n p ≡ true
unfolding all
all_intro zero p h = refl
all_intro (suc n) p h = and_from _ _ (all_intro n p (λ i l. h i (le_step l))) (h n (le_refl (suc n)))

pub all_fails : (n : ℕ) (p : ℕ → Bool) (i : ℕ) → i < n → p i ≡ false → all n p ≡ false
all_fails n p i l e = false_from_ne_true (all n p) (λ a. clash (all_at n p a i l) e)

-- where a test fails, it fails somewhere first
pub all_not : (n : ℕ) (p : ℕ → Bool) → all n p ≡ false → (i : ℕ) × (i < n) × (all i p ≡ true) × (p i ≡ false)
unfolding all
all_not zero p e = absurd (true≢false e)
all_not (suc n) p e = go (all n p) refl e (all_not n p)
  where
    go : (b : Bool) → all n p ≡ b → (b && p n) ≡ false → (all n p ≡ false → (i : ℕ) × (i < n) × (all i p ≡ true) × (p i ≡ false))
        → (i : ℕ) × (i < suc n) × (all i p ≡ true) × (p i ≡ false)
    go true a e ih = (n, le_refl (suc n), a, e)
    go false a e ih = let r = ih a in (r.0, le_step r.1, r.2, r.3)

pub all_congr : (n : ℕ) (p q : ℕ → Bool) → ((i : ℕ) → i < n → p i ≡ q i) → all n p ≡ all n q
unfolding all
all_congr zero p q h = refl
all_congr (suc n) p q h = ap₂ ◌&&◌ (all_congr n p q (λ i l. h i (le_step l))) (h n (le_refl (suc n)))

pub all_and : (n : ℕ) (p q : ℕ → Bool) → all n (λ i. p i && q i) ≡ (all n p && all n q)
all_and n p q =
    bool_ext _ _
    (λ e. and_from _ _ (all_intro n p (λ i l. (and_parts (p i) (q i) (all_at n _ e i l)).0)) (all_intro n q (λ i l. (and_parts (p i) (q i) (all_at n _ e i l)).1)))
    (λ e. all_intro n _ (λ i l. and_from _ _ (all_at n p (and_parts (all n p) (all n q) e).0 i l) (all_at n q (and_parts (all n p) (all n q) e).1 i l)))

pub ltb_suc : (u n : ℕ) → ltb u (suc n) ≡ (ltb u n || eqb u n)
ltb_suc u n = grind (arith, nat_tests)

-- one more number, as code counts
pub all_step : (n : ℕ) (p : ℕ → Bool) → all (n + 1) p ≡ (all n p && p n)
unfolding all
all_step n p = rw add-one refl

pub any_at : (n : ℕ) (p : ℕ → Bool) (i : ℕ) → i < n → p i ≡ true → any n p ≡ true
unfolding any
any_at zero p i l e = absurd (not-suc-le-zero l)
any_at (suc n) p i l e =
    below l (λ q. or_right (any n p) (p n) (ap p (sym q) ∙ e)) (λ b. or_left (any n p) (p n) (any_at n p i b e))

pub any_some : (n : ℕ) (p : ℕ → Bool) → any n p ≡ true → (i : ℕ) × (i < n) × (p i ≡ true)
unfolding any
any_some zero p e = absurd (false≢true e)
any_some (suc n) p e =
    ⊎_elim (λ a. let r = any_some n p a in (r.0, le_step r.1, r.2)) (λ h. (n, le_refl (suc n), h)) (or_cases (any n p) (p n) e)

pub any_none : (n : ℕ) (p : ℕ → Bool) → any n p ≡ false → (i : ℕ) → i < n → p i ≡ false
any_none n p e i l = false_from_ne_true (p i) (λ h. clash (any_at n p i l h) e)

pub none_any : (n : ℕ) (p : ℕ → Bool) → ((i : ℕ) → i < n → p i ≡ false) → any n p ≡ false
none_any n p h = false_from_ne_true (any n p) (λ e. let r = any_some n p e in clash r.2 (h r.0 r.1))

pub any_congr : (n : ℕ) (p q : ℕ → Bool) → ((i : ℕ) → i < n → p i ≡ q i) → any n p ≡ any n q
unfolding any
any_congr zero p q h = refl
any_congr (suc n) p q h = ap₂ ◌||◌ (any_congr n p q (λ i l. h i (le_step l))) (h n (le_refl (suc n)))

pub any_step : (n : ℕ) (p : ℕ → Bool) → any (n + 1) p ≡ (any n p || p n)
unfolding any
any_step n p = rw add-one refl

pub any_none_more : (n : ℕ) (p : ℕ → Bool) → any n p ≡ false → p n ≡ false → any (n + 1) p ≡ false
any_none_more n p a h = any_step n p ∙ or_from _ _ a h

not_and : (a b : Bool) → not (a && b) ≡ (not a || not b)
not_and true b = refl
not_and false b = refl

-- a test fails somewhere exactly where it does not pass everywhere
pub any_not : (n : ℕ) (p : ℕ → Bool) → any n (λ i. not (p i)) ≡ not (all n p)
unfolding any all
any_not zero p = refl
any_not (suc n) p = ap (λ (b : Bool). b || not (p n)) (any_not n p) ∙ sym (not_and (all n p) (p n))

-- ---- the lowest that passes

pub first_found : (n : ℕ) (p : ℕ → Bool) (j : ℕ) → j < n → any j p ≡ false → p j ≡ true → first n p ≡ j
unfolding first
first_found zero p j l a h = absurd (not-suc-le-zero l)
first_found (suc n) p j l a h =
    below l
    (λ e. let a' : any n p ≡ false = rw e at a in let h' : p n ≡ true = rw e at h in rw (a', h') (sym e))
    (λ k. rw (any_at n p j k h) (first_found n p j k a h))

pub first_none : (n : ℕ) (p : ℕ → Bool) → any n p ≡ false → first n p ≡ n
unfolding first any
first_none zero p h = refl
first_none (suc n) p h = let q = or_parts (any n p) (p n) h in rw (q.0, q.1) refl

-- where some number passes, the lowest passes and none below it does
pub first_is : (n : ℕ) (p : ℕ → Bool) → any n p ≡ true → (first n p < n) × (p (first n p) ≡ true) × (any (first n p) p ≡ false)
unfolding any first
first_is zero p e = absurd (false≢true e)
first_is (suc n) p e = go (first_is n p) (any n p) refl (p n) refl e
  where
    go : (any n p ≡ true → (first n p < n) × (p (first n p) ≡ true) × (any (first n p) p ≡ false)) → (a : Bool) → any n p ≡ a → (b : Bool) → p n ≡ b → (a || b) ≡ true
        → (first (suc n) p < suc n) × (p (first (suc n) p) ≡ true) × (any (first (suc n) p) p ≡ false)
    go ih true ea b eb k = rw ea (let r = ih ea in (le_step r.0, r.1, r.2))
    go ih false ea true eb k = rw (ea, eb) (le_refl (suc n), eb, ea)
    go ih false ea false eb k = absurd (false≢true k)

-- ---- how many are tried

module _ (n : ℕ) (p : ℕ → Bool) where
  pub tried_to : (j : ℕ) → j < n → any j p ≡ false → p j ≡ true → tried n p ≡ j + 1
  unfolding tried
  tried_to j l a h = pick_true _ _ _ (any_at n p j l h) ∙ ap (λ (x : ℕ). x + 1) (first_found n p j l a h)

  pub tried_all : any n p ≡ false → tried n p ≡ n
  unfolding tried
  tried_all e = pick_false _ _ _ e

  pub tried_most : tried n p ≤ n
  tried_most =
      ⊎_elim
      (λ e. let w = first_is n p e in omega (arith, tried_to (first n p) w.0 w.2 w.1, w.0))
      (λ e. omega (arith, tried_all e))
      (cases_Bool (any n p))

-- ---- tabulated lists

pub tabulate_length : {A : Type 0} (n : ℕ) (g : ℕ → A) → length (tabulate n g) ≡ n
unfolding tabulate
tabulate_length zero g = refl
tabulate_length (suc n) g = ap suc (tabulate_length n (λ i. g (suc i)))

pub tabulate_at : {A : Type 0} (n : ℕ) (g : ℕ → A) (i : ℕ) (z : A) → i < n → get_or (tabulate n g) i z ≡ g i
unfolding tabulate
tabulate_at zero g i z l = absurd (not-suc-le-zero l)
tabulate_at (suc n) g zero z l = refl
tabulate_at (suc n) g (suc i) z l = tabulate_at n (λ k. g (suc k)) i z (le_of_suc-le-suc l)

pub tabulate_of : {A : Type 0} (xs : List A) (n : ℕ) (g : ℕ → A) (d : A) → length xs ≡ n → ((i : ℕ) → i < n → g i ≡ get_or xs i d) → tabulate n g ≡ xs
tabulate_of xs n g d l e =
    ext_get_or d (tabulate n g) xs (tabulate_length n g ∙ sym l)
    (λ i h. let q : i < n = rw tabulate_length at h in tabulate_at n g i d q ∙ e i q)

pub tabulate_congr : {A : Type 0} (n : ℕ) (f g : ℕ → A) → ((i : ℕ) → i < n → f i ≡ g i) → tabulate n f ≡ tabulate n g
unfolding tabulate
tabulate_congr zero f g h = refl
tabulate_congr (suc n) f g h = ap₂ ◌∷◌ (h 0 (omega arith)) (tabulate_congr n (λ i. f (suc i)) (λ i. g (suc i)) (λ i l. h (suc i) (omega arith)))

-- a list of what k makes of each entry
pub map_is : {A : Type 0} {B : Type 0} (k : A → B) (xs : List A) (n : ℕ) (d : A) → length xs ≡ n → map k xs ≡ tabulate n (λ i. k (get_or xs i d))
map_is k xs n d e = sym (tabulate_of (map k xs) n (λ i. k (get_or xs i d)) (k d) (length-map xs k ∙ e) (λ i l. sym (get_or-map k xs i d)))

-- the last one, apart
pub tabulate_last : {A : Type 0} (n : ℕ) (g : ℕ → A) → tabulate (suc n) g ≡ tabulate n g ++ (g n ∷ [])
unfolding tabulate
tabulate_last zero g = refl
tabulate_last (suc n) g = ap (λ (l : List _). g 0 ∷ l) (tabulate_last n (λ i. g (suc i)))

-- in two parts
pub tabulate_add : {A : Type 0} (n k : ℕ) (g : ℕ → A) → tabulate (n + k) g ≡ tabulate n g ++ tabulate k (λ i. g (n + i))
tabulate_add n zero g = unfold tabulate in rw add-zero (sym (append-nil (tabulate n g)))
tabulate_add n (suc k) g =
    let e : n + suc k ≡ suc (n + k) = omega arith in
    rw e (tabulate_last (n + k) g ∙ ap (λ (l : List _). l ++ (g (n + k) ∷ [])) (tabulate_add n k g)
    ∙ append_assoc (tabulate n g) _ (g (n + k) ∷ []) ∙ ap (λ (l : List _). tabulate n g ++ l) (sym (tabulate_last k (λ i. g (n + i)))))

-- a store at the next place
pub tabulate_more : (n : ℕ) (g : ℕ → ℕ) (d : List ℕ) → n < length d
    → set (tabulate n g ++ drop n d) n (g n) ≡ tabulate (n + 1) g ++ drop (n + 1) d
tabulate_more n g d l =
    rw (add-one, drop-cons d n 0)
    (set_at (tabulate n g) _ (drop (suc n) d) (g n) n (tabulate_length n g)
    ∙ sym (append_assoc (tabulate n g) (g n ∷ []) (drop (suc n) d))
    ∙ ap (λ (t : List ℕ). t ++ drop (suc n) d) (sym (tabulate_last n g)))
