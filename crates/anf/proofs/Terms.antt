-- Lists of terms. At its first term a rising list has the value 1, as no term behind it is a subset of it; so the values tell the list, and the first term that
-- names a variable of a group shows that the value depends on it.
use mathlib.Core.Path.{◌≡◌, refl, sym, ap, ap₂, ◌∙◌}
use mathlib.Core.Logic.{◌≢◌, ◌⊎◌, inl, inr}
use mathlib.Core.Bool.{Bool, true, false, false≢true, not, ◌||◌}
use mathlib.Core.List.{List, [], ◌∷◌}
use Prim.Native.Nat.{ℕ, ◌+◌, ◌^◌, ◌<◌}
use native.Mathlib.Omega.{arith}
use lib.Dec.{eqb}
use lib.Bits.{bit_and, bit_or, bit_xor, xor_zero_r, xor_lt, and_comm, and_self, and_le_r, or_zero_l, or_add_and, xor_comm, xor_add_and}
use borrow.Author.Tests.{eqb-true, eqb-false, eq-eqb, ne_eqb}
use Rattle.finite.specs.Tests.{pick, bit}
use Rattle.finite.specs.Sums.{xor_below}
use Rattle.finite.specs.Sets.{subset}
use Rattle.finite.proofs.Testing.{clash}
use Rattle.std.proofs.lemmas.Bool.{cases_Bool}
use Rattle.std.proofs.lemmas.Nat.{and_assoc}
use Rattle.finite.proofs.Xor.{xor_left_comm, xor_left_cancel, xor_ring, and_xor, and_or, xor_and}
use Rattle.finite.proofs.Sums.{xor_below_ext, xor_below_xor, xor_below_none, xor_below_one, pick_lt, pick_zero}
use Rattle.finite.proofs.Subsets.{eq_subset, subset_self, subset_gt, subset_trans, subset_iff}
use Rattle.anf.specs.Terms.{value_at, before, IsTermList, named, names, clear, Depends}
use Rattle.anf.proofs.Order.{before_subset, before_total, First, Rising, first_trans, terms_rising, member, first_apart}

-- ---- values

pub value_at_lt : (l : List ℕ) (x : ℕ) → value_at l x < 2
unfolding value_at
value_at_lt [] x = omega arith
value_at_lt (t ∷ l) x = xor_lt 1 (pick (subset t x) 1 0) (value_at l x) (pick_lt (subset t x) 1 1 (omega arith)) (value_at_lt l x)

-- terms behind t count nothing at a subset of t
pub value_at_behind : (t x : ℕ) (l : List ℕ) → First t l → subset x t ≡ true → value_at l x ≡ 0
unfolding value_at
value_at_behind t x [] f h = refl
value_at_behind t x (u ∷ l) f h = rw (none (subset u x) refl, value_at_behind t x l f.1 h) refl
  where
    none : (c : Bool) → subset u x ≡ c → c ≡ false
    none true e = absurd (clash (subset_trans u x t e h) (before_subset t u f.0))
    none false e = refl

-- at its first term a list has the value 1
pub value_at_first : (t : ℕ) (l : List ℕ) → First t l → value_at (t ∷ l) t ≡ 1
unfolding value_at
value_at_first t l f = rw (subset_self t, value_at_behind t t l f (subset_self t)) refl

pub unique_rising : (n : ℕ) (a b : List ℕ) → Rising n a → Rising n b → ((x : ℕ) → x < n → value_at a x ≡ value_at b x) → a ≡ b
unfolding value_at
unique_rising n [] [] ra rb h = refl
unique_rising n [] (t ∷ b) ra rb h = absurd (omega (arith, h t rb.0, value_at_first t b rb.1))
unique_rising n (s ∷ a) [] ra rb h = absurd (omega (arith, h s ra.0, value_at_first s a ra.1))
unique_rising n (s ∷ a) (t ∷ b) ra rb h = go (unique_rising n a b ra.2 rb.2) (cases_Bool (before s t)) (cases_Bool (before t s))
  where
    go : (((x : ℕ) → x < n → value_at a x ≡ value_at b x) → a ≡ b) → (before s t ≡ true) ⊎ (before s t ≡ false) → (before t s ≡ true) ⊎ (before t s ≡ false)
        → s ∷ a ≡ t ∷ b
    go ih (inl p) q =
        absurd (omega (arith, h s ra.0, value_at_first s a ra.1, value_at_behind s s (t ∷ b) (p, first_trans s t b p rb.1) (subset_self s)))
    go ih (inr p) (inl q) =
        absurd (omega (arith, h t rb.0, value_at_first t b rb.1, value_at_behind t t (s ∷ a) (q, first_trans t s a q ra.1) (subset_self t)))
    go ih (inr p) (inr q) =
        let e : t ≡ s = sym (before_total s t p q) in
        rw e (ap {B = List ℕ} (λ r. s ∷ r) (ih (λ x k. xor_left_cancel (pick (subset s x) 1 0) (value_at a x) (value_at b x) (rw e at (h x k)))))

-- one more member
with_value : (t u x : ℕ) (l : List ℕ) → First t l
    → pick (subset u x) (bit (member u (t ∷ l))) 0 ≡ bit_xor (pick (eqb u t) (pick (subset t x) 1 0) 0) (pick (subset u x) (bit (member u l)) 0)
with_value t u x l f = go (eqb u t) refl
  where
    go : (c : Bool) → eqb u t ≡ c → pick (subset u x) (bit (c || member u l)) 0 ≡ bit_xor (pick c (pick (subset t x) 1 0) 0) (pick (subset u x) (bit (member u l)) 0)
    go true k =
        let z : member u l ≡ false = ap (λ (y : ℕ). member y l) (eqb-true u t k) ∙ first_apart t l f in
        ap (λ (y : ℕ). pick (subset y x) 1 0) (eqb-true u t k)
        ∙ sym (xor_zero_r (pick (subset t x) 1 0))
        ∙ ap (bit_xor (pick (subset t x) 1 0)) (sym (ap (λ (b : Bool). pick (subset u x) (bit b) 0) z ∙ pick_zero (subset u x)))
    go false k = refl

-- the value of a rising list is the sum of its members
pub rising_value : (n : ℕ) (l : List ℕ) (x : ℕ) → Rising n l → value_at l x ≡ xor_below n (λ u. pick (subset u x) (bit (member u l)) 0)
unfolding value_at
rising_value n [] x r = sym (xor_below_none n (λ u. pick (subset u x) 0 0) (λ i h. pick_zero (subset i x)))
rising_value n (t ∷ l) x r =
    ap (bit_xor (pick (subset t x) 1 0)) (rising_value n l x r.2) ∙ sym (
    xor_below_ext n (λ u. pick (subset u x) (bit (member u (t ∷ l))) 0)
    (λ u. bit_xor (pick (eqb u t) (pick (subset t x) 1 0) 0) (pick (subset u x) (bit (member u l)) 0)) (λ u h. with_value t u x l r.1)
    ∙ xor_below_xor n (λ u. pick (eqb u t) (pick (subset t x) 1 0) 0) (λ u. pick (subset u x) (bit (member u l)) 0)
    ∙ ap (λ (y : ℕ). bit_xor y (xor_below n (λ u. pick (subset u x) (bit (member u l)) 0)))
    (xor_below_one n t (λ u. pick (eqb u t) (pick (subset t x) 1 0) 0) r.0 (λ i h d. ap (λ (b : Bool). pick b (pick (subset t x) 1 0) 0) (ne_eqb i t d))
    ∙ ap (λ (b : Bool). pick b (pick (subset t x) 1 0) 0) (eq-eqb t t refl)))

-- so rising lists with the same members are equal
pub unique_members : (n : ℕ) (a b : List ℕ) → Rising n a → Rising n b → ((u : ℕ) → member u a ≡ member u b) → a ≡ b
unique_members n a b ra rb h =
    unique_rising n a b ra rb (λ x k.
    rising_value n a x ra
    ∙ xor_below_ext n (λ u. pick (subset u x) (bit (member u a)) 0) (λ u. pick (subset u x) (bit (member u b)) 0)
    (λ u l. ap (λ (c : Bool). pick (subset u x) (bit c) 0) (h u))
    ∙ sym (rising_value n b x rb))

-- rising lists with equal values at all points are equal
pub unique_terms : (n : ℕ) (a b : List ℕ) → IsTermList n a → IsTermList n b → ((x : ℕ) → x < 2 ^ n → value_at a x ≡ value_at b x) → a ≡ b
unique_terms n a b ta tb h = unique_rising (2 ^ n) a b (terms_rising n a ta) (terms_rising n b tb) h

-- ---- dependence on the variables of a group

pub clear_add : (x group : ℕ) → clear x group + bit_and x group ≡ x
clear_add x group =
    let e : bit_and x (bit_and x group) ≡ bit_and x group = sym (and_assoc group x x) ∙ ap (λ (y : ℕ). bit_and y group) (and_self x) in
    omega (arith, xor_add_and x (bit_and x group), e)

pub and_clear : (t x group : ℕ) → bit_and t group ≡ 0 → bit_and t (clear x group) ≡ bit_and t x
and_clear t x group h =
    and_xor t x (bit_and x group)
    ∙ ap (bit_xor (bit_and t x)) (ap (bit_and t) (and_comm x group) ∙ sym (and_assoc x t group) ∙ ap (λ (y : ℕ). bit_and y x) h)
    ∙ xor_zero_r (bit_and t x)

pub subset_clear : (t x group : ℕ) → bit_and t group ≡ 0 → subset t (clear x group) ≡ subset t x
subset_clear t x group h = subset_iff t (clear x group) t x (λ e. sym (and_clear t x group h) ∙ e) (λ e. and_clear t x group h ∙ e)

pub value_at_clear : (group : ℕ) (l : List ℕ) → names group l ≡ false → (x : ℕ) → value_at l (clear x group) ≡ value_at l x
unfolding value_at names
value_at_clear group [] h x = refl
value_at_clear group (t ∷ l) h x = go (value_at_clear group l) (eqb (bit_and t group) 0) refl h
  where
    go : (names group l ≡ false → (x : ℕ) → value_at l (clear x group) ≡ value_at l x) → (b : Bool) → eqb (bit_and t group) 0 ≡ b → (not b || names group l) ≡ false
        → value_at (t ∷ l) (clear x group) ≡ value_at (t ∷ l) x
    go ih true e k = rw (subset_clear t x group (eqb-true (bit_and t group) 0 e), ih k x)
    go ih false e k = cc

pub independent : (group : ℕ) (l : List ℕ) → names group l ≡ false → (x y : ℕ) → clear x group ≡ clear y group → value_at l x ≡ value_at l y
independent group l h x y e = sym (value_at_clear group l h x) ∙ ap (value_at l) e ∙ value_at_clear group l h y

-- changing variables of the group alone
pub clear_xor : (x d group : ℕ) → bit_and d group ≡ d → clear (bit_xor x d) group ≡ clear x group
clear_xor x d group h = rw (xor_and, h) (simp xor_ring)

clear_subset : (x group : ℕ) → subset (clear x group) x ≡ true
clear_subset x group =
    eq_subset (clear x group) x
    (xor_and x (bit_and x group) x ∙ ap₂ bit_xor (and_self x) (and_comm (bit_and x group) x ∙ sym (and_assoc group x x) ∙ ap (λ (y : ℕ). bit_and y group) (and_self x)))

pub names_flip : (group n : ℕ) (l : List ℕ) → Rising n l → names group l ≡ true
    → (x : ℕ) × (x < n) × (value_at l x ≡ bit_xor 1 (value_at l (clear x group)))
unfolding value_at names
names_flip group n [] r h = absurd (false≢true h)
names_flip group n (t ∷ l) r h = go (names_flip group n l r.2) (eqb (bit_and t group) 0) refl h
  where
    go : (names group l ≡ true → (x : ℕ) × (x < n) × (value_at l x ≡ bit_xor 1 (value_at l (clear x group))))
        → (b : Bool) → eqb (bit_and t group) 0 ≡ b → (not b || names group l) ≡ true
        → (x : ℕ) × (x < n) × (value_at (t ∷ l) x ≡ bit_xor 1 (value_at (t ∷ l) (clear x group)))
    go ih true e k =
        let w = ih k in
        (w.0, w.1, rw (subset_clear t w.0 group (eqb-true (bit_and t group) 0 e), w.2) (xor_left_comm (pick (subset t w.0) 1 0) 1 (value_at l (clear w.0 group))))
    go ih false e k =
        let ne : bit_and t group ≢ 0 = eqb-false (bit_and t group) 0 e in
        let lt : clear t group < t = omega (arith, clear_add t group) in
        (t, r.0, value_at_first t l r.1 ∙ rw (subset_gt t (clear t group) lt, value_at_behind t (clear t group) l r.1 (clear_subset t group)))

pub names_differ : (group n : ℕ) (l : List ℕ) → Rising n l → names group l ≡ true → (x : ℕ) × (x < n) × (value_at l x ≢ value_at l (clear x group))
names_differ group n l r h =
    let w = names_flip group n l r h in
    let v = value_at l (clear w.0 group) in
    (w.0, w.1, λ e. let z : ◌≡◌ {A = ℕ} 1 0 = xor_left_cancel v 1 0 (xor_comm v 1 ∙ sym w.2 ∙ e ∙ sym (xor_zero_r v)) in omega arith)

pub clear_clear : (x group : ℕ) → clear (clear x group) group ≡ clear x group
clear_clear x group = clear_xor x (bit_and x group) group (and_assoc group x group ∙ ap (bit_and x) (and_self group))

-- a list that names a variable of the group depends on the group
pub names_depends : (n group : ℕ) (l : List ℕ) → IsTermList n l → names group l ≡ true → Depends n group (value_at l)
names_depends n group l t h =
    let w = names_differ group (2 ^ n) l (terms_rising n l t) h in
    record {
      x = w.0;
      y = clear w.0 group;
      x_below = w.1;
      y_below = omega (arith, clear_add w.0 group, w.1);
      alone = sym (clear_clear w.0 group);
      changes = w.2;
    }

-- and only such a list does
pub depends_names : (n group : ℕ) (l : List ℕ) → Depends n group (value_at l) → names group l ≡ true
depends_names n group l d = go (names group l) refl
  where
    go : (b : Bool) → names group l ≡ b → b ≡ true
    go true e = refl
    go false e = absurd (d.changes (independent group l e d.x d.y d.alone))

-- dependence: the function of a rising list depends on a group of variables exactly when some term names one of them
pub names_exactly : (n group : ℕ) (l : List ℕ) → IsTermList n l
    → (names group l ≡ true → Depends n group (value_at l)) × (Depends n group (value_at l) → names group l ≡ true)
names_exactly n group l t = (names_depends n group l t, depends_names n group l)

-- a union of terms names a variable of the group exactly when one of them does
pub named_or : (group a b : ℕ) → named group (bit_or a b) ≡ (named group a || named group b)
named_or group a b =
    ap (λ (x : ℕ). not (eqb x 0)) (and_comm (bit_or a b) group ∙ and_or group a b ∙ ap₂ bit_or (and_comm group a) (and_comm group b))
    ∙ go (bit_and a group) (bit_and b group) (eqb (bit_and a group) 0) refl
  where
    go : (p q : ℕ) (t : Bool) → eqb p 0 ≡ t → not (eqb (bit_or p q) 0) ≡ (not t || not (eqb q 0))
    go p q true e = ap (λ (x : ℕ). not (eqb (bit_or x q) 0)) (eqb-true p 0 e) ∙ ap (λ (x : ℕ). not (eqb x 0)) (or_zero_l q)
    go p q false e = ap not (ne_eqb (bit_or p q) 0 (λ z. eqb-false p 0 e (omega (arith, or_add_and p q, and_le_r p q))))
