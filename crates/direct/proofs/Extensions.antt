-- One variable more, and a share chosen for it: the products of the variables below v + 1 on top of p are those of the variables below v on top of p with
-- one share's bit of v, share by share, and no two shares give the same.
use mathlib.Core.Path.{◌≡◌, sym, ap, ap₂, ◌∙◌}
use mathlib.Core.Bool.{Bool, true, false, not}
use Prim.Native.Nat.{ℕ, suc, ◌+◌, ◌*◌, ◌/◌, ◌%◌, ◌^◌, ◌≤◌, ◌<◌}
use native.Mathlib.Nat.{mod-lt, div-add-mod, div-lt_iff_lt-mul, mul_comm}
use native.Mathlib.Decide.{dec_lt, ℕ_discrete}
use native.Mathlib.Omega.{arith}
use lib.Pow.{pow_pos, pow-lt}
use lib.Dec.{eqb, ltb}
use lib.Bits.{bit_or, or_lt}
use borrow.Author.Tests.{eqb-true, eqb-false, eq-eqb, ne_eqb, not-true, lt-ltb, le-ltb}
use Rattle.finite.specs.Tests.{pick, bit, all, any, count}
use Rattle.finite.specs.Sets.{has}
use Rattle.finite.proofs.Testing.{bool_ext, clash, all_at, all_intro, any_at, any_some, any_congr, none_any, pick_true, pick_false}
use Rattle.std.proofs.lemmas.Bool.{false_from_ne_true}
use Rattle.finite.proofs.Counting.{count_one, count_some, count_unique, count_none, count_has}
use Rattle.finite.proofs.Elements.{has_none, sets-eq, some_element, has_with, has_with_other}
use Rattle.sharing.proofs.Sharing.{place_lt, place_eq, share_lt, share_has}
use Rattle.sharing.specs.Sharing.{share}
use Rattle.direct.specs.Direct.{is_product, chosen}
use Rattle.direct.proofs.Products.{product_at, at_product}
use Rattle.direct.proofs.Placement.{chosen_lt, chosen_has}

-- ---- the chosen shares

pub chosen_any : (m s p i : ℕ) → i < s → has (chosen m s p) i ≡ any m (λ w. has p (m * i + w))
chosen_any m s p i l =
    chosen_has m s p i l
    ∙ bool_ext _ _
    (λ e.
    let a = any_some m (has (share m i p)) (some_element m (share m i p) (share_lt m i p) (eqb-false _ _ (not-true _ e))) in
    any_at m _ a.0 a.1 (sym (share_has m i p a.0 a.1) ∙ a.2))
    (λ e.
    let a = any_some m (λ w. has p (m * i + w)) e in
    ap not (ne_eqb (share m i p) 0 (λ z. clash (share_has m i p a.0 a.1 ∙ a.2) (ap (λ (x : ℕ). has x a.0) z ∙ has_none a.0))))

pub chosen_none : (m s : ℕ) → chosen m s 0 ≡ 0
chosen_none m s =
    sets-eq s (chosen m s 0) 0 (chosen_lt m s 0) (pow_pos s)
    (λ i l. chosen_any m s 0 i l ∙ none_any m _ (λ w k. has_none (m * i + w)) ∙ sym (has_none i))

pub chosen_with : (m s p j v : ℕ) → j < s → v < m → chosen m s (bit_or p (2 ^ (m * j + v))) ≡ bit_or (chosen m s p) (2 ^ j)
chosen_with m s p j v lj lv =
    sets-eq s _ _ (chosen_lt m s (bit_or p (2 ^ (m * j + v)))) (or_lt s (chosen m s p) (2 ^ j) (chosen_lt m s p) (pow-lt lj))
    (λ i l. chosen_any m s (bit_or p (2 ^ (m * j + v))) i l ∙ at i l (ℕ_discrete i j))
  where
    at : (i : ℕ) → i < s → Dec (i ≡ j) → any m (λ w. has (bit_or p (2 ^ (m * j + v))) (m * i + w)) ≡ has (bit_or (chosen m s p) (2 ^ j)) i
    at i l (yes e) =
        any_at m _ v lv (ap (λ (k : ℕ). has (bit_or p (2 ^ (m * j + v))) (m * k + v)) e ∙ has_with p (m * j + v))
        ∙ sym (ap (has (bit_or (chosen m s p) (2 ^ j))) e ∙ has_with (chosen m s p) j)
    at i l (no n) =
        any_congr m _ _ (λ w k. has_with_other p (m * j + v) (m * i + w) (λ e. n (place_eq m i w j v k lv e).0))
        ∙ sym (has_with_other (chosen m s p) j i n ∙ chosen_any m s p i l)

-- ---- the products of the variables of u below v on top of p

abbrev pub alike : Bool → Bool → Bool
alike true b = b
alike false b = not b

alike_eq : (a b : Bool) → alike a b ≡ true → a ≡ b
alike_eq true b e = sym e
alike_eq false b e = sym (not-true b e)

eq_alike : (a b : Bool) → a ≡ b → alike a b ≡ true
eq_alike true b e = sym e
eq_alike false b e = ap not (sym e)

-- q has a share's bit of each variable of u below v, and the bits of p of the others
unfoldable pub extends : ℕ → ℕ → ℕ → ℕ → ℕ → ℕ → Bool
extends m s u v p q =
    all m (λ w. pick (ltb w v) (eqb (count s (λ j. has q (m * j + w))) (bit (has u w))) (all s (λ j. alike (has q (m * j + w)) (has p (m * j + w)))))

module _ (m s u v p q : ℕ) where
  pub extends_taken : extends m s u v p q ≡ true → (w : ℕ) → w < m → w < v → count s (λ j. has q (m * j + w)) ≡ bit (has u w)
  unfolding extends
  extends_taken e w l h = eqb-true _ _ (sym (pick_true (ltb w v) _ _ (lt-ltb w v h)) ∙ all_at m _ e w l)

  pub extends_kept : extends m s u v p q ≡ true → (w : ℕ) → w < m → v ≤ w → (j : ℕ) → j < s → has q (m * j + w) ≡ has p (m * j + w)
  unfolding extends
  extends_kept e w l h j k = alike_eq _ _ (all_at s _ (sym (pick_false (ltb w v) _ _ (le-ltb w v h)) ∙ all_at m _ e w l) j k)

  pub extends_intro : ((w : ℕ) → w < m → w < v → count s (λ j. has q (m * j + w)) ≡ bit (has u w))
      → ((w : ℕ) → w < m → v ≤ w → (j : ℕ) → j < s → has q (m * j + w) ≡ has p (m * j + w)) → extends m s u v p q ≡ true
  unfolding extends
  extends_intro f g = all_intro m _ (λ w l. at w l (dec_lt w v))
    where
      at : (w : ℕ) → w < m → Dec (w < v)
          → pick (ltb w v) (eqb (count s (λ j. has q (m * j + w))) (bit (has u w))) (all s (λ j. alike (has q (m * j + w)) (has p (m * j + w)))) ≡ true
      at w l (yes h) = pick_true (ltb w v) _ _ (lt-ltb w v h) ∙ eq-eqb _ _ (f w l h)
      at w l (no h) = let k : v ≤ w = omega arith in pick_false (ltb w v) _ _ (le-ltb w v k) ∙ all_intro s _ (λ j i. eq_alike _ _ (g w l k j i))

-- no variable: p alone
pub extends_none : (m s u p q : ℕ) → 0 < m → p < 2 ^ (m * s) → q < 2 ^ (m * s) → extends m s u 0 p q ≡ eqb q p
extends_none m s u p q some lp lq =
    bool_ext _ _
    (λ e. eq-eqb q p (sets-eq (m * s) q p lq lp
    (λ i l.
    let d : i / m < s = (div-lt_iff_lt-mul some).1 (omega (arith, mul_comm m s)) in
    ap (has q) (sym (div-add-mod i m)) ∙ extends_kept m s u 0 p q e (i % m) (mod-lt i some) (omega arith) (i / m) d ∙ ap (has p) (div-add-mod i m))))
    (λ e. extends_intro m s u 0 p q (λ w l h. absurd (omega arith)) (λ w l h j k. ap (λ (x : ℕ). has x (m * j + w)) (eqb-true q p e)))

-- every variable: the products of u
pub extends_all : (m s u p q : ℕ) → extends m s u m p q ≡ is_product m s u q
extends_all m s u p q =
    bool_ext _ _
    (λ e. at_product m s u q (λ w l. extends_taken m s u m p q e w l l))
    (λ e. extends_intro m s u m p q (λ w l h. product_at m s u q e w l) (λ w l h. absurd (omega arith)))

-- p has no bit of a variable below v
abbrev pub Clean : ℕ → ℕ → ℕ → ℕ → Type 0
Clean m s v p = (w : ℕ) → w < v → (j : ℕ) → j < s → has p (m * j + w) ≡ false

module _ (m s u v p : ℕ) (lv : v < m) (clean : Clean m s (suc v) p) where
  -- the variable v is not in u
  pub extends_skip : has u v ≡ false → (q : ℕ) → extends m s u (suc v) p q ≡ extends m s u v p q
  extends_skip n q =
      bool_ext _ _
      (λ e. extends_intro m s u v p q (λ w l h. extends_taken m s u (suc v) p q e w l (omega arith))
      (λ w l h j k. at e w l h j k (ℕ_discrete w v)))
      (λ e. extends_intro m s u (suc v) p q (λ w l h. back e w l h (ℕ_discrete w v)) (λ w l h j k. extends_kept m s u v p q e w l (omega arith) j k))
    where
      at : extends m s u (suc v) p q ≡ true → (w : ℕ) → w < m → v ≤ w → (j : ℕ) → j < s → Dec (w ≡ v) → has q (m * j + w) ≡ has p (m * j + w)
      at e w l h j k (no d) = extends_kept m s u (suc v) p q e w l (omega arith) j k
      at e w l h j k (yes d) =
          false_from_ne_true (has q (m * j + w))
          (λ t. omega (arith, count_has s (λ i. has q (m * i + w)) j k t, extends_taken m s u (suc v) p q e w l (omega arith), ap (λ (x : ℕ). bit (has u x)) d, ap bit n))
          ∙ sym (clean w (omega arith) j k)

      back : extends m s u v p q ≡ true → (w : ℕ) → w < m → w < suc v → Dec (w ≡ v) → count s (λ j. has q (m * j + w)) ≡ bit (has u w)
      back e w l h (no d) = extends_taken m s u v p q e w l (omega arith)
      back e w l h (yes d) =
          count_none s (λ j. has q (m * j + w)) (λ j k t. clash t (extends_kept m s u v p q e w l (omega arith) j k ∙ clean w h j k))
          ∙ sym (ap (λ (x : ℕ). bit (has u x)) d ∙ ap bit n)

  abbrev pub with_share_of : ℕ → ℕ
  with_share_of j = bit_or p (2 ^ (m * j + v))

  -- at v, q has the bit of share j and no other
  share_of : (j q : ℕ) → extends m s u v (with_share_of j) q ≡ true → (i : ℕ) → i < s → has q (m * i + v) ≡ true → i ≡ j
  share_of j q e i li t = go (ℕ_discrete i j)
    where
      go : Dec (i ≡ j) → i ≡ j
      go (yes d) = d
      go (no d) =
          absurd (clash t (extends_kept m s u v (with_share_of j) q e v lv (omega arith) i li
          ∙ has_with_other p (m * j + v) (m * i + v) (λ z. d (place_eq m i v j v lv lv z).0) ∙ clean v (omega arith) i li))

  has_share : (j q : ℕ) → j < s → extends m s u v (with_share_of j) q ≡ true → has q (m * j + v) ≡ true
  has_share j q lj e = extends_kept m s u v (with_share_of j) q e v lv (omega arith) j lj ∙ has_with p (m * j + v)

  -- no two shares give the same
  pub extends_apart : (i j q : ℕ) → i < s → extends m s u v (with_share_of i) q ≡ true → extends m s u v (with_share_of j) q ≡ true → i ≡ j
  extends_apart i j q li ei ej = share_of j q ej i li (has_share i q li ei)

  -- the variable v is in u
  pub extends_each : has u v ≡ true → (q : ℕ) → extends m s u (suc v) p q ≡ any s (λ j. extends m s u v (with_share_of j) q)
  extends_each t q = bool_ext _ _ to from
    where
      one : extends m s u (suc v) p q ≡ true → count s (λ j. has q (m * j + v)) ≡ 1
      one e = extends_taken m s u (suc v) p q e v lv (omega arith) ∙ ap bit t

      to : extends m s u (suc v) p q ≡ true → any s (λ j. extends m s u v (with_share_of j) q) ≡ true
      to e =
          let k = count_some s (λ j. has q (m * j + v)) (omega (arith, one e)) in
          any_at s _ k.0 k.1
          (extends_intro m s u v (with_share_of k.0) q
          (λ w l h. extends_taken m s u (suc v) p q e w l (omega arith))
          (λ w l h j lj. kept k.0 k.1 k.2 w l h j lj (ℕ_discrete w v) (ℕ_discrete j k.0)))
        where
          kept : (k : ℕ) → k < s → has q (m * k + v) ≡ true → (w : ℕ) → w < m → v ≤ w → (j : ℕ) → j < s → Dec (w ≡ v) → Dec (j ≡ k)
              → has q (m * j + w) ≡ has (with_share_of k) (m * j + w)
          kept k lk y w l h j lj (yes a) (yes b) =
              let d : m * j + w ≡ m * k + v = ap₂ (λ (x z : ℕ). m * x + z) b a in
              ap (has q) d ∙ y ∙ sym (ap (has (with_share_of k)) d ∙ has_with p (m * k + v))
          kept k lk y w l h j lj (yes a) (no b) =
              ap (λ (x : ℕ). has q (m * j + x)) a
              ∙ false_from_ne_true (has q (m * j + v)) (λ z. b (count_unique s (λ i. has q (m * i + v)) (one e) j k lj lk z y))
              ∙ sym (has_with_other p (m * k + v) (m * j + w) (λ z. b (place_eq m j w k v l lv z).0) ∙ clean w (omega arith) j lj)
          kept k lk y w l h j lj (no a) c =
              extends_kept m s u (suc v) p q e w l (omega arith) j lj
              ∙ sym (has_with_other p (m * k + v) (m * j + w) (λ z. a (place_eq m j w k v l lv z).1))

      from : any s (λ j. extends m s u v (with_share_of j) q) ≡ true → extends m s u (suc v) p q ≡ true
      from a =
          let k = any_some s _ a in
          extends_intro m s u (suc v) p q
          (λ w l h. taken k.0 k.1 k.2 w l h (ℕ_discrete w v))
          (λ w l h j lj. extends_kept m s u v (with_share_of k.0) q k.2 w l (omega arith) j lj
          ∙ has_with_other p (m * k.0 + v) (m * j + w) (λ z. omega (arith, (place_eq m j w k.0 v l lv z).1)))
        where
          taken : (k : ℕ) → k < s → extends m s u v (with_share_of k) q ≡ true → (w : ℕ) → w < m → w < suc v → Dec (w ≡ v)
              → count s (λ j. has q (m * j + w)) ≡ bit (has u w)
          taken k lk e w l h (no d) = extends_taken m s u v (with_share_of k) q e w l (omega arith)
          taken k lk e w l h (yes d) =
              ap (λ (x : ℕ). count s (λ j. has q (m * j + x))) d
              ∙ count_one s (λ j. has q (m * j + v)) k lk (has_share k q lk e) (share_of k q e)
              ∙ sym (ap (λ (x : ℕ). bit (has u x)) d ∙ ap bit t)

  -- the next p
  pub clean_with : (j : ℕ) → j < s → Clean m s v (with_share_of j)
  clean_with j lj w h i li =
      has_with_other p (m * j + v) (m * i + w) (λ z. omega (arith, (place_eq m i w j v (omega arith) lv z).1)) ∙ clean w (omega arith) i li

  pub with_lt : (j : ℕ) → j < s → p < 2 ^ (m * s) → with_share_of j < 2 ^ (m * s)
  with_lt j lj l = or_lt (m * s) p (2 ^ (m * j + v)) l (pow-lt (place_lt m s j v lj lv))
