-- The component to which a product goes: where fewer shares are chosen than there are, it is one of the s components, and its share is not chosen. So it is
-- by the published rule, and by any table that loads.
use mathlib.Core.Path.{◌≡◌, refl, sym, ap, ◌∙◌}
use mathlib.Core.Logic.{◌⊎◌, inl, inr, ⊎_elim}
use mathlib.Core.Bool.{Bool, true, false, not, ◌&&◌}
use Prim.Native.Nat.{ℕ, zero, suc, ◌+◌, ◌-◌, ◌*◌, ◌^◌, ◌≤◌, ◌<◌}
use native.Mathlib.Decide.{ℕ_discrete}
use native.Mathlib.Omega.{arith}
use lib.Dec.{eqb}
use lib.Count.{ones}
use borrow.Author.Tests.{eqb-true, eqb-false, eq-eqb, ne_eqb, not-true, not-false}
use Rattle.finite.specs.Tests.{pick, bit, any, first, count}
use Rattle.finite.specs.Sets.{has}
use Rattle.std.proofs.lemmas.Bool.{cases_Bool, and_parts}
use Rattle.finite.proofs.Testing.{clash, any_some, any_none, first_is, first_none, pick_true, pick_false}
use Rattle.finite.proofs.Counting.{total_congr, total_mono, count_has, total_swap, total_const}
use Rattle.finite.proofs.Elements.{has_none, some_element, ones_count, made_lt, made_has}
use Rattle.sharing.specs.Sharing.{share}
use Rattle.sharing.proofs.Sharing.{share_lt, share_has}
use Rattle.direct.specs.Direct.{is_product, chosen, after, component_for}
use Rattle.direct.specs.Inside.Outside.{Outside}
use Rattle.direct.proofs.Products.{product_at}

pub chosen_lt : (m s p : ℕ) → chosen m s p < 2 ^ s
unfolding chosen
chosen_lt m s p = made_lt (λ j. not (eqb (share m j p) 0)) s

pub chosen_has : (m s p j : ℕ) → j < s → has (chosen m s p) j ≡ not (eqb (share m j p) 0)
unfolding chosen
chosen_has m s p j l = made_has (λ i. not (eqb (share m i p) 0)) s j l

-- a share that is not chosen is 0
pub unchosen : (m s p j : ℕ) → j < s → has (chosen m s p) j ≡ false → share m j p ≡ 0
unchosen m s p j l e = eqb-true _ _ (not-false _ (sym (chosen_has m s p j l) ∙ e))

-- ---- the published rule: walking on from a chosen share one comes to one that is not; if none stood before a chosen one, all would be chosen

module _ (s J : ℕ) where
  abbrev goes : ℕ → Bool
  goes c = not (has J c) && has J (after s c)

  -- if it goes to none, what stands before a chosen share is chosen
  back : any s goes ≡ false → (c : ℕ) → c < s → has J (after s c) ≡ true → has J c ≡ true
  back f c l h = at (has J c) (has J (after s c)) (any_none s goes f c l) h
    where
      at : (a b : Bool) → (not a && b) ≡ false → b ≡ true → a ≡ true
      at true b e h = refl
      at false b e h = absurd (clash h e)

  down : any s goes ≡ false → (k : ℕ) → k < s → has J k ≡ true → (i : ℕ) → i ≤ k → has J i ≡ true
  down f zero l h i le = let e : i ≡ 0 = omega arith in ap (has J) e ∙ h
  down f (suc k) l h i le =
      at
      (λ q. down f k (omega arith) (back f k (omega arith) (ap (has J) (pick_false (eqb (k + 1) s) 0 (k + 1) (ne_eqb (k + 1) s (λ e. omega arith)) ∙ omega arith) ∙ h)) i q)
      (ℕ_discrete i (suc k))
    where
      at : (i ≤ k → has J i ≡ true) → Dec (i ≡ suc k) → has J i ≡ true
      at ih (yes e) = ap (has J) e ∙ h
      at ih (no n) = ih (omega arith)

  goes_some : (c d : ℕ) → c < s → d < s → has J c ≡ false → has J d ≡ true → any s goes ≡ true
  goes_some c d lc ld nc yd = ⊎_elim (λ t. t) (λ f. absurd (clash (all f) nc)) (cases_Bool (any s goes))
    where
      all : any s goes ≡ false → has J c ≡ true
      all f =
          down f (s - 1) (omega arith)
          (back f (s - 1) (omega arith) (ap (has J) (pick_true (eqb (s - 1 + 1) s) 0 (s - 1 + 1) (eq-eqb (s - 1 + 1) s (omega arith))) ∙ down f d ld yd 0 (omega arith)))
          c (omega arith)

  -- a component among the s is outside J
  component_outside : (c : ℕ) → c < s → component_for s J ≡ c → has J c ≡ false
  unfolding component_for
  component_outside c l e = at (cases_Bool (eqb J 0))
    where
      at : (eqb J 0 ≡ true) ⊎ (eqb J 0 ≡ false) → has J c ≡ false
      at (inl z) = ap (λ (x : ℕ). has x c) (eqb-true J 0 z) ∙ has_none c
      at (inr z) = from (cases_Bool (any s goes))
        where
          f : first s goes ≡ c
          f = sym (pick_false (eqb J 0) 0 (first s goes) z) ∙ e

          from : (any s goes ≡ true) ⊎ (any s goes ≡ false) → has J c ≡ false
          from (inl t) = ap (has J) (sym f) ∙ not-true _ (and_parts (not (has J (first s goes))) _ (first_is s goes t).1).0
          from (inr n) = absurd (omega (arith, first_none s goes n, f))

  -- where some share is not chosen, it is one of the s
  component_lt : J < 2 ^ s → (c : ℕ) → c < s → has J c ≡ false → component_for s J < s
  unfolding component_for
  component_lt lJ c l n = at (cases_Bool (eqb J 0))
    where
      at : (eqb J 0 ≡ true) ⊎ (eqb J 0 ≡ false) → pick (eqb J 0) 0 (first s goes) < s
      at (inl z) = rw z (omega arith)
      at (inr z) =
          let d = any_some s (has J) (some_element s J lJ (eqb-false J 0 z)) in
          rw z (first_is s goes (goes_some c d.0 l d.1 n d.2)).0

pub rule_outside : (s : ℕ) → Outside s (component_for s)
rule_outside s = record { some = component_lt s; outside = λ J l. component_outside s J }

-- ---- a product of fewer than s variables leaves a share out

pub left_out : (m s u p : ℕ) → u < 2 ^ m → is_product m s u p ≡ true → ones u < s → (c : ℕ) × (c < s) × (share m c p ≡ 0)
left_out m s u p l e h = at (cases_Bool (any s (λ j. eqb (share m j p) 0)))
  where
    at : (any s (λ j. eqb (share m j p) 0) ≡ true) ⊎ (any s (λ j. eqb (share m j p) 0) ≡ false) → (c : ℕ) × (c < s) × (share m c p ≡ 0)
    at (inl t) = let r = any_some s _ t in (r.0, r.1, eqb-true _ _ r.2)
    at (inr f) =
        absurd (omega (
          arith,
          ones_count m u l,
          total_congr m (λ v. bit (has u v)) (λ v. count s (λ j. has p (m * j + v))) (λ v k. sym (product_at m s u p e v k)),
          total_swap m s (λ v j. bit (has p (m * j + v))),
          total_mono s (λ j. 1) (λ j. count m (λ v. has p (m * j + v))) (λ j k. some j k),
          total_const s 1,
        ))
      where
        some : (j : ℕ) → j < s → 1 ≤ count m (λ v. has p (m * j + v))
        some j k =
            let v = any_some m (has (share m j p)) (some_element m (share m j p) (share_lt m j p) (eqb-false _ _ (any_none s _ f j k))) in
            count_has m (λ v. has p (m * j + v)) v.0 v.1 (sym (share_has m j p v.0 v.1) ∙ v.2)

pub product_component : (m s : ℕ) (place : ℕ → ℕ) → Outside s place
    → (u p : ℕ) → u < 2 ^ m → is_product m s u p ≡ true → ones u < s → place (chosen m s p) < s
product_component m s place o u p l e h =
    let c = left_out m s u p l e h in
    o.some (chosen m s p) (chosen_lt m s p) c.0 c.1 (chosen_has m s p c.0 c.1 ∙ ap not (eq-eqb _ _ c.2))
