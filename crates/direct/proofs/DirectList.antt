-- Products that are put into their places one after another, as the expansion of the terms brings them, make the list of the definition: each comes once, and
-- a rising list with a term more in its place is the rising list of the larger set.
use mathlib.Core.Path.{◌≡◌, refl, sym, ap, ◌∙◌}
use mathlib.Core.Logic.{◌⊎◌, inl, inr}
use mathlib.Core.Bool.{Bool, true, false, ◌&&◌, ◌||◌}
use mathlib.Core.List.{List, []}
use Prim.Native.Nat.{ℕ, zero, suc, ◌+◌, ◌*◌, ◌^◌, ◌≤◌, ◌<◌}
use native.Mathlib.Omega.{arith}
use lib.Pow.{pow_pos}
use lib.Dec.{eqb}
use lib.Bits.{bit_or}
use lib.ListN.{length, get_or}
use borrow.Author.Tests.{eqb-true, eq-eqb}
use Rattle.finite.specs.Tests.{pick, any}
use Rattle.finite.specs.Sets.{has}
use Rattle.std.proofs.lemmas.Bool.{cases_Bool, false_from_ne_true, and_from, and_parts, or_from}
use Rattle.finite.proofs.Testing.{clash, pick_true, pick_false, or_false_right, any_at, any_some}
use Rattle.finite.proofs.Elements.{has_none}
use Rattle.anf.specs.Terms.{passing}
use Rattle.anf.proofs.PassingLists.{passing_congr, passing_none}
use Rattle.design.specs.Limits.{broken}
use Rattle.design.proofs.Limits.{bounds}
use Rattle.direct.specs.Direct.{is_product, chosen, stands, direct_list}
use Rattle.direct.specs.Inside.Expanding.{appended, ending, emitted, brought}
use Rattle.design.specs.Inside.Inserting.{inserted_all}
use Rattle.direct.proofs.Products.{product_term}
use Rattle.direct.proofs.WellFormed.{list_short}
use Rattle.direct.specs.Inside.Outside.{Outside, most_terms}
use Rattle.direct.proofs.Emission.{appended_within, ending_here, ending_other, through}
use Rattle.design.proofs.Inserting.{inserted_all_append, inserted_one, inserted_none, inserted_passing, inserted_all_length}
use Rattle.direct.proofs.Extensions.{chosen_none, chosen_with, extends, extends_none, extends_all, extends_skip, extends_each, extends_apart, Clean, clean_with, with_lt}

-- ---- the products of a term

module _ (m s : ℕ) (place : ℕ → ℕ) (u c : ℕ) (some : 0 < m) where
  abbrev N : ℕ
  N = 2 ^ (m * s)

  abbrev goes : ℕ → Bool
  goes q = eqb (place (chosen m s q)) c

  abbrev Added : ℕ → ℕ → Type 0
  Added v p =
      (P : ℕ → Bool) → ((q : ℕ) → q < N → extends m s u v p q ≡ true → P q ≡ false)
      → inserted_all (emitted m s place u c v p (chosen m s p)) (passing N P) ≡ passing N (λ q. P q || (extends m s u v p q && goes q))

  -- no variable left
  added_end : (p : ℕ) → p < N → Added 0 p
  unfolding emitted
  added_end p lp P apart = at (cases_Bool (goes p))
    where
      at : (goes p ≡ true) ⊎ (goes p ≡ false)
          → inserted_all (ending place c p (chosen m s p)) (passing N P) ≡ passing N (λ q. P q || (extends m s u 0 p q && goes q))
      at (inl t) =
          ap (λ (ts : List ℕ). inserted_all ts (passing N P)) (ending_here place c p (chosen m s p) (eqb-true _ _ t))
          ∙ inserted_one p (passing N P)
          ∙ inserted_passing N p P lp (apart p lp (extends_none m s u p p some lp lp ∙ eq-eqb p p refl))
          ∙ passing_congr N _ _ (λ q l. ap (λ (b : Bool). P q || b) (here q (cases_Bool (eqb q p)) ∙ ap (λ (b : Bool). b && goes q) (sym (extends_none m s u p q some lp l))))
        where
          here : (q : ℕ) → (eqb q p ≡ true) ⊎ (eqb q p ≡ false) → eqb q p ≡ (eqb q p && goes q)
          here q (inl e) = e ∙ sym (and_from _ _ e (ap goes (eqb-true q p e) ∙ t))
          here q (inr e) = e ∙ sym (ap (λ (b : Bool). b && goes q) e)
      at (inr f) =
          ap (λ (ts : List ℕ). inserted_all ts (passing N P))
          (ending_other place c p (chosen m s p) (λ e. clash (eq-eqb (place (chosen m s p)) c e) f))
          ∙ inserted_none (passing N P)
          ∙ passing_congr N _ _ (λ q l. sym (ap (λ (b : Bool). P q || (b && goes q)) (extends_none m s u p q some lp l) ∙ other q (cases_Bool (eqb q p)) ∙ or_false_right (P q) false refl))
        where
          other : (q : ℕ) → (eqb q p ≡ true) ⊎ (eqb q p ≡ false) → (P q || (eqb q p && goes q)) ≡ (P q || false)
          other q (inl e) = ap (λ (b : Bool). P q || b) (ap (λ (b : Bool). b && goes q) e ∙ ap goes (eqb-true q p e) ∙ f)
          other q (inr e) = ap (λ (b : Bool). P q || (b && goes q)) e

  module _ (v p : ℕ) (lv : v < m) (lp : p < N) (clean : Clean m s (suc v) p)
      (onward : (p' : ℕ) → p' < N → Clean m s v p' → Added v p') where
    abbrev p_with : ℕ → ℕ
    p_with j = bit_or p (2 ^ (m * j + v))

    -- the products of the first k shares
    added_shares : has u v ≡ true → (P : ℕ → Bool) → ((q : ℕ) → q < N → extends m s u (suc v) p q ≡ true → P q ≡ false)
        → (k : ℕ) → k ≤ s
        → inserted_all (appended k (through m s place u c v p (chosen m s p))) (passing N P) ≡ passing N (λ q. P q || (any k (λ j. extends m s u v (p_with j) q) && goes q))
    unfolding appended any
    added_shares t P apart zero h = inserted_none (passing N P) ∙ passing_congr N _ _ (λ q l. sym (or_false_right (P q) false refl))
    added_shares t P apart (suc k) h =
        inserted_all_append (appended k (through m s place u c v p (chosen m s p))) (through m s place u c v p (chosen m s p) k) (passing N P)
        ∙ ap (inserted_all (through m s place u c v p (chosen m s p) k)) (added_shares t P apart k (omega arith))
        ∙ ap (λ (J : ℕ). inserted_all (emitted m s place u c v (p_with k) J) (passing N before_k)) (sym (chosen_with m s p k v h lv))
        ∙ onward (p_with k) (with_lt m s u v p lv clean k h lp) (clean_with m s u v p lv clean k h) before_k fresh
        ∙ passing_congr N _ _ (λ q l. group (P q) (any k (λ j. extends m s u v (p_with j) q)) (extends m s u v (p_with k) q) (goes q))
      where
        before_k : ℕ → Bool
        before_k q = P q || (any k (λ j. extends m s u v (p_with j) q) && goes q)

        group : (a b d e : Bool) → ((a || (b && e)) || (d && e)) ≡ (a || ((b || d) && e))
        group true b d e = refl
        group false true d true = refl
        group false true true false = refl
        group false true false false = refl
        group false false d e = refl

        fresh : (q : ℕ) → q < N → extends m s u v (p_with k) q ≡ true → before_k q ≡ false
        fresh q l e =
            or_from _ _
            (apart q l (extends_each m s u v p lv clean t q ∙ any_at s _ k h e))
            (ap (λ (b : Bool). b && goes q) (false_from_ne_true (any k (λ j. extends m s u v (p_with j) q))
            (λ y. let j = any_some k _ y in omega (arith, extends_apart m s u v p lv clean k j.0 q h e j.2, j.1))))

    added_more : Added (suc v) p
    unfolding emitted
    added_more P apart = at (cases_Bool (has u v))
      where
        at : (has u v ≡ true) ⊎ (has u v ≡ false)
            → inserted_all (pick (has u v) (appended s (through m s place u c v p (chosen m s p))) (emitted m s place u c v p (chosen m s p))) (passing N P)
            ≡ passing N (λ q. P q || (extends m s u (suc v) p q && goes q))
        at (inl t) =
            ap (λ (ts : List ℕ). inserted_all ts (passing N P)) (pick_true (has u v) _ _ t)
            ∙ added_shares t P apart s (omega arith)
            ∙ passing_congr N _ _ (λ q l. ap (λ (b : Bool). P q || (b && goes q)) (sym (extends_each m s u v p lv clean t q)))
        at (inr f) =
            ap (λ (ts : List ℕ). inserted_all ts (passing N P)) (pick_false (has u v) _ _ f)
            ∙ onward p lp (λ w l j k. clean w (omega arith) j k) P (λ q l e. apart q l (extends_skip m s u v p lv clean f q ∙ e))
            ∙ passing_congr N _ _ (λ q l. ap (λ (b : Bool). P q || (b && goes q)) (sym (extends_skip m s u v p lv clean f q)))

  pub added : (v p : ℕ) → v ≤ m → p < N → Clean m s v p → Added v p
  added zero p l lp clean = added_end p lp
  added (suc v) p l lp clean = added_more v p l lp clean (λ p' lp' clean'. added v p' (omega arith) lp' clean')

-- ---- the products of all terms of an output bit

module _ (m s : ℕ) (place : ℕ → ℕ) (some : 0 < m) (words : ℕ → ℕ) (c b : ℕ) where
  abbrev pub brings : ℕ → List ℕ
  brings u = brought m s place c b (words u) u

  abbrev so_far : ℕ → ℕ → Bool
  so_far n q = any n (λ u. is_product m s u q && has (words u) b) && eqb (place (chosen m s q)) c

  gathered_below : (n : ℕ) → n ≤ 2 ^ m → inserted_all (appended n brings) [] ≡ passing (2 ^ (m * s)) (so_far n)
  unfolding appended any
  gathered_below zero h = inserted_none [] ∙ sym (passing_none (2 ^ (m * s)))
  gathered_below (suc n) h =
      inserted_all_append (appended n brings) (brings n) []
      ∙ ap (inserted_all (brings n)) (gathered_below n (omega arith))
      ∙ at (cases_Bool (has (words n) b))
    where
      at : (has (words n) b ≡ true) ⊎ (has (words n) b ≡ false)
          → inserted_all (brings n) (passing (2 ^ (m * s)) (so_far n))
          ≡ passing (2 ^ (m * s)) (λ q. (any n (λ u. is_product m s u q && has (words u) b) || (is_product m s n q && has (words n) b)) && eqb (place (chosen m s q)) c)
      at (inl t) =
          ap (λ (ts : List ℕ). inserted_all ts (passing (2 ^ (m * s)) (so_far n))) (pick_true (has (words n) b) _ [] t ∙ ap (emitted m s place n c m 0) (sym (chosen_none m s)))
          ∙ added m s place n c some m 0 (omega arith) (pow_pos (m * s)) (λ w l j k. has_none (m * j + w)) (so_far n)
          (λ q l e. ap (λ (x : Bool). x && eqb (place (chosen m s q)) c) (false_from_ne_true _ (λ y. fresh q (sym (extends_all m s n 0 q) ∙ e) (any_some n _ y))))
          ∙ passing_congr (2 ^ (m * s)) _ _ (λ q l. group (any n (λ u. is_product m s u q && has (words u) b)) (eqb (place (chosen m s q)) c)
          (extends m s n m 0 q) (is_product m s n q) (has (words n) b) (extends_all m s n 0 q) t)
        where
          fresh : (q : ℕ) → is_product m s n q ≡ true → (u : ℕ) × (u < n) × ((is_product m s u q && has (words u) b) ≡ true) → ⊥
          fresh q e u =
              omega (arith, product_term m s u.0 n q (omega (arith, u.1)) h (and_parts (is_product m s u.0 q) (has (words u.0) b) u.2).0 e, u.1)

          group : (x g e i y : Bool) → e ≡ i → y ≡ true → ((x && g) || (e && g)) ≡ ((x || (i && y)) && g)
          group x g e i y p q = ap (λ (z : Bool). (x && g) || (z && g)) p ∙ go x i ∙ ap (λ (z : Bool). (x || (i && z)) && g) (sym q)
            where
              go : (x i : Bool) → ((x && g) || (i && g)) ≡ ((x || (i && true)) && g)
              go true true = both g
                where
                  both : (g : Bool) → (g || g) ≡ g
                  both true = refl
                  both false = refl
              go true false = no g
                where
                  no : (g : Bool) → (g || false) ≡ g
                  no true = refl
                  no false = refl
              go false true = refl
              go false false = refl
      at (inr f) =
          ap (λ (ts : List ℕ). inserted_all ts (passing (2 ^ (m * s)) (so_far n))) (pick_false (has (words n) b) _ [] f)
          ∙ inserted_none (passing (2 ^ (m * s)) (so_far n))
          ∙ passing_congr (2 ^ (m * s)) _ _ (λ q l. ap (λ (x : Bool). x && eqb (place (chosen m s q)) c)
          (sym (ap (λ (y : Bool). any n (λ u. is_product m s u q && has (words u) b) || (is_product m s n q && y)) f ∙ no (any n (λ u. is_product m s u q && has (words u) b)) (is_product m s n q))))
        where
          no : (x i : Bool) → (x || (i && false)) ≡ x
          no true i = refl
          no false true = refl
          no false false = refl

  pub gathered : inserted_all (appended (2 ^ m) brings) [] ≡ direct_list m s place words c b
  unfolding direct_list stands
  gathered = gathered_below (2 ^ m) (omega arith)

-- ---- the loop over the terms u, where w are the coefficient words

unfoldable pub bringing : ℕ → ℕ → (ℕ → ℕ) → ℕ → ℕ → List ℕ → ℕ → List ℕ
bringing m s place c b w u = brought m s place c b (get_or w u 0) u

module _ (m s : ℕ) (place : ℕ → ℕ) (limits : broken m s 1 ≡ false) (c b : ℕ) (w : List ℕ) where
  pub gathered_all : inserted_all (appended (2 ^ m) (bringing m s place c b w)) [] ≡ direct_list m s place (λ u. get_or w u 0) c b
  unfolding bringing
  gathered_all = gathered m s place (omega (arith, (bounds m s 1 limits).m_low)) (λ u. get_or w u 0) c b

  -- there is room for what each term brings
  pub bringing_fits : Outside s place → c < s → (u : ℕ) → u < 2 ^ m → length (inserted_all (appended u (bringing m s place c b w)) []) + length (bringing m s place c b w u) ≤ most_terms
  bringing_fits o lc u l =
      omega (
        arith,
        inserted_all_length (appended u (bringing m s place c b w)) [],
        appended_within (2 ^ m) u (bringing m s place c b w) l,
        inserted_all_length (appended (2 ^ m) (bringing m s place c b w)) [],
        ap length gathered_all,
        list_short m s place o (λ v. get_or w v 0) c b lc limits,
      )
