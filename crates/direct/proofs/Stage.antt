-- The direct stage of a box of degree below s is correct and non-complete, component c ignoring share c. Each product of each term goes to exactly
-- one component, so the components sum to the expansion of the box's terms; and a product goes to a component whose share it does not name.
use mathlib.Core.Path.{◌≡◌, refl, sym, ap, ap₂, ◌∙◌}
use mathlib.Core.Logic.{◌⊎◌, inl, inr}
use mathlib.Core.Bool.{Bool, true, false, ◌&&◌}
use mathlib.Core.List.{List, [], ◌∷◌}
use Prim.Native.Nat.{ℕ, ◌+◌, ◌*◌, ◌/◌, ◌%◌, ◌^◌, ◌<◌}
use native.Mathlib.Omega.{arith}
use lib.Dec.{eqb}
use lib.Bits.{bit_and}
use lib.Count.{ones}
use lib.ListN.{length, get_or}
use borrow.Author.Tests.{eqb-true, eq-eqb, ne_eqb}
use Rattle.finite.specs.Tests.{pick, bit, any}
use Rattle.finite.specs.Sums.{xor_below}
use Rattle.finite.specs.Sets.{subset, has}
use Rattle.std.proofs.lemmas.Bool.{cases_Bool, and_parts}
use Rattle.finite.proofs.Testing.{clash, any_some, any_none, any_congr, tabulate_at, tabulate_congr, tabulate_length}
use Rattle.finite.proofs.Sums.{xor_below_ext, xor_below_none, xor_below_one, xor_below_swap, xor_below_bit, xor_below_lt, pick_zero, xor_below_pick}
use Rattle.finite.proofs.Elements.{has_none}
use Rattle.std.proofs.lemmas.Nat.Bits.{same_from_bits_below}
use Rattle.anf.specs.NormalForm.{subset_sum, degree}
use Rattle.anf.specs.Terms.{value_at}
use Rattle.anf.specs.Tables.{entry, TableFits}
use Rattle.anf.proofs.Terms.{clear_add, subset_clear}
use Rattle.anf.proofs.PassingLists.{value_at_passing, table_terms, passing_congr}
use Rattle.anf.proofs.Degree.{degree_at}
use Rattle.sharing.specs.Sharing.{share, sum, with_share}
use Rattle.sharing.specs.Inside.Variables.{variables}
use Rattle.sharing.specs.Stages.{output, component, Correct, Ignores, NonComplete}
use Rattle.sharing.proofs.Sharing.{place_lt, share_lt, sum_lt, with_own, setting_with, share_bit, place_div, place_mod}
use Rattle.sharing.proofs.Output.{output_bit, component_eq}
use Rattle.sharing.proofs.Dependence.{clear_variables, setting_clear}
use Rattle.direct.specs.Direct.{is_product, chosen, stands, direct_list, direct_lists, direct_stage, direct_sharing}
use Rattle.direct.proofs.Products.{product_term}
use Rattle.direct.proofs.Expansion.{expansion}
use Rattle.direct.proofs.Placement.{unchosen, chosen_lt, product_component}
use Rattle.direct.specs.Inside.Outside.{Outside}

-- ---- the lists

pub lists_length : (m s : ℕ) (place : ℕ → ℕ) (t : List ℕ) → length (direct_stage m s place t).lists ≡ m * s
unfolding direct_stage direct_lists
lists_length m s place t = tabulate_length (m * s) (λ i. direct_list m s place (subset_sum m (entry t)) (i / m) (i % m))

-- list b of component c
pub list_at : (m s : ℕ) (place : ℕ → ℕ) (t : List ℕ) (c b : ℕ) → c < s → b < m → get_or (direct_stage m s place t).lists (m * c + b) [] ≡ direct_list m s place (subset_sum m (entry t)) c b
unfolding direct_stage direct_lists
list_at m s place t c b lc lb =
    tabulate_at (m * s) (λ i. direct_list m s place (subset_sum m (entry t)) (i / m) (i % m)) (m * c + b) [] (place_lt m s c b lc lb)
    ∙ ap₂ (direct_list m s place (subset_sum m (entry t))) (place_div m c b lb) (place_mod m c b lb)

-- the placement and the words are asked at the sets of shares and at the terms alone
module _ (m s : ℕ) (place here : ℕ → ℕ) (alike : (J : ℕ) → J < 2 ^ s → place J ≡ here J) where
  pub lists_congr : (f g : ℕ → ℕ) → ((u : ℕ) → u < 2 ^ m → f u ≡ g u) → direct_lists m s place f ≡ direct_lists m s here g
  unfolding direct_lists direct_list stands
  lists_congr f g h =
      tabulate_congr (m * s) _ _ (λ i l. passing_congr (2 ^ (m * s)) _ _ (λ p k.
      ap₂ (λ (x : Bool) (c : ℕ). x && eqb c (i / m))
      (any_congr (2 ^ m) _ _ (λ u j. ap (λ (w : ℕ). is_product m s u p && has w (i % m)) (h u j)))
      (alike (chosen m s p) (chosen_lt m s p))))

  pub sharing_congr : (t : List ℕ) → direct_sharing m s place t ≡ direct_sharing m s here t
  unfolding direct_sharing direct_stage
  sharing_congr t =
      ap (λ (ls : List (List ℕ)). record { m = m; s = s; k = 1; box = t; stages = record { table = t; lists = ls } ∷ [] })
      (lists_congr (subset_sum m (entry t)) (subset_sum m (entry t)) (λ u l. refl))

pub list_value : (m s : ℕ) (place : ℕ → ℕ) (f : ℕ → ℕ) (c b σ : ℕ)
    → value_at (direct_list m s place f c b) σ ≡ xor_below (2 ^ (m * s)) (λ p. pick (subset p σ) (bit (stands m s place f c b p)) 0)
unfolding direct_list
list_value m s place f c b σ = value_at_passing (2 ^ (m * s)) (stands m s place f c b) σ

-- ---- each product goes to one component

module _ (m s : ℕ) (f : ℕ → ℕ) (low : degree m f < s) (b : ℕ) where
  -- a term of bit b has fewer than s variables
  pub term_small : (u : ℕ) → u < 2 ^ m → has (subset_sum m f u) b ≡ true → ones u < s
  term_small u l h =
      omega (arith, degree_at m f u l (λ z. clash h (ap (λ (x : ℕ). has x b) z ∙ has_none b)))

  abbrev expanded : ℕ → Bool
  expanded p = any (2 ^ m) (λ u. is_product m s u p && has (subset_sum m f u) b)

  module _ (place : ℕ → ℕ) (o : Outside s place) where
    -- p at σ for each component that it goes to, and for each term that it is a product of
    once : (p σ : ℕ) → xor_below s (λ c. pick (subset p σ) (bit (stands m s place (subset_sum m f) c b p)) 0)
        ≡ xor_below (2 ^ m) (λ u. pick (has (subset_sum m f u) b) (pick (is_product m s u p) (pick (subset p σ) 1 0) 0) 0)
    unfolding stands
    once p σ = at (cases_Bool (expanded p))
      where
        -- the same on both sides
        at : (expanded p ≡ true) ⊎ (expanded p ≡ false)
            → xor_below s (λ c. pick (subset p σ) (bit (expanded p && eqb (place (chosen m s p)) c)) 0)
            ≡ xor_below (2 ^ m) (λ u. pick (has (subset_sum m f u) b) (pick (is_product m s u p) (pick (subset p σ) 1 0) 0) 0)
        at (inl t) =
            let u = any_some (2 ^ m) _ t in
            let isp = (and_parts (is_product m s u.0 p) (has (subset_sum m f u.0) b) u.2).0 in
            let isb = (and_parts (is_product m s u.0 p) (has (subset_sum m f u.0) b) u.2).1 in
            xor_below_one s (place (chosen m s p)) _ (product_component m s place o u.0 p u.1 isp (term_small u.0 u.1 isb))
            (λ c l ne. ap (λ (x : Bool). pick (subset p σ) (bit (expanded p && x)) 0) (ne_eqb (place (chosen m s p)) c (λ e. ne (sym e))) ∙ none (expanded p))
            ∙ ap₂ (λ (x y : Bool). pick (subset p σ) (bit (x && y)) 0) t (eq-eqb (place (chosen m s p)) (place (chosen m s p)) refl)
            ∙ sym (xor_below_one (2 ^ m) u.0 _ u.1
            (λ v l ne. other v (λ e. ne (product_term m s v u.0 p l u.1 e isp)) (cases_Bool (is_product m s v p)))
            ∙ ap₂ (λ (x y : Bool). pick x (pick y (pick (subset p σ) 1 0) 0) 0) isb isp)
          where
            none : (x : Bool) → pick {A = ℕ} (subset p σ) (bit (x && false)) 0 ≡ 0
            none true = pick_zero (subset p σ)
            none false = pick_zero (subset p σ)

            other : (v : ℕ) → (is_product m s v p ≡ true → ⊥) → (is_product m s v p ≡ true) ⊎ (is_product m s v p ≡ false)
                → ◌≡◌ {A = ℕ} (pick (has (subset_sum m f v) b) (pick (is_product m s v p) (pick (subset p σ) 1 0) 0) 0) 0
            other v h (inl e) = absurd (h e)
            other v h (inr e) = rw e (pick_zero (has (subset_sum m f v) b))
        at (inr e) =
            xor_below_none s _ (λ c l. ap (λ (x : Bool). pick (subset p σ) (bit (x && eqb (place (chosen m s p)) c)) 0) e ∙ pick_zero (subset p σ))
            ∙ sym (xor_below_none (2 ^ m) _ (λ u l. no (is_product m s u p) (has (subset_sum m f u) b) (any_none (2 ^ m) _ e u l)))
          where
            no : (x y : Bool) → (x && y) ≡ false → ◌≡◌ {A = ℕ} (pick y (pick x (pick (subset p σ) 1 0) 0) 0) 0
            no true y q = rw q refl
            no false true q = refl
            no false false q = refl

    -- the lists of bit b sum to bit b of the box at the value shared
    pub bit_correct : (σ : ℕ) → xor_below s (λ c. value_at (direct_list m s place (subset_sum m f) c b) σ) ≡ f (sum m s σ) / 2 ^ b % 2
    bit_correct σ =
        xor_below_ext s _ _ (λ c l. list_value m s place (subset_sum m f) c b σ)
        ∙ xor_below_swap s (2 ^ (m * s)) (λ c p. pick (subset p σ) (bit (stands m s place (subset_sum m f) c b p)) 0)
        ∙ xor_below_ext (2 ^ (m * s)) _ _ (λ p l. once p σ)
        ∙ xor_below_swap (2 ^ (m * s)) (2 ^ m) (λ p u. pick (has (subset_sum m f u) b) (pick (is_product m s u p) (pick (subset p σ) 1 0) 0) 0)
        ∙ xor_below_ext (2 ^ m) _ (λ u. pick (subset u (sum m s σ)) (bit (has (subset_sum m f u) b)) 0)
        (λ u l. xor_below_pick (2 ^ (m * s)) (has (subset_sum m f u) b) _
        ∙ ap (λ (x : ℕ). pick (has (subset_sum m f u) b) x 0) (expansion m s u σ l)
        ∙ turn (has (subset_sum m f u) b) (subset u (sum m s σ)))
        ∙ sum_is
      where
        turn : (x y : Bool) → ◌≡◌ {A = ℕ} (pick x (pick y 1 0) 0) (pick y (bit x) 0)
        turn true true = refl
        turn true false = refl
        turn false true = refl
        turn false false = refl

        sum_is : xor_below (2 ^ m) (λ u. pick (subset u (sum m s σ)) (bit (has (subset_sum m f u) b)) 0) ≡ f (sum m s σ) / 2 ^ b % 2
        sum_is = unfold has in sym (value_at_passing (2 ^ m) (λ u. eqb (subset_sum m f u / 2 ^ b % 2) 1) (sum m s σ)) ∙ table_terms m b f (sum m s σ) (sum_lt m s σ)

-- bit b of what component c gives
pub component_value : (m s : ℕ) (place : ℕ → ℕ) (t : List ℕ) (c b σ : ℕ) → c < s → b < m
    → component m (direct_stage m s place t).lists c σ / 2 ^ b % 2 ≡ value_at (direct_list m s place (subset_sum m (entry t)) c b) σ
component_value m s place t c b σ lc lb =
    share_bit m c (output (direct_stage m s place t).lists σ) b lb
    ∙ output_bit σ (m * c + b) (direct_stage m s place t).lists
    ∙ ap (λ (l : List ℕ). value_at l σ) (list_at m s place t c b lc lb)

pub direct_correct : (m s : ℕ) (place : ℕ → ℕ) → Outside s place → (t : List ℕ) → TableFits m t → degree m (entry t) < s
    → Correct m s (component m (direct_stage m s place t).lists) t
direct_correct m s place o t fits low σ l =
    same_from_bits_below m _ _
    (xor_below_lt s m (λ j. component m (direct_stage m s place t).lists j σ) (λ j k. share_lt m j (output (direct_stage m s place t).lists σ)))
    (fits.below (sum m s σ) (sum_lt m s σ))
    (λ b k. sym (xor_below_bit s b (λ j. component m (direct_stage m s place t).lists j σ))
    ∙ xor_below_ext s _ (λ c. value_at (direct_list m s place (subset_sum m (entry t)) c b) σ) (λ c h. component_value m s place t c b σ h k)
    ∙ bit_correct m s (entry t) low b place o σ)

-- ---- non-complete

-- a term that does not name share c does not see it changed
blind : (m c p σ v : ℕ) → v < 2 ^ m → share m c p ≡ 0 → subset p (with_share m c v σ) ≡ subset p σ
blind m c p σ v l z =
    sym (subset_clear p (with_share m c v σ) (variables m c) none)
    ∙ ap (subset p) (setting_clear m c (with_share m c v σ) σ (setting_with m c v σ l))
    ∙ subset_clear p σ (variables m c) none
  where
    none : bit_and p (variables m c) ≡ 0
    none = omega (arith, clear_add p (variables m c), clear_variables m c p, ap (λ (x : ℕ). with_share m c x p) (sym z) ∙ with_own m c p)

stands_outside : (m s : ℕ) (place : ℕ → ℕ) → Outside s place → (f : ℕ → ℕ) (c b p : ℕ) → c < s → stands m s place f c b p ≡ true → share m c p ≡ 0
unfolding stands
stands_outside m s place o f c b p l e =
    unchosen m s p c l
    (o.outside (chosen m s p) (chosen_lt m s p) c l
    (eqb-true _ _ (and_parts (any (2 ^ m) (λ u. is_product m s u p && has (f u) b)) (eqb (place (chosen m s p)) c) e).1))

pub direct_ignores : (m s : ℕ) (place : ℕ → ℕ) → Outside s place → (t : List ℕ) (c : ℕ) → c < s
    → Ignores m s c (component m (direct_stage m s place t).lists c)
direct_ignores m s place o t c l σ lσ v lv =
    component_eq (with_share m c v σ) σ m c (direct_stage m s place t).lists
    (λ b lb. ap (λ (x : List ℕ). value_at x (with_share m c v σ)) (at b lb) ∙ same b ∙ ap (λ (x : List ℕ). value_at x σ) (sym (at b lb)))
  where
    at : (b : ℕ) → b < m → get_or (direct_stage m s place t).lists (m * c + b) [] ≡ direct_list m s place (subset_sum m (entry t)) c b
    at b lb = list_at m s place t c b l lb

    term : (b p : ℕ) (x : Bool) → stands m s place (subset_sum m (entry t)) c b p ≡ x → pick (subset p (with_share m c v σ)) (bit x) 0 ≡ pick (subset p σ) (bit x) 0
    term b p true e = ap (λ (y : Bool). pick y 1 0) (blind m c p σ v lv (stands_outside m s place o (subset_sum m (entry t)) c b p l e))
    term b p false e = pick_zero (subset p (with_share m c v σ)) ∙ sym (pick_zero (subset p σ))

    same : (b : ℕ) → value_at (direct_list m s place (subset_sum m (entry t)) c b) (with_share m c v σ) ≡ value_at (direct_list m s place (subset_sum m (entry t)) c b) σ
    same b =
        list_value m s place (subset_sum m (entry t)) c b (with_share m c v σ)
        ∙ xor_below_ext (2 ^ (m * s)) _ _ (λ p k. term b p (stands m s place (subset_sum m (entry t)) c b p) refl)
        ∙ sym (list_value m s place (subset_sum m (entry t)) c b σ)

pub direct_non_complete : (m s : ℕ) (place : ℕ → ℕ) → Outside s place → (t : List ℕ) → NonComplete m s (component m (direct_stage m s place t).lists)
direct_non_complete m s place o t c l = (c, l, direct_ignores m s place o t c l)
