-- Placement tables: what the tests of loading say; a table that loads sends a product to a component whose share it does not name; and the published table
-- loads and is the published rule.
use mathlib.Core.Path.{◌≡◌, refl, sym, ap, ap₂, ◌∙◌}
use mathlib.Core.Logic.{◌≢◌}
use mathlib.Core.Bool.{Bool, true, false, not, ◌&&◌}
use mathlib.Core.List.{List, []}
use Prim.Native.Nat.{ℕ, zero, suc, ◌+◌, ◌-◌, ◌^◌, ◌≤◌, ◌<◌}
use native.Mathlib.Decide.{dec_lt, ℕ_discrete}
use native.Mathlib.Omega.{arith}
use lib.Pow.{pow_mono}
use lib.Dec.{eqb, leb}
use lib.ListN.{length, get_or}
use mir.Syntax.{w32}
use mir.Val.{Fits}
use borrow.Author.Tests.{eqb-true, eq-eqb, ne_eqb, leb-true, le-leb, lt-leb, not-true}
use Rattle.std.proofs.lemmas.Grind.{get_or_default_zero}
use Rattle.std.proofs.lemmas.List.{get_or_past}
use Rattle.finite.specs.Tests.{pick, implies, all, first, any, tabulate}
use Rattle.finite.specs.Sets.{has}
use Rattle.finite.proofs.Testing.{clash, all_at, all_intro, implies_at, pick_false}
use Rattle.std.proofs.lemmas.Bool.{and_from, and_parts, and_right}
use Rattle.finite.proofs.Elements.{has_none, has_all}
use Rattle.design.specs.Limits.{greatest_shares, broken}
use Rattle.design.proofs.Limits.{bounds}
use Rattle.direct.specs.Direct.{is_outside, loads, Loads, named_component, placed, component_for, published, placement_3, placement_4, placement_5}
use Rattle.direct.specs.Inside.Outside.{Outside}
use Rattle.direct.proofs.Bench.{published_three, published_four, published_five}

-- ---- the component of a set by the table

named_less : (c : ℕ) → named_component c ≡ c - 1
named_less zero = omega arith
named_less (suc c) = omega arith

-- at a set, which is not the empty one
placed_set : (s : ℕ) (l : List ℕ) (J : ℕ) → J ≢ 0 → placed s l J ≡ get_or l (J - 1) (s + 1) - 1
unfolding placed
placed_set s l zero n = absurd (n refl)
placed_set s l (suc i) n = named_less _ ∙ ap (λ (x : ℕ). get_or l x (s + 1) - 1) (omega arith)

module _ (s : ℕ) (l : List ℕ) (J : ℕ) where
  pub placed_constant : J ≡ 0 → 0 ≡ placed s l J
  unfolding placed
  placed_constant z = rw z refl

  module _ (some : J ≢ 0) where
    pub placed_past : length l < J → s ≡ placed s l J
    placed_past h = sym (placed_set s l J some ∙ ap (λ (c : ℕ). c - 1) (get_or_past l (J - 1) (s + 1) (omega arith)) ∙ omega arith)

    pub placed_byte : J ≤ length l → (c : ℕ) → c ≡ get_or l (J - 1) 0 → c - 1 ≡ placed s l J
    placed_byte h c e = ap (λ (x : ℕ). x - 1) (e ∙ sym (get_or_default_zero l (J - 1) (s + 1) (omega arith))) ∙ sym (placed_set s l J some)

-- ---- the tests, and the same as propositions

module _ (s : ℕ) (l : List ℕ) where
  pub loaded : loads s l ≡ true → Loads s l
  unfolding loads is_outside
  loaded e =
      let each = λ (i : ℕ) (h : i < 2 ^ s - 2). all_at (2 ^ s - 2) _ (and_parts (eqb (length l) (2 ^ s - 2)) _ e).1 i h in
      record {
        size = eqb-true _ _ (and_parts _ _ e).0;
        least = λ i h. leb-true _ _ (and_parts (leb 1 (get_or l i 0)) _ (and_parts (leb 1 (get_or l i 0) && leb (get_or l i 0) s) _ (each i h)).0).0;
        most = λ i h. leb-true _ _ (and_parts (leb 1 (get_or l i 0)) _ (and_parts (leb 1 (get_or l i 0) && leb (get_or l i 0) s) _ (each i h)).0).1;
        outside = λ i h. not-true _ (and_parts (leb 1 (get_or l i 0) && leb (get_or l i 0) s) _ (each i h)).1;
      }

  pub loading : Loads s l → loads s l ≡ true
  unfolding loads is_outside
  loading a =
      and_from _ _ (eq-eqb _ _ a.size)
      (all_intro (2 ^ s - 2) _ (λ i h. and_from _ _ (and_from _ _ (le-leb _ _ (a.least i h)) (le-leb _ _ (a.most i h))) (ap not (a.outside i h))))

-- ---- `loads`: k is how many sets of shares there are

module _ (s k : ℕ) (e : k ≡ 2 ^ s) where
  pub two_sets : 1 ≤ s → 2 ≤ k
  two_sets h = omega (arith, pow_mono h)

  module _ (l : List ℕ) where
    pub size_right : length l ≡ k - 2 → all (k - 2) (λ i. is_outside s (i + 1) (get_or l i 0)) ≡ loads s l
    unfolding loads
    size_right z =
        ap₂ ◌&&◌ (sym (eq-eqb _ _ (z ∙ ap (λ (x : ℕ). x - 2) e))) (ap (λ (x : ℕ). all (x - 2) (λ i. is_outside s (i + 1) (get_or l i 0))) e)

    pub size_wrong : (length l ≡ k - 2 → ⊥) → eqb (length l) (k - 2) ≡ loads s l
    unfolding loads
    size_wrong f =
        ne_eqb _ _ f
        ∙ sym (ap (λ (b : Bool). b && all (2 ^ s - 2) (λ i. is_outside s (i + 1) (get_or l i 0)))
        (ne_eqb (length l) (2 ^ s - 2) (λ z. f (z ∙ sym (ap (λ (x : ℕ). x - 2) e)))))

-- i is a place in the table
module _ (s i : ℕ) (high : s ≤ greatest_shares) (l : i < 2 ^ s - 2) where
  pub set_fits : Fits w32 (i + 1)
  set_fits = record { fits = omega (arith, l, pow_mono high) }

  pub index_fits : Fits w32 i
  index_fits = record { fits = omega (arith, l, pow_mono high) }

pub shares_low : (s : ℕ) → s ≤ greatest_shares → s < 32
shares_low s h = omega arith

-- ---- a table that loads

module _ (s : ℕ) (l : List ℕ) (a : Loads s l) where
  at_set : (J : ℕ) → J ≢ 0 → J < 2 ^ s - 1 → placed s l J ≡ get_or l (J - 1) 0 - 1
  at_set J n h = sym (placed_byte s l J n (omega (arith, a.size)) (get_or l (J - 1) 0) refl)

  -- the set of all shares goes to none
  at_all : (J : ℕ) → J ≢ 0 → 2 ^ s - 1 ≤ J → placed s l J ≡ s
  at_all J n h = sym (placed_past s l J n (omega (arith, a.size)))

  pub placed_outside : Outside s (placed s l)
  placed_outside = record { some = some; outside = outside }
    where
      some : (J : ℕ) → J < 2 ^ s → (c : ℕ) → c < s → has J c ≡ false → placed s l J < s
      some J lJ c lc n = at (ℕ_discrete J 0) (dec_lt J (2 ^ s - 1))
        where
          at : Dec (J ≡ 0) → Dec (J < 2 ^ s - 1) → placed s l J < s
          at (yes z) d = omega (arith, placed_constant s l J z)
          at (no z) (yes h) = omega (arith, at_set J z h, a.least (J - 1) (omega arith), a.most (J - 1) (omega arith))
          at (no z) (no h) = let e : J ≡ 2 ^ s - 1 = omega arith in absurd (clash (ap (λ (x : ℕ). has x c) e ∙ has_all s c lc) n)

      outside : (J : ℕ) → J < 2 ^ s → (c : ℕ) → c < s → placed s l J ≡ c → has J c ≡ false
      outside J lJ c lc e = at (ℕ_discrete J 0) (dec_lt J (2 ^ s - 1))
        where
          at : Dec (J ≡ 0) → Dec (J < 2 ^ s - 1) → has J c ≡ false
          at (yes z) d = ap (λ (x : ℕ). has x c) z ∙ has_none c
          at (no z) (yes h) =
              let d : J ≡ J - 1 + 1 = omega arith in
              ap₂ has d (sym e ∙ at_set J z h) ∙ a.outside (J - 1) (omega arith)
          at (no z) (no h) = absurd (omega (arith, at_all J z (omega arith)))

pub outside_loaded : (s : ℕ) (l : List ℕ) → loads s l ≡ true → Outside s (placed s l)
outside_loaded s l e = placed_outside s l (loaded s l e)

-- ---- the published table, by computing for each number of shares

-- it loads, and each set of shares goes where the rule sends it
rule_loads : all 6 (λ s. implies (leb 3 s) (loads s (published s) && all (2 ^ s) (λ J. eqb (placed s (published s) J) (component_for s J)))) ≡ true
unfolding all any first tabulate loads is_outside published placed component_for has
rule_loads = refl

module _ (s : ℕ) (low : 3 ≤ s) (high : s ≤ 5) where
  of_rule : (loads s (published s) && all (2 ^ s) (λ J. eqb (placed s (published s) J) (component_for s J))) ≡ true
  of_rule = implies_at (leb 3 s) _ (all_at 6 _ rule_loads s (omega arith)) (le-leb 3 s low)

  pub published_loads : Loads s (published s)
  published_loads = loaded s (published s) (and_parts _ _ of_rule).0

  pub published_rule : (J : ℕ) → J < 2 ^ s → placed s (published s) J ≡ component_for s J
  published_rule J h = eqb-true _ _ (all_at (2 ^ s) _ (and_parts (loads s (published s)) _ of_rule).1 J h)

-- ---- the published tables in the code

pub of_three : (s : ℕ) → s ≡ 3 → placement_3 ≡ published s
of_three s e = sym (ap published e ∙ published_three)

pub of_four : (s : ℕ) → s ≡ 4 → placement_4 ≡ published s
of_four s e = sym (ap published e ∙ published_four)

pub of_five : (s : ℕ) → s ≡ 5 → placement_5 ≡ published s
of_five s e = sym (ap published e ∙ published_five)

pub of_none : (s : ℕ) → s ≢ 3 → s ≢ 4 → s ≢ 5 → [] ≡ published s
unfolding published
of_none s a b c = at (dec_lt s 3) (dec_lt 5 s)
  where
    at : Dec (s < 3) → Dec (5 < s) → [] ≡ pick (leb 3 s && leb s 5) (tabulate (2 ^ s - 2) (λ i. component_for s (i + 1) + 1)) []
    at (yes h) d = ap (λ (x : Bool). pick (x && leb s 5) (tabulate (2 ^ s - 2) (λ i. component_for s (i + 1) + 1)) []) (sym (lt-leb _ _ h))
    at (no h) (yes k) = sym (pick_false (leb 3 s && leb s 5) _ _ (and_right (leb 3 s) (leb s 5) (lt-leb _ _ k)))
    at (no h) (no k) = absurd (omega arith)

-- ---- `Rule::new`: the head has k stages

module _ (m s k : ℕ) (limits : broken m s k ≡ false) where
  pub shares_some : 1 ≤ s
  shares_some = omega (arith, (bounds m s k limits).s_low)

  pub shares_few : s ≤ greatest_shares
  shares_few = (bounds m s k limits).s_high
