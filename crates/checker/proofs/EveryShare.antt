-- Whether a component depends on every share: the laws of `variables_of` and `offending`, over plain values.
-- Assumes nothing.
use mathlib.Core.Path.{◌≡◌, refl, sym, ap, ap₂, ◌∙◌}
use mathlib.Core.List.{List, [], ◌∷◌}
use mathlib.Core.Bool.{Bool, true, false, ◌||◌, or_assoc}
use lib.ListN.{length, get_or}
use Prim.Native.Nat.{ℕ, ◌+◌, ◌*◌, ◌^◌, ◌<◌, ◌≤◌, ◌-◌, ◌%◌}
use native.Mathlib.Omega.{arith}
use lib.Pow.{pow_pos, pow_mono, shl_exact}
use native.Mathlib.Nat.{mul-le-mul}
use lib.Bits.{bit_or}
use Rattle.finite.specs.Tests.{any}
use Rattle.finite.proofs.Testing.{or_false_right, all_at, all_intro, all_fails, all_congr, any_at, any_some, any_step, any_none_more}
use Rattle.anf.specs.Terms.{named, names}
use Rattle.anf.proofs.Terms.{named_or}
use Rattle.design.specs.Limits.{broken}
use Rattle.records.specs.Design.{Stage}
use Rattle.design.specs.WellFormed.{StageFits}
use Rattle.design.proofs.Limits.{bounds}
use Rattle.sharing.specs.Inside.Variables.{variables, names_every}
use Rattle.sharing.specs.Stages.{depends_on, depends_on_all}
use Rattle.std.specs.Prelude.{Option, Some, None}
use Rattle.checker.specs.Inside.Parts.{found, lists_name}
use Rattle.checker.proofs.Passes.{found_at, found_none}
use Rattle.sharing.proofs.Sharing.{place_lt}
use Rattle.sharing.proofs.Dependence.{depends_listed}

-- ---- `variables_of`: p is the number of points of m variables

module _ (m s k : ℕ) (limits : broken m s k ≡ false) where
  module _ (j : ℕ) (hj : j < s) where
    low_places : m * j ≤ 24
    low_places = let b = bounds m s k limits in mul-le-mul {n₁ = m} {m₁ = j} {n₂ = 6} {m₂ = 4} b.m_high (omega (arith, b.s_high))

    -- the shift is of a place in the word, and fits every width
    pub place_below_32 : m * j < 32
    place_below_32 = omega (arith, low_places)

    pub place_fits_32 : m * j < 2 ^ 32
    place_fits_32 = omega (arith, low_places)

    pub place_fits_64 : m * j < 2 ^ 64
    place_fits_64 = omega (arith, low_places)

    pub variables_shifted : (p : ℕ) → p ≡ 2 ^ m - 1 → p * 2 ^ (m * j) % 2 ^ 32 ≡ variables m j
    unfolding variables
    variables_shifted p e =
        let q : 2 ^ m ≤ 2 ^ 6 = pow_mono (bounds m s k limits).m_high in
        rw e (shl_exact 6 (m * j) 32 (omega (arith, pow_pos m)) (omega (arith, low_places)))

    -- list b of component j
    module _ (b : ℕ) (c : b < m) where
      pub place_fits : m * j + b < 2 ^ 64
      place_fits = omega (arith, place_lt m s j b hj c, (bounds m s k limits).bits)

-- list b of component j is there
pub list_there : (m s : ℕ) (held : List (List ℕ)) → length held ≡ m * s → (j b : ℕ) → j < s → b < m → m * j + b < length held
list_there m s held many j b hj hb = omega (arith, many, place_lt m s j b hj hb)

-- ---- `offending`: component j depends on every share exactly where its terms name a variable of every share

-- the set has the variables that the first b lists of component j name, and none of some share
pub record OfLists (m s : ℕ) (ls : List (List ℕ)) (j b set : ℕ) : Type 0 where
  pub gathers : (group : ℕ) → named group set ≡ lists_name b m ls j group
  pub lacks : names_every m s set ≡ false

-- the set, with what the terms ts that are left of list b name, has the variables that the first b + 1 lists name
pub record OfTerms (m s : ℕ) (ls : List (List ℕ)) (j b set : ℕ) (ts : List ℕ) : Type 0 where
  pub gathers : (group : ℕ) → (named group set || names group ts) ≡ lists_name (b + 1) m ls j group
  pub lacks : names_every m s set ≡ false

-- none of the first j components depends on every share
unfoldable pub NoComponent : ℕ → ℕ → Stage → ℕ → Type 0
NoComponent m s g j = any j (depends_on_all m s g) ≡ false

pub no_component_yet : (m s : ℕ) (g : Stage) → NoComponent m s g 0
unfolding NoComponent any
no_component_yet m s g = refl

module _ (m s : ℕ) (ls : List (List ℕ)) (j : ℕ) where
  -- no list yet
  pub lists_start : j < s → OfLists m s ls j 0 0
  unfolding any names_every
  lists_start k = record {
    gathers = λ group. refl;
    lacks = all_fails s (λ e. named (variables m e) 0) 0 (omega arith) refl;
  }

  module _ (b set : ℕ) where
    -- no term of list b yet, of the lists as they are held
    pub terms_start : OfLists m s ls j b set → (held : List (List ℕ)) → held ≡ ls → (list : List ℕ) → list ≡ get_or held (m * j + b) [] → (ts : List ℕ) → ts ≡ list
        → OfTerms m s ls j b set ts
    terms_start so held h list q ts e = record {
      gathers = λ group. ap₂ ◌||◌ (so.gathers group) (ap (names group) (e ∙ q ∙ ap (λ (x : List (List ℕ)). get_or x (m * j + b) []) h))
          ∙ sym (any_step b (λ i. names group (get_or ls (m * j + i) [])));
      lacks = so.lacks;
    }

    module _ (ts : List ℕ) (so : OfTerms m s ls j b set ts) where
      -- one more term, r is whether the set has then a variable of every share
      module _ (t : ℕ) (rest : List ℕ) (e : ts ≡ t ∷ rest) (r : Bool) (er : r ≡ names_every m s (bit_or set t)) where
        pub gathers_more : (group : ℕ) → (named group (bit_or set t) || names group rest) ≡ lists_name (b + 1) m ls j group
        unfolding names
        gathers_more group =
            ap (λ (x : Bool). x || names group rest) (named_or group set t) ∙ or_assoc (named group set) (named group t) (names group rest)
            ∙ ap (λ (l : List ℕ). named group set || names group l) (sym e) ∙ so.gathers group

        pub terms_more : r ≡ false → OfTerms m s ls j b (bit_or set t) rest
        terms_more q = record { gathers = gathers_more; lacks = sym er ∙ q }

      -- all of them passed
      pub lists_more : ts ≡ [] → OfLists m s ls j (b + 1) set
      unfolding names
      lists_more e = record {
        gathers = λ group. sym (or_false_right (named group set) _ refl) ∙ ap (λ (l : List ℕ). named group set || names group l) (sym e) ∙ so.gathers group;
        lacks = so.lacks;
      }

module _ (m s : ℕ) (g : Stage) (fits : StageFits m s g) (j : ℕ) (u : j < s) where
  depends_lists : (e : ℕ) → depends_on m s g j e ≡ lists_name m m g.lists j (variables m e)
  depends_lists e = depends_listed m s g j e u (λ i c. (fits.list i c).terms)

  module _ (none : NoComponent m s g j) where
    -- a term with which the set has a variable of every share
    pub offending_found : (b set : ℕ) (ts : List ℕ) → b < m → OfTerms m s g.lists j b set ts → (y : ℕ) (rest : List ℕ) → ts ≡ y ∷ rest
        → (r : Bool) → r ≡ names_every m s (bit_or set y) → r ≡ true → Some j ≡ found s (depends_on_all m s g)
    unfolding NoComponent depends_on_all names_every
    offending_found b set ts c so y rest e r er q =
        found_at s (depends_on_all m s g) j u none
        (all_intro s _ (λ a la. depends_lists a ∙ named_all (variables m a) (all_at s _ (sym er ∙ q) a la)))
      where
        named_all : (group : ℕ) → named group (bit_or set y) ≡ true → lists_name m m g.lists j group ≡ true
        named_all group is =
            let p = any_some (b + 1) _ (sym (gathers_more m s g.lists j b set ts so y rest e r er group) ∙ ap (λ (x : Bool). x || names group rest) is) in
            any_at m _ p.0 (omega (arith, p.1)) p.2

    -- a component, all its lists passed
    pub no_component_more : (b set : ℕ) → OfLists m s g.lists j b set → b ≤ m → m ≤ b → NoComponent m s g (j + 1)
    unfolding NoComponent depends_on_all names_every
    no_component_more b set so up low =
        let z : b ≡ m = omega arith in
        any_none_more j (depends_on_all m s g) none
        (all_congr s _ _ (λ e le. depends_lists e ∙ sym (so.gathers (variables m e) ∙ ap (λ (x : ℕ). lists_name x m g.lists j (variables m e)) z)) ∙ so.lacks)

-- all components passed
pub offending_none : (m s : ℕ) (g : Stage) (j : ℕ) → NoComponent m s g j → j ≤ s → s ≤ j → (r : Option ℕ) → r ≡ None → r ≡ found s (depends_on_all m s g)
unfolding NoComponent
offending_none m s g j so up low r e = let z : j ≡ s = omega arith in e ∙ found_none s (depends_on_all m s g) (rw z at so)
