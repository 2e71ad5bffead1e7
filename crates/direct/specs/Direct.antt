-- The direct sharing of a box (RULES 9).
use Rattle.std.specs.Prelude.{ℕ, zero, suc, ◌+◌, ◌-◌, ◌*◌, ◌/◌, ◌%◌, ◌^◌, ◌≡◌, ◌<◌, ◌≤◌, Bool, false, not, ◌&&◌, List, [], ◌∷◌, length, get_or, eqb, leb}
use Rattle.finite.specs.Tests.{pick, all, any, first, total, bit, count, tabulate}
use Rattle.finite.specs.Sets.{has}
use Rattle.anf.specs.NormalForm.{subset_sum}
use Rattle.anf.specs.Terms.{passing}
use Rattle.anf.specs.Tables.{entry, Permutation}
use Rattle.design.specs.Limits.{least_shares, greatest_shares, WithinLimits}
use Rattle.records.specs.Design.{Stage, Design}
use Rattle.anf.specs.Tables.{TableFits}
use Rattle.sharing.specs.Sharing.{share}
use Rattle.sharing.specs.Stages.{Correct, NonComplete}

-- p is a product of the term u: a share is chosen for each variable of u, and p names that share's bit of it and no other
unfoldable pub is_product : ℕ → ℕ → ℕ → ℕ → Bool
is_product m s u p = all m (λ v. eqb (count s (λ j. has p (m * j + v))) (bit (has u v)))

-- the set J of the chosen shares of a product
unfoldable pub chosen : ℕ → ℕ → ℕ → ℕ
chosen m s p = total s (λ j. bit (not (eqb (share m j p) 0)) * 2 ^ j)

-- ---- the placement: to which component a product goes, by the set J of its chosen shares. Components are counted from 0 here, and from 1 in a table.

-- c is, counted from 1, one of s components outside the set J
unfoldable pub is_outside : ℕ → ℕ → ℕ → Bool
is_outside s J c = leb 1 c && leb c s && not (has J (c - 1))

-- A placement table loads: it has a byte for each set from 1 to 2^s - 2, set 1 first, and each is a component outside its set.
unfoldable pub loads : ℕ → List ℕ → Bool
loads s l = eqb (length l) (2 ^ s - 2) && all (2 ^ s - 2) (λ i. is_outside s (i + 1) (get_or l i 0))

-- the same as propositions
pub record Loads (s : ℕ) (l : List ℕ) : Type 0 where
  pub size : length l ≡ 2 ^ s - 2
  pub least : (i : ℕ) → i < 2 ^ s - 2 → 1 ≤ get_or l i 0
  pub most : (i : ℕ) → i < 2 ^ s - 2 → get_or l i 0 ≤ s
  pub outside : (i : ℕ) → i < 2 ^ s - 2 → has (i + 1) (get_or l i 0 - 1) ≡ false

-- the component that a byte names, which counts from 1; 0, which a placement that loads has nowhere, is taken for 1
abbrev pub named_component : ℕ → ℕ
named_component zero = 0
named_component (suc c) = c

-- The component by a table: the constant goes to the first, a set that has no byte, as that of all shares, to none, for which s stands.
unfoldable pub placed : ℕ → List ℕ → ℕ → ℕ
placed s l zero = 0
placed s l (suc i) = named_component (get_or l i (s + 1))

-- the component after c: after the last comes the first
abbrev pub after : ℕ → ℕ → ℕ
after s c = pick (eqb (c + 1) s) 0 (c + 1)

-- The published rule: the lowest component c outside J with the one after it in J. The constant goes to the first.
unfoldable pub component_for : ℕ → ℕ → ℕ
component_for s J = pick (eqb J 0) 0 (first s (λ c. not (has J c) && has J (after s c)))

-- the published placement: the rule as a table, for as many shares as there may be
unfoldable pub published : ℕ → List ℕ
published s = pick (leb least_shares s && leb s greatest_shares) (tabulate (2 ^ s - 2) (λ i. component_for s (i + 1) + 1)) []

-- the same, byte by byte: the theorems `published_three`, `published_four` and `published_five` say so
abbrev pub placement_3 : List ℕ
placement_3 = 3 ∷ 1 ∷ 3 ∷ 2 ∷ 2 ∷ 1 ∷ []

abbrev pub placement_4 : List ℕ
placement_4 = 4 ∷ 1 ∷ 4 ∷ 2 ∷ 2 ∷ 1 ∷ 4 ∷ 3 ∷ 3 ∷ 1 ∷ 3 ∷ 2 ∷ 2 ∷ 1 ∷ []

abbrev pub placement_5 : List ℕ
placement_5 = 5 ∷ 1 ∷ 5 ∷ 2 ∷ 2 ∷ 1 ∷ 5 ∷ 3 ∷ 3 ∷ 1 ∷ 3 ∷ 2 ∷ 2 ∷ 1 ∷ 5 ∷ 4 ∷ 4 ∷ 1 ∷ 4 ∷ 2 ∷ 2 ∷ 1 ∷ 4 ∷ 3 ∷ 3 ∷ 1 ∷ 3 ∷ 2 ∷ 2 ∷ 1 ∷ []

-- ---- the sharing by a placement

-- With the coefficient words of a box: p stands in the list of bit b of component c. It is a product of a term of output bit b, and goes to component c.
unfoldable pub stands : ℕ → ℕ → (ℕ → ℕ) → (ℕ → ℕ) → ℕ → ℕ → ℕ → Bool
stands m s place words c b p = any (2 ^ m) (λ u. is_product m s u p && has (words u) b) && eqb (place (chosen m s p)) c

-- these products in rising order
unfoldable pub direct_list : ℕ → ℕ → (ℕ → ℕ) → (ℕ → ℕ) → ℕ → ℕ → List ℕ
direct_list m s place words c b = passing (2 ^ (m * s)) (stands m s place words c b)

-- component 1 first, in each component bit 0 first
unfoldable pub direct_lists : ℕ → ℕ → (ℕ → ℕ) → (ℕ → ℕ) → List (List ℕ)
direct_lists m s place words = tabulate (m * s) (λ i. direct_list m s place words (i / m) (i % m))

unfoldable pub direct_stage : ℕ → ℕ → (ℕ → ℕ) → List ℕ → Stage
direct_stage m s place t = record { table = t; lists = direct_lists m s place (subset_sum m (entry t)) }

-- one stage, with G equal to S
unfoldable pub direct_sharing : ℕ → ℕ → (ℕ → ℕ) → List ℕ → Design
direct_sharing m s place t = record { m = m; s = s; k = 1; box = t; stages = direct_stage m s place t ∷ [] }

-- some component functions, whatever they are, share the table correctly and non-completely with s shares (RULES 9.9)
pub record Shareable (m s : ℕ) (t : List ℕ) : Type 0 where
  pub F : ℕ → ℕ → ℕ
  pub correct : Correct m s F t
  pub non_complete : NonComplete m s F

-- a permutation table within the limits
pub record Box (m s : ℕ) (t : List ℕ) : Type 0 where
  pub limits : WithinLimits m s 1
  pub table : TableFits m t
  pub injective : Permutation m t
