-- The direct sharing by computing: the lists of a small box by two placements, the products of xy that go to component 1, and the published placements.
use Prim.Native.Nat.{ℕ, ◌^◌}
use mathlib.Core.Path.{◌≡◌, refl}
use mathlib.Core.Bool.{◌&&◌}
use mathlib.Core.List.{[], ◌∷◌}
use lib.Dec.{eqb}
use Rattle.finite.specs.Tests.{all, any, first, total, tabulate}
use Rattle.finite.specs.Sums.{xor_below}
use Rattle.finite.specs.Sets.{subset, has}
use Rattle.anf.specs.NormalForm.{subset_sum}
use Rattle.anf.specs.Terms.{passing}
use Rattle.sharing.specs.Sharing.{share}
use Rattle.direct.specs.Direct.{is_product, chosen, placed, component_for, published, placement_3, placement_4, placement_5, stands, direct_list, direct_lists, direct_stage}

-- the definitions that computing opens
unfoldable computing : ℕ
unfolding all any first total tabulate xor_below subset has subset_sum passing share is_product chosen placed component_for published stands direct_list direct_lists direct_stage
computing = 0

-- the box 1 0 with three shares, by the published rule and by another table
pub bench_lists : (direct_stage 1 3 (component_for 3) (1 ∷ 0 ∷ [])).lists ≡ (0 ∷ 2 ∷ []) ∷ (4 ∷ []) ∷ (1 ∷ []) ∷ []
unfolding computing
bench_lists = refl

pub bench_placed : (direct_stage 1 3 (placed 3 (2 ∷ 3 ∷ 3 ∷ 1 ∷ 2 ∷ 1 ∷ [])) (1 ∷ 0 ∷ [])).lists ≡ (0 ∷ 4 ∷ []) ∷ (1 ∷ []) ∷ (2 ∷ []) ∷ []
unfolding computing
bench_placed = refl

-- for three shares and a product xy, component 1 gets x2y2, x3y2, x2y3
pub xy_first : passing (2 ^ 6) (λ p. is_product 2 3 3 p && eqb (component_for 3 (chosen 2 3 p)) 0) ≡ 12 ∷ 24 ∷ 36 ∷ []
unfolding computing
xy_first = refl

-- the published placements
pub published_three : published 3 ≡ placement_3
unfolding computing
published_three = refl

pub published_four : published 4 ≡ placement_4
unfolding computing
published_four = refl

pub published_five : published 5 ≡ placement_5
unfolding computing
published_five = refl
