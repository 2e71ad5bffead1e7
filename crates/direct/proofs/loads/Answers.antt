-- `loads` meets its contract: the number of bytes, and then each byte.
use Rattle.std.proofs.Common.{ℕ, Bool, ◌+◌, ◌-◌, ◌∙◌, refl, rules, tests, arith, get_or}
use Rattle.std.proofs.lemmas.Iterator.{YieldsList-from_range}
use Rattle.std.proofs.lemmas.Iterator.Search.{all_from_yields_List}
use Rattle.finite.proofs.Lists.{all_range}
use Rattle.direct.specs.Direct.{is_outside}
use Rattle.direct.proofs.PlacementTables.{two_sets, size_right, size_wrong}
use Rattle.direct.proofs.loads.Goals as goal

pub overflow_sub-sets : goal.overflow_sub-sets
overflow_sub-sets c = search two_sets

pub returns-then-placement-sets : goal.returns-then-placement-sets
returns-then-placement-sets c =
    let n = c.power-sets.result - 2 in
    let p : ℕ → Bool = λ i. is_outside c.args.s (i + 1) (get_or c.args.placement.now i 0) in
    all_from_yields_List p _ _ _ c.all.ensures.ran (YieldsList-from_range 0 n n refl (omega arith)) (λ j b q k. (search rules, search (rules, tests)))
    ∙ all_range n p
    ∙ search size_right

pub returns-else-placement-sets : goal.returns-else-placement-sets
returns-else-placement-sets c = search size_wrong
