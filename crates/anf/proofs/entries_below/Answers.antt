use Rattle.std.proofs.Common.{rules, tests}
use Rattle.std.proofs.lemmas.Iterator.{YieldsList-from_slice}
use Rattle.std.proofs.lemmas.Iterator.Search.{all_from_yields_List}
use lib.Dec.{ltb}
use Rattle.anf.proofs.Tables.{all_below}
use Rattle.anf.proofs.entries_below.Goals as goal

pub returns : goal.returns
returns c =
    all_below _ _ _
    (all_from_yields_List (λ e. ltb e c.args.bound) _ _ _ c.all.ensures.ran (YieldsList-from_slice c.args.table.now cc) (λ x b f k. search (rules, tests)))
