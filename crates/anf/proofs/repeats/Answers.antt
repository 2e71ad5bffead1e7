use Rattle.std.proofs.Common.{rules, tests}
use Rattle.std.proofs.lemmas.Iterator.{YieldsList-from_slice}
use Rattle.std.proofs.lemmas.Iterator.Consumers.{YieldsList-from_enumerate}
use Rattle.std.proofs.lemmas.Iterator.Search.{any_from_yields_List}
use Rattle.anf.proofs.Tables.{any_before, met_at}
use Rattle.anf.proofs.repeats.Goals as goal

pub returns : goal.returns
returns c =
    any_before _ _
    (any_from_yields_List (met_at c.args.table.now) _ _ _ c.any.ensures.ran
    (YieldsList-from_enumerate (YieldsList-from_slice c.args.table.now cc) (search rules)) (λ x b f k. search (rules, tests)))
