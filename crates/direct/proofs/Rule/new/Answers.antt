use Rattle.std.proofs.Common.{rules, tests}
use Rattle.design.proofs.Limits.{one_stage}
use Rattle.direct.proofs.PlacementTables.{shares_some, shares_few, outside_loaded}
use Rattle.direct.proofs.Rule.new.Goals as goal

pub loads-requires-clause-some : goal.loads-requires-clause-some
loads-requires-clause-some c = search shares_some

pub loads-requires-clause-few : goal.loads-requires-clause-few
loads-requires-clause-few c = search shares_few

pub invariant_of-result : goal.invariant_of-result
invariant_of-result c = record { limits = search one_stage; outside = outside_loaded _ _ (search (rules, tests)) }
