use Rattle.std.proofs.Common.{rules}
use Rattle.std.proofs.iter.runs.Made.{chains}
use Rattle.threshold.proofs.ChainRuns.{shares_fit_is}
use Rattle.threshold.proofs.runs.shares_fit.Goals as goal

pub returns : goal.returns
returns c = shares_fit_is _ _ _ _ (search (rules, chains)) (search (rules, chains))
