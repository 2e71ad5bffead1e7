use Rattle.threshold.proofs.ChainRuns.{unfit, run_start, run_fits, run_more, run_end}
use Rattle.threshold.proofs.runs.run_chain.Goals as goal

pub returns-then-not-shares_fit : goal.returns-then-not-shares_fit
returns-then-not-shares_fit c = search unfit

pub loop-t-init : goal.loop-t-init
loop-t-init c = search run_start

pub run_stage-next-requires : goal.run_stage-next-requires
run_stage-next-requires c = search run_fits

pub loop-t-preserved : goal.loop-t-preserved
loop-t-preserved c = search run_more

pub returns : goal.returns
returns c = search run_end fits 5000
