use Rattle.std.proofs.Common.{arith}
use Rattle.checker.proofs.JudgingStages.{stages_start, trials_fit, stages_stop, stages_go, stages_done}
use Rattle.checker.proofs.Workspace.{same_room, same_zeroed, same_through}
use Rattle.checker.proofs.judge_stages.Goals as goal

pub loop-t-init : goal.loop-t-init
loop-t-init c = search stages_start

pub judge_stage-stage-requires : goal.judge_stage-stage-requires
judge_stage-stage-requires c = search (arith, same_room, same_zeroed)

pub overflow_add-trials : goal.overflow_add-trials
overflow_add-trials c = search trials_fit

pub returns-in-Some-clause-value : goal.returns-in-Some-clause-value
returns-in-Some-clause-value c = search stages_stop

pub loop-t-preserved : goal.loop-t-preserved
loop-t-preserved c = search (stages_go, same_through)

pub returns-clause-value : goal.returns-clause-value
returns-clause-value c = search stages_done
