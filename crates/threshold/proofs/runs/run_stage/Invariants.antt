-- `run_stage`: the places below j hold what the components give, the others 0.
use Rattle.records.specs.Design.{stage_of}
use Rattle.design.specs.Inside.Held.{design_of}
use Rattle.threshold.proofs.ChainRuns.{FilledBelow}
use Rattle.threshold.proofs.runs.run_stage.Given as goal

abbrev pub invariant-loop-j : goal.invariant-loop-j
invariant-loop-j l = FilledBelow l.design.head.m (stage_of (design_of l.design) l.t).lists l.x l.j l.out
