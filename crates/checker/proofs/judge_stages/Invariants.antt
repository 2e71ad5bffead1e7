-- `judge_stages` meets its contract: the stages passed have no fault, so the verdict is that of the rest.
use Rattle.std.proofs.Common.{◌≡◌}
use Rattle.design.specs.Inside.Held.{design_of}
use Rattle.checker.proofs.JudgingStages.{FaultlessTo}
use Rattle.checker.proofs.judge_stages.Given as goal

abbrev pub invariant-loop-t : goal.invariant-loop-t
invariant-loop-t l = FaultlessTo (design_of l.design) l.t l.trials × (l.workspace ≡ l.initial.workspace)
