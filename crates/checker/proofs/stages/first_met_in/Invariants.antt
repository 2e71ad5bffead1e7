-- `first_met_in` meets its contract: the outputs of the sharings passed are marked, none of them twice.
use Rattle.std.proofs.Common.{◌^◌, length}
use Rattle.design.specs.Inside.Lists.{lists_held}
use Rattle.sharing.specs.Stages.{output}
use Rattle.checker.proofs.Marking.{MarkedTo}
use Rattle.checker.proofs.stages.first_met_in.Given as goal

abbrev pub invariant-loop-x : goal.invariant-loop-x
invariant-loop-x l = MarkedTo (2 ^ length (lists_held l.lists)) (output (lists_held l.lists)) l.initial.workspace l.workspace (length l.yielded)
