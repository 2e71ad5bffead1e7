-- `output_of`: y is the output of the lists passed.
use Rattle.design.specs.Inside.Lists.{lists_held}
use Rattle.threshold.proofs.EngineValues.{OutputFrom}
use Rattle.threshold.proofs.engine.output_of.Given as goal

abbrev pub invariant-loop-i : goal.invariant-loop-i
invariant-loop-i l = OutputFrom (lists_held l.lists) l.x l.i l.y
