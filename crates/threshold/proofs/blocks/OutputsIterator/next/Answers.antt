-- `next`: nothing is left past the last sharing; else the first that is left stands in its block.
use Rattle.threshold.proofs.BlockOutputs.{outputs_none, output_given, fewer_left}
use Rattle.threshold.proofs.blocks.OutputsIterator.next.Goals as goal

pub returns-then-x-len-ne0-clause-steps : goal.returns-then-x-len-ne0-clause-steps
returns-then-x-len-ne0-clause-steps c = search outputs_none

pub returns-clause-steps : goal.returns-clause-steps
returns-clause-steps c = search output_given

pub returns-clause-goes : goal.returns-clause-goes
returns-clause-goes c = record { on = λ _. (tt, tt, search fewer_left); keeps = tt; rests = λ _. tt }
