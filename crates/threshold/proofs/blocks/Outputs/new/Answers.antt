-- `Outputs::new`: all outputs are left.
use Rattle.threshold.proofs.BlockOutputs.{outputs_all}
use Rattle.threshold.proofs.blocks.Outputs.new.Goals as goal

pub returns : goal.returns
returns c = search outputs_all
