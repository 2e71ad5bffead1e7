-- `fill`: the sums over subsets of what all lists add are the outputs.
use Rattle.threshold.proofs.BlockOutputs.{filled}
use Rattle.threshold.proofs.blocks.fill.Goals as goal

pub returns : goal.returns
returns c = search filled
