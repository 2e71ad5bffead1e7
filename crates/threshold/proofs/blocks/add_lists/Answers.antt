use Rattle.threshold.proofs.BlockOutputs.{added_start, added_more, added_end}
use Rattle.threshold.proofs.blocks.add_lists.Goals as goal

pub loop-i-init : goal.loop-i-init
loop-i-init c = search added_start

pub loop-i-preserved : goal.loop-i-preserved
loop-i-preserved c = search added_more

pub returns : goal.returns
returns c = search added_end
