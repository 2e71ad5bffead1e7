use Rattle.threshold.proofs.ChainRuns.{out_start, share_byte, place_of_five, out_more, out_end}
use Rattle.threshold.proofs.runs.run_stage.Goals as goal

pub loop-j-init : goal.loop-j-init
loop-j-init c = search out_start

pub overflow_cast-out : goal.overflow_cast-out
overflow_cast-out c = search share_byte

pub bounds-out-j : goal.bounds-out-j
bounds-out-j c = search place_of_five

pub loop-j-preserved : goal.loop-j-preserved
loop-j-preserved c = search out_more

pub returns : goal.returns
returns c = search out_end
