use Rattle.threshold.proofs.EngineValues.{from_start, from_fits, from_more, from_end, from_lt}
use Rattle.threshold.proofs.engine.output_of.Goals as goal

pub loop-i-init : goal.loop-i-init
loop-i-init c = search from_start

pub overflow_add-y : goal.overflow_add-y
overflow_add-y c = search from_fits

pub loop-i-preserved : goal.loop-i-preserved
loop-i-preserved c = search from_more

pub returns : goal.returns
returns c = search (from_end, from_lt)
