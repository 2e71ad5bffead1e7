use Rattle.std.proofs.Math.Nat.{sub-zero}
use Rattle.threshold.proofs.EngineValues.{sum_more, sum_end, sum_small}
use Rattle.threshold.proofs.engine.sum_of.Goals as goal

pub loop-init : goal.loop-init
loop-init c = rw sub-zero

pub loop-preserved : goal.loop-preserved
loop-preserved c = search sum_more

pub returns : goal.returns
returns c = search (sum_end, sum_small)
