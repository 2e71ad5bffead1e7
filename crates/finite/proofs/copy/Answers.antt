-- `copy` meets its contract: none is written, one more is, all are.
use Rattle.std.proofs.Common.{arith}
use Rattle.finite.proofs.Copying.{copied_none, copied_more, copied_all}
use Rattle.finite.proofs.copy.Goals as goal

pub loop-i-init : goal.loop-i-init
loop-i-init c = search (arith, copied_none)

pub loop-i-preserved : goal.loop-i-preserved
loop-i-preserved c = search (arith, copied_more)

pub returns : goal.returns
returns c = search copied_all
