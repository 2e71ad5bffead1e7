use Rattle.sharing.proofs.Tables.{chained_none}
use Rattle.checker.proofs.Chaining.{chained_within, chained_step, chained_end}
use Rattle.checker.proofs.tables.chained.Goals as goal

pub loop-t-init : goal.loop-t-init
loop-t-init c = search chained_none

pub bounds-table-y : goal.bounds-table-y
bounds-table-y c = search chained_within

pub loop-t-preserved : goal.loop-t-preserved
loop-t-preserved c = search chained_step

pub returns : goal.returns
returns c = search chained_end
