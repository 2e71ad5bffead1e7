-- `design::read` meets its contract: the head record by `read_head`, the others by `walk`.
use Rattle.design.proofs.Layouts.{refused_as}
use Rattle.design.proofs.Reading.{head_found, head_sound, read_refused}
use Rattle.design.proofs.reader.read.Goals as goal

pub walk-requires : goal.walk-requires
walk-requires c = let e = c.in-Ok.ensures in search (head_found, head_sound)

pub returns-in-Err-clause-reading : goal.returns-in-Err-clause-reading
returns-in-Err-clause-reading c = let e = c.in-Err.ensures in search (refused_as, read_refused)

pub returns-in-Err-clause-layout : goal.returns-in-Err-clause-layout
returns-in-Err-clause-layout c = let e = c.in-Err.ensures in search read_refused
