use Rattle.std.proofs.Common.{sym}
use Rattle.design.proofs.Reading.{walked_first, walk_stopped, walked_more, bytes_follow, walk_reads, walk_describes, start_fits, next_fits}
use Rattle.design.proofs.Layouts.{described, refused_as}
use Rattle.design.proofs.Bodies.{bytes_held}
use Rattle.design.specs.Layout.{Describes}
use Rattle.design.specs.Heads.{laid}
use Rattle.design.proofs.reader.walk.Goals as goal

pub loop-i-init : goal.loop-i-init
loop-i-init c = search walked_first

pub overflow_add-starts : goal.overflow_add-starts
overflow_add-starts c = let e = c.in-Ok.ensures in search start_fits

pub overflow_add-at : goal.overflow_add-at
overflow_add-at c = let e = c.in-Ok.ensures in search start_fits

pub overflow_add-at-in-Ok : goal.overflow_add-at-in-Ok
overflow_add-at-in-Ok c = let e = c.in-Ok.ensures in search next_fits

pub loop-i-preserved : goal.loop-i-preserved
loop-i-preserved c = let e = c.in-Ok.ensures in search walked_more

pub returns-in-Err-clause-reading : goal.returns-in-Err-clause-reading
returns-in-Err-clause-reading c = let e = c.in-Err.ensures in search (refused_as, walk_stopped)

pub returns-in-Err-clause-layout : goal.returns-in-Err-clause-layout
returns-in-Err-clause-layout c = let e = c.in-Err.ensures in search walk_stopped

pub returns-then-at-file-clause-reading : goal.returns-then-at-file-clause-reading
returns-then-at-file-clause-reading c = search (refused_as, bytes_follow)

pub returns-then-at-file-clause-layout : goal.returns-then-at-file-clause-layout
returns-then-at-file-clause-layout c = search bytes_follow

pub invariant_of-result : goal.invariant_of-result
invariant_of-result c =
    let d : Describes c.args.file.now (laid c.args.head c.loop-i.starts) = search walk_describes in
    record { bytes = search bytes_held; described = d; reads = (described d).reads; formed = (described d).formed }

pub returns-clause-reading : goal.returns-clause-reading
returns-clause-reading c =
    let d : Describes c.args.file.now (laid c.args.head c.loop-i.starts) = search walk_describes in sym (described d).reads

pub returns-clause-layout : goal.returns-clause-layout
returns-clause-layout c = search walk_reads
