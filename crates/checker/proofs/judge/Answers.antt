-- `judge` meets its contract: each way out is a law of `JudgingDesign`, whose premises `search` finds among what is known there.
use Rattle.checker.proofs.JudgingDesign.{unread_judged, unread_after, read_judged, read_after}
use Rattle.checker.proofs.judge.Goals as goal

pub returns-in-Ok : goal.returns-in-Ok
returns-in-Ok c = let e = c.in-Ok.ensures in search (read_judged, read_after)

pub returns-in-Err : goal.returns-in-Err
returns-in-Err c = let e = c.in-Err.ensures in search (unread_judged, unread_after)
