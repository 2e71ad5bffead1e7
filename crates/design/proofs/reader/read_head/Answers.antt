-- `design::read_head` meets its contract: the frame's fault first, then the constructor's answer for the three bytes.
use Rattle.std.proofs.Common.{lit<}
use Rattle.std.proofs.lemmas.Result.{err_from_is_err_and}
use Rattle.design.proofs.Reading.{head_cut, head_there, head_answered}
use Rattle.design.proofs.reader.read_head.Goals as goal

pub returns-in_err-body : goal.returns-in_err-body
returns-in_err-body c =
    let p = err_from_is_err_and c.from_residual.result c.from_residual.ensures.1 in
    let e = c.in_err-body.ensures in
    rw (p.1, p.2) (search head_cut)

pub bounds-body-0 : goal.bounds-body-0
bounds-body-0 c = let e = c.in_ok-body.ensures in search (lit<, head_there)

pub bounds-body-1 : goal.bounds-body-1
bounds-body-1 c = let e = c.in_ok-body.ensures in search (lit<, head_there)

pub bounds-body-2 : goal.bounds-body-2
bounds-body-2 c = let e = c.in_ok-body.ensures in search (lit<, head_there)

pub returns : goal.returns
returns c = let e = c.in_ok-body.ensures in search head_answered
