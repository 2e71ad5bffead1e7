-- `joiner::join` meets its contract: the first is read, then the second.
use Rattle.std.proofs.lemmas.Result.{err_from_is_err_and}
use Rattle.records.proofs.Output.{answered}
use Rattle.joiner.proofs.JoiningDesigns.{first_unread, second_unread, same_answer, same_output}
use Rattle.joiner.proofs.join.Goals as goal

pub returns-in_err-a : goal.returns-in_err-a
returns-in_err-a c =
    let p = err_from_is_err_and c.from_residual.result c.from_residual.ensures.1 in
    let e = c.in_err-a.ensures in
    rw (p.1, p.2) (answered (search first_unread))

pub returns-in_err-b : goal.returns-in_err-b
returns-in_err-b c =
    let p = err_from_is_err_and c.from_residual-in_err-b.result c.from_residual-in_err-b.ensures.1 in
    let a = c.in_ok-a.ensures in
    let e = c.in_err-b.ensures in
    rw (p.1, p.2) (answered (search second_unread))

pub returns-clause-value : goal.returns-clause-value
returns-clause-value c = let a = c.in_ok-a.ensures in let b = c.in_ok-b.ensures in search same_answer

pub returns-clause-output_after : goal.returns-clause-output_after
returns-clause-output_after c = let a = c.in_ok-a.ensures in let b = c.in_ok-b.ensures in search same_output
