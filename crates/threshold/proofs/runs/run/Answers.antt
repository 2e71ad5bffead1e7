-- `run`: a file that does not read is refused, another is run.
use Rattle.std.proofs.lemmas.Result.{err_from_is_err_and}
use Rattle.threshold.proofs.ChainRuns.{unread, read_run}
use Rattle.threshold.proofs.runs.run.Goals as goal

pub returns-in_err-read : goal.returns-in_err-read
returns-in_err-read c =
    let p = err_from_is_err_and c.from_residual.result c.from_residual.ensures.1 in
    let e = c.in_err-read.ensures in
    rw (p.1, p.2) (search unread)

pub returns : goal.returns
returns c = let e = c.in_ok-read.ensures in search read_run
