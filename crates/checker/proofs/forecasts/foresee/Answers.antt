-- `foresee` meets its contract: each way out is a law of `Forecasting`.
use Rattle.std.proofs.lemmas.Result.{err_from_is_err_and}
use Rattle.checker.proofs.Forecasting.{none_foreseen, foreseen}
use Rattle.checker.proofs.forecasts.foresee.Goals as goal

pub returns-in_err-head : goal.returns-in_err-head
returns-in_err-head c =
    let p = err_from_is_err_and c.from_residual.result c.from_residual.ensures.1 in
    let e = c.in_err-head.ensures in
    rw (p.1, p.2) (search none_foreseen)

pub returns : goal.returns
returns c = let e = c.in_ok-head.ensures in search foreseen
