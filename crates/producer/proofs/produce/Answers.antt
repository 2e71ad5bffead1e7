-- `produce` meets its contract, by the head of m and s, if there is one.
use Rattle.std.proofs.lemmas.Result.{err_from_is_err_and}
use Rattle.records.proofs.Output.{answered}
use Rattle.producer.proofs.ProducingFor.{beyond, head_value, head_output}
use Rattle.producer.proofs.produce.Goals as goal

pub returns-in_err-head : goal.returns-in_err-head
returns-in_err-head c =
    let p = err_from_is_err_and c.from_residual.result c.from_residual.ensures.1 in
    rw (p.1, p.2) (answered (beyond _ _ _ c.in_err-head.ensures _ _ _))

pub returns-clause-value : goal.returns-clause-value
returns-clause-value c = search (head_value, c.in_ok-head.ensures)

pub returns-clause-output_after : goal.returns-clause-output_after
returns-clause-output_after c = search (head_output, c.in_ok-head.ensures)
