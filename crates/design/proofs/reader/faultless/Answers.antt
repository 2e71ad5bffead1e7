-- `design::faultless` meets its contract: the frame's fault first, then that of the body by its kind.
use Rattle.std.proofs.lemmas.Result.{err_from_is_err_and}
use Rattle.design.proofs.Faults.{frame_fault_lem, body_length, no_body_fault, table_good, table_bad, list_good, list_bad}
use Rattle.design.proofs.reader.faultless.Goals as goal

pub returns-in_err-body-clause-fault : goal.returns-in_err-body-clause-fault
returns-in_err-body-clause-fault c =
    let p = err_from_is_err_and c.from_residual.result c.from_residual.ensures.1 in
    let e = c.in_err-body.ensures in
    rw (p.1, p.2) (search frame_fault_lem)

pub returns-then-entries_below-clause-fault : goal.returns-then-entries_below-clause-fault
returns-then-entries_below-clause-fault c = let e = c.in_ok-body.ensures in search table_good

pub returns-then-entries_below-clause-size : goal.returns-then-entries_below-clause-size
returns-then-entries_below-clause-size c = let e = c.in_ok-body.ensures in search body_length

pub returns-then-terms_fit-clause-fault : goal.returns-then-terms_fit-clause-fault
returns-then-terms_fit-clause-fault c = let e = c.in_ok-body.ensures in search list_good

pub returns-then-terms_fit-clause-size : goal.returns-then-terms_fit-clause-size
returns-then-terms_fit-clause-size c = let e = c.in_ok-body.ensures in search body_length

pub returns-else-entries_below-clause-fault : goal.returns-else-entries_below-clause-fault
returns-else-entries_below-clause-fault c = let e = c.in_ok-body.ensures in search table_bad

pub returns-else-terms_fit-clause-fault : goal.returns-else-terms_fit-clause-fault
returns-else-terms_fit-clause-fault c = let e = c.in_ok-body.ensures in search list_bad

pub returns-in-Head-clause-fault : goal.returns-in-Head-clause-fault
returns-in-Head-clause-fault c = let e = c.in_ok-body.ensures in search no_body_fault

pub returns-in-Head-clause-size : goal.returns-in-Head-clause-size
returns-in-Head-clause-size c = let e = c.in_ok-body.ensures in search body_length
