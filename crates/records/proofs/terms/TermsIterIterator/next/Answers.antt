-- `next` meets its contract: the first four bytes that are left are the first term, and fewer than four are none.
use Rattle.records.proofs.TermBytes.{terms_short, first_left, fewer_left}
use Rattle.records.proofs.terms.TermsIterIterator.next.Goals as goal

pub returns-in_err-term-clause-steps : goal.returns-in_err-term-clause-steps
returns-in_err-term-clause-steps c = rw c.from_residual.ensures (terms_short _ c.in_err-term.ensures.cases, terms_short _ c.in_err-term.ensures.cases)

pub returns-clause-steps : goal.returns-clause-steps
returns-clause-steps c = first_left _ _ _ _ c.in_ok-term.ensures.cases c.from_le_bytes.ensures

pub returns-clause-goes : goal.returns-clause-goes
returns-clause-goes c = record { on = λ _. (tt, tt, fewer_left _ _ _ c.in_ok-term.ensures.cases); keeps = tt; rests = λ _. tt }
