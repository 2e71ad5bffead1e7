-- `design::terms_fit` meets its contract. The invariant, `Passed`: what is kept of the terms passed says whether they fit.
use Rattle.records.specs.Inside.Terms.{left}
use Rattle.design.proofs.Faults.{Passed}
use Rattle.design.proofs.reader.terms_fit.Given as goal

abbrev pub invariant-loop-t : goal.invariant-loop-t
invariant-loop-t l = Passed l.body l.bits l.latest l.rise l.together (left l.t-iterator)
