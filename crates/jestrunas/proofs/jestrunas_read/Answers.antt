-- `jestrunas::jestrunas_read` meets its contract: the reader's reason and place are those of the definition.
-- Assumes nothing.
use Rattle.std.proofs.Common.{◌≡◌, List, ℕ, ap}
use mathlib.Core.Logic.{◌↔◌, ◌≢◌}
use Rattle.design.specs.Refused.{RefusedFor}
use Rattle.design.specs.Reading.{Reading, reason_of, place_of, reading}
use Rattle.checker.specs.Verdict.{answer}
use Rattle.jestrunas.specs.Published.{c_verdict, read_answer}
use Rattle.jestrunas.specs.Promised.{Reads}
use Rattle.jestrunas.specs.declared.answers.Verdict.{Verdict}
use Rattle.jestrunas.proofs.Clauses as clauses
use Rattle.jestrunas.proofs.jestrunas_read.Goals as goal

read_answers : (f : List ℕ) (r : Reading) → r ≡ reading f → c_verdict (answer (reason_of r) (place_of r) 0) ≡ c_verdict (read_answer f)
unfolding read_answer
read_answers f r a = ap (λ (x : Reading). c_verdict (answer (reason_of x) (place_of x) 0)) a

answered : (f : List ℕ) (v : Verdict) → v ≡ c_verdict (read_answer f) → record {
  value : v ≡ c_verdict (read_answer f);
  reads : (v.reason ≡ 0) ↔ Reads f;
  explained : v.reason ≢ 0 → RefusedFor f v.reason v.place;
}
answered f v e = record { value = e; reads = clauses.read_reads f v e; explained = clauses.read_explained f v e }

pub returns-in-Ok : goal.returns-in-Ok
returns-in-Ok c = answered _ _ (read_answers _ _ c.in-Ok.ensures.reading)

pub returns-in-Err : goal.returns-in-Err
returns-in-Err c = rw c.from.ensures (answered _ _ (read_answers _ _ c.in-Err.ensures.reading))
