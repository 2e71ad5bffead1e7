-- `design::framed` meets its contract: each way out is a law of `Faults`.
use Rattle.design.proofs.Faults.{head_short, other_kind, body_short, frame_good, wrong_length}
use Rattle.design.proofs.reader.framed.Goals as goal

pub returns-then-file-at-lt-RECORD_HEAD_SIZE-clause-fault : goal.returns-then-file-at-lt-RECORD_HEAD_SIZE-clause-fault
returns-then-file-at-lt-RECORD_HEAD_SIZE-clause-fault c = search head_short

pub returns-then-u16_at-code-clause-fault : goal.returns-then-u16_at-code-clause-fault
returns-then-u16_at-code-clause-fault c = search other_kind

pub returns-then-not-length_fits-clause-fault : goal.returns-then-not-length_fits-clause-fault
returns-then-not-length_fits-clause-fault c = search wrong_length

pub returns-then-file-at-clause-fault : goal.returns-then-file-at-clause-fault
returns-then-file-at-clause-fault c = search body_short

pub returns-clause-fault : goal.returns-clause-fault
returns-clause-fault c = search frame_good
