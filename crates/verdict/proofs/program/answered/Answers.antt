use Rattle.verdict.proofs.Line.{too_long, judged_line}
use Rattle.verdict.proofs.program.answered.Goals as goal

pub returns-then-input-gt-MOST_BYTES : goal.returns-then-input-gt-MOST_BYTES
returns-then-input-gt-MOST_BYTES c = search too_long

pub returns : goal.returns
returns c = search judged_line
