use Rattle.verdict.proofs.Line.{line_written}
use Rattle.verdict.proofs.program.answer.Goals as goal

pub returns : goal.returns
returns g c = record { line = line_written _ _ _ _ _ c.judge_input-read.ensures.whole c.in_ok-write_line.ensures }
