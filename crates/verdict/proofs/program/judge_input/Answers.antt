use Rattle.std.proofs.Common.{refl}
use Rattle.verdict.proofs.Line.{judged_whole}
use Rattle.verdict.proofs.program.judge_input.Goals as goal

pub returns : goal.returns
returns g c = record {
  whole = judged_whole _ _ _ _ _ _ c.read_input-n.ensures.whole refl refl c.answered.ensures;
  read = (_, c.read_input-n.ensures.read, c.answered.ensures);
}
