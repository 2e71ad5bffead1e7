use Rattle.std.proofs.Common.{rules}
use Rattle.anf.proofs.WordDegree.{degree_start, degree_same, degree_more, degree_end}
use Rattle.anf.proofs.words_degree.Goals.{then-word-ne0, else-word-ne0}
use Rattle.anf.proofs.words_degree.Goals as goal

pub loop-u-init : goal.loop-u-init
loop-u-init c = search degree_start

pub loop-u-preserved : goal.loop-u-preserved
loop-u-preserved c =
    elim c.if-word-ne0.branch [
      | then-word-ne0 w ↦ search (rules, degree_more)
      | else-word-ne0 w ↦ search (rules, degree_same)
    ]

pub returns : goal.returns
returns c = search (rules, degree_end)
