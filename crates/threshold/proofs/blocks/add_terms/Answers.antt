use Rattle.threshold.proofs.BlockOutputs.{terms_more, terms_end}
use Rattle.threshold.proofs.blocks.add_terms.Goals as goal

pub loop-term-preserved : goal.loop-term-preserved
loop-term-preserved c = search (terms_more, c.in-Some.ensures.steps)

pub returns : goal.returns
returns c = search (terms_end, c.in-None.ensures.steps.0)
