use Rattle.threshold.proofs.EngineValues.{value_more, value_all}
use Rattle.threshold.proofs.engine.value_of.Goals as goal

pub loop-term-preserved : goal.loop-term-preserved
loop-term-preserved c = search (value_more, c.in-Some.ensures.steps)

pub returns : goal.returns
returns c = search (value_all, c.in-None.ensures.steps.0)
