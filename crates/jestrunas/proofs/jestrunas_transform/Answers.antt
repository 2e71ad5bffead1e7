-- `jestrunas::jestrunas_transform` meets its contract: each clause from its theorem, as the answer is that of the definition.
use Rattle.std.proofs.Common.{◌∙◌}
use Rattle.jestrunas.proofs.Clauses as clauses
use Rattle.jestrunas.proofs.jestrunas_transform.Goals as goal

pub returns-clause-explained : goal.returns-clause-explained
returns-clause-explained c = clauses.transform_explained _ _ _ _ (c.number.ensures ∙ c.transform.ensures.value)

pub returns-clause-words : goal.returns-clause-words
returns-clause-words c = clauses.transform_words _ _ _ _ (c.number.ensures ∙ c.transform.ensures.value) _ c.transform.ensures.output_after

pub returns-clause-rest : goal.returns-clause-rest
returns-clause-rest c = clauses.transform_rest _ _ _ _ (c.number.ensures ∙ c.transform.ensures.value) _ c.transform.ensures.output_after

pub returns-clause-refused : goal.returns-clause-refused
returns-clause-refused c = clauses.transform_refused _ _ _ _ (c.number.ensures ∙ c.transform.ensures.value) _ c.transform.ensures.output_after
