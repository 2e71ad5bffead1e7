-- `jestrunas::jestrunas_produce` meets its contract: each clause from its theorem, as the answer is that of the definition.
use Rattle.std.proofs.Common.{ap, ◌∙◌}
use Rattle.jestrunas.specs.Published.{c_produced}
use Rattle.jestrunas.proofs.Clauses as clauses
use Rattle.jestrunas.proofs.jestrunas_produce.Goals as goal

pub returns-clause-succeeds : goal.returns-clause-succeeds
returns-clause-succeeds c = clauses.produce_succeeds _ _ _ _ _ _ (c.from.ensures ∙ ap c_produced c.produce.ensures.value)

pub returns-clause-explained : goal.returns-clause-explained
returns-clause-explained c = clauses.produce_explained _ _ _ _ _ _ (c.from.ensures ∙ ap c_produced c.produce.ensures.value)

pub returns-clause-impossible : goal.returns-clause-impossible
returns-clause-impossible c = clauses.produce_impossible _ _ _ _ _ _ (c.from.ensures ∙ ap c_produced c.produce.ensures.value)

pub returns-clause-reads : goal.returns-clause-reads
returns-clause-reads c = clauses.produce_reads _ _ _ _ _ _ (c.from.ensures ∙ ap c_produced c.produce.ensures.value) _ c.produce.ensures.output_after

pub returns-clause-rest : goal.returns-clause-rest
returns-clause-rest c = clauses.produce_rest _ _ _ _ _ _ (c.from.ensures ∙ ap c_produced c.produce.ensures.value) _ c.produce.ensures.output_after

pub returns-clause-refused : goal.returns-clause-refused
returns-clause-refused c = clauses.produce_refused _ _ _ _ _ _ (c.from.ensures ∙ ap c_produced c.produce.ensures.value) _ c.produce.ensures.output_after
