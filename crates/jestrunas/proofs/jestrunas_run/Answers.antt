-- `jestrunas::jestrunas_run` meets its contract: each clause from its theorem, as the answer is that of the definition.
use Rattle.std.proofs.Common.{ap, ◌∙◌}
use Rattle.jestrunas.specs.Published.{c_ran}
use Rattle.jestrunas.proofs.Clauses as clauses
use Rattle.jestrunas.proofs.jestrunas_run.Goals as goal

pub returns-clause-explained : goal.returns-clause-explained
returns-clause-explained c = clauses.run_explained _ _ _ (c.from.ensures ∙ ap c_ran c.run.ensures)
