-- `jestrunas::jestrunas_forecast` meets its contract: each clause from its theorem, as the answer is that of the definition.
use Rattle.std.proofs.Common.{ap, ◌∙◌}
use Rattle.jestrunas.specs.Published.{c_forecast}
use Rattle.jestrunas.proofs.Clauses as clauses
use Rattle.jestrunas.proofs.jestrunas_forecast.Goals as goal

pub returns-clause-most : goal.returns-clause-most
returns-clause-most c = clauses.forecast_most _ _ (c.from.ensures ∙ ap c_forecast c.foresee.ensures)

pub returns-clause-enough : goal.returns-clause-enough
returns-clause-enough c = clauses.forecast_enough _ _ (c.from.ensures ∙ ap c_forecast c.foresee.ensures)

pub returns-clause-needed : goal.returns-clause-needed
returns-clause-needed c = clauses.forecast_needed _ _ (c.from.ensures ∙ ap c_forecast c.foresee.ensures)
