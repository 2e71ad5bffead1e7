-- `jestrunas::laws::about_forecasts`: each clause is a theorem of `Promises`.
use Rattle.jestrunas.proofs.Promises as promises
use Rattle.jestrunas.proofs.laws.about_forecasts.Goals as goal

pub returns-clause-forecast_head : goal.returns-clause-forecast_head
returns-clause-forecast_head c = promises.forecast_head

pub returns-clause-forecast_refused : goal.returns-clause-forecast_refused
returns-clause-forecast_refused c = promises.forecast_refused

pub returns-clause-forecast_range : goal.returns-clause-forecast_range
returns-clause-forecast_range c = promises.forecast_range

pub returns-clause-forecast_reads : goal.returns-clause-forecast_reads
returns-clause-forecast_reads c = promises.forecast_reads

pub returns-clause-forecast_reached : goal.returns-clause-forecast_reached
returns-clause-forecast_reached c = promises.forecast_reached
