-- `most_trials` meets its contract: within the limits the product fits a word.
use Rattle.checker.proofs.Forecasting.{passes_fit, most_fits}
use Rattle.checker.proofs.forecasts.most_trials.Goals as goal

pub overflow_mul-result : goal.overflow_mul-result
overflow_mul-result c = search passes_fit

pub overflow_mul-result-2 : goal.overflow_mul-result-2
overflow_mul-result-2 c = search most_fits
