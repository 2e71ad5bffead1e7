-- `threshold::share_mask` meets its contract.
use Rattle.threshold.proofs.EngineValues.{some_values, mask_fits}
use Rattle.threshold.proofs.engine.share_mask.Goals as goal

pub overflow_sub-result : goal.overflow_sub-result
overflow_sub-result c = search some_values

pub overflow_cast-result : goal.overflow_cast-result
overflow_cast-result c = search mask_fits
