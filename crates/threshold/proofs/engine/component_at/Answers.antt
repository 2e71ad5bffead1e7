-- `component_at`: share j of the output is the output of the m lists from m × j on.
use Rattle.threshold.proofs.EngineValues.{before_fits, part_within, component_found, component_lt}
use Rattle.threshold.proofs.engine.component_at.Goals as goal

pub overflow_mul-m : goal.overflow_mul-m
overflow_mul-m c = search before_fits

pub part-requires : goal.part-requires
part-requires c = search part_within

pub returns : goal.returns
returns c = search (component_found, component_lt)
