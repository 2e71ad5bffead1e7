-- `design::Head::last` meets its contract: the limits bound the number of records.
use Rattle.design.proofs.Limits.{bits_fit}
use Rattle.design.proofs.Heading.{stage_fits, stages_fit, last_fits, last_is, last_low}
use Rattle.design.proofs.heads.Head.last.Goals as goal

pub overflow_mul-result : goal.overflow_mul-result
overflow_mul-result c = search bits_fit

pub overflow_add-result : goal.overflow_add-result
overflow_add-result c = search stage_fits

pub overflow_mul-result-2 : goal.overflow_mul-result-2
overflow_mul-result-2 c = search stages_fit

pub overflow_add-result-2 : goal.overflow_add-result-2
overflow_add-result-2 c = search last_fits

pub returns : goal.returns
returns c = search (last_is, last_low)
