-- `design::Head::number` meets its contract: a stage's records stand behind those of the stages before it, all before the end.
use Rattle.std.proofs.Common.{lit≤}
use Rattle.design.proofs.Limits.{bits_fit}
use Rattle.design.proofs.Heading.{stage_fits, before_fits, table_fits, number_fits, number_is, number_before, number_known}
use Rattle.design.proofs.heads.Head.number.Goals as goal

pub overflow_mul-result : goal.overflow_mul-result
overflow_mul-result c = search bits_fit

pub overflow_add-result : goal.overflow_add-result
overflow_add-result c = search stage_fits

pub overflow_mul-result-2 : goal.overflow_mul-result-2
overflow_mul-result-2 c = search before_fits

pub overflow_add-result-2 : goal.overflow_add-result-2
overflow_add-result-2 c = search (lit≤, table_fits)

pub overflow_add-result-3 : goal.overflow_add-result-3
overflow_add-result-3 c = search (lit≤, number_fits)

pub returns : goal.returns
returns c = search (number_is, number_before, number_known)
