-- `design::Head::kind_due` meets its contract: each way out is a law of `Heading`.
use Rattle.design.proofs.Limits.{bits_fit}
use Rattle.design.proofs.Heading.{stage_fits, kind_head, kind_box, kind_end, kind_table, kind_list}
use Rattle.design.proofs.heads.Head.kind_due.Goals as goal

pub returns-then-i-eq0 : goal.returns-then-i-eq0
returns-then-i-eq0 c = search kind_head

pub returns-then-i-eq1 : goal.returns-then-i-eq1
returns-then-i-eq1 c = search kind_box

pub returns-then-i-end : goal.returns-then-i-end
returns-then-i-end c = search kind_end

pub overflow_mul-self : goal.overflow_mul-self
overflow_mul-self c = search bits_fit

pub overflow_add-self : goal.overflow_add-self
overflow_add-self c = search stage_fits

pub returns-then-i-self-eq0 : goal.returns-then-i-self-eq0
returns-then-i-self-eq0 c = search kind_table

pub returns : goal.returns
returns c = search kind_list
