-- `design::Head::share_bits` meets its contract: the limits bound the number.
use Rattle.design.proofs.Limits.{bits_fit}
use Rattle.design.proofs.Heading.{bits_low}
use Rattle.design.proofs.heads.Head.share_bits.Goals as goal

pub overflow_mul-result : goal.overflow_mul-result
overflow_mul-result c = search bits_fit

pub returns : goal.returns
returns c = search bits_low
