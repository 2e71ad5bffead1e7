-- `loads`: each byte, and its set as a number.
use Rattle.direct.proofs.PlacementTables.{index_fits, set_fits, shares_low}
use Rattle.direct.proofs.fn.loads.all.Goals as goal

pub overflow_cast-i : goal.overflow_cast-i
overflow_cast-i c = search index_fits

pub overflow_add-i : goal.overflow_add-i
overflow_add-i c = search set_fits

pub is_outside-requires : goal.is_outside-requires
is_outside-requires c = search shares_low
