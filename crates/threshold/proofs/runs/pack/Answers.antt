use Rattle.threshold.proofs.ChainRuns.{pack_start, place_of_five, shift_number, shift_fits, shift_small, pack_fits, pack_more, pack_end, pack_small}
use Rattle.threshold.proofs.runs.pack.Goals as goal

pub loop-j-init : goal.loop-j-init
loop-j-init c = search pack_start

pub bounds-shares-j : goal.bounds-shares-j
bounds-shares-j c = search place_of_five

pub overflow_mul-x : goal.overflow_mul-x
overflow_mul-x c = search shift_number

pub overflow_cast-x : goal.overflow_cast-x
overflow_cast-x c = search shift_fits

pub overflow_shl-x : goal.overflow_shl-x
overflow_shl-x c = search shift_small

pub overflow_add-x : goal.overflow_add-x
overflow_add-x c = search pack_fits

pub loop-j-preserved : goal.loop-j-preserved
loop-j-preserved c = search pack_more

pub returns : goal.returns
returns c = search (pack_end, pack_small)
