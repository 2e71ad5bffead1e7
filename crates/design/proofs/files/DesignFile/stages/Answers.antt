-- `design::DesignFile::stages` meets its contract: what stands between the records of the head and the box and that of the end.
use Rattle.design.proofs.FileParts.{entries_small, front_fits, end_within, front_within, stages_are}
use Rattle.design.proofs.files.DesignFile.stages.Goals as goal

pub record_size-requires-2 : goal.record_size-requires-2
record_size-requires-2 c = search entries_small

pub overflow_add-from : goal.overflow_add-from
overflow_add-from c = search front_fits

pub overflow_sub-end : goal.overflow_sub-end
overflow_sub-end c = search end_within

pub slice_bounds-result-count : goal.slice_bounds-result-count
slice_bounds-result-count c = search front_within

pub slice_bounds-result-start : goal.slice_bounds-result-start
slice_bounds-result-start c = search front_within

pub returns : goal.returns
returns c = search stages_are
