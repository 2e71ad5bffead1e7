-- `design::DesignFile::box_table` meets its contract: the box is a part of the file.
use Rattle.design.proofs.FileParts.{box_fits, box_there, box_is, slice_length}
use Rattle.design.proofs.files.DesignFile.box_table.Goals as goal

pub overflow_add-result : goal.overflow_add-result
overflow_add-result c = search box_fits

pub slice_bounds-result-end : goal.slice_bounds-result-end
slice_bounds-result-end c = search box_there

pub returns : goal.returns
returns c = search (box_is, slice_length, box_there)
