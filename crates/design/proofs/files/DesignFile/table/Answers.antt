-- `design::DesignFile::table` meets its contract: a stage's table is a part of the file.
use Rattle.std.proofs.Common.{arith}
use Rattle.design.proofs.FileRecords.{limits}
use Rattle.design.proofs.FileParts.{table_fits, table_there, table_is, slice_length}
use Rattle.design.proofs.files.DesignFile.table.Goals as goal

pub number-requires : goal.number-requires
number-requires c = search (arith, limits)

pub overflow_add-result : goal.overflow_add-result
overflow_add-result c = search table_fits

pub slice_bounds-result-end : goal.slice_bounds-result-end
slice_bounds-result-end c = search table_there

pub returns : goal.returns
returns c = search (table_is, slice_length, table_there)
