-- `DirectFile::size` meets its contract: the records of the file, summed.
use Rattle.design.proofs.Limits.{bits_fit}
use Rattle.producer.proofs.DirectFiles.{table_body, tables_twice, tables_sum, heads_fit, terms_fit, lists_sum, with_lists, with_end, size_all}
use Rattle.producer.proofs.file.DirectFile.size.Goals as goal

pub record_size-requires-2 : goal.record_size-requires-2
record_size-requires-2 c = search table_body

pub overflow_mul-tables : goal.overflow_mul-tables
overflow_mul-tables c = search tables_twice

pub overflow_add-tables : goal.overflow_add-tables
overflow_add-tables c = search tables_sum

pub overflow_mul-lists : goal.overflow_mul-lists
overflow_mul-lists c = search bits_fit

pub overflow_mul-lists-2 : goal.overflow_mul-lists-2
overflow_mul-lists-2 c = search heads_fit

pub overflow_mul-lists-3 : goal.overflow_mul-lists-3
overflow_mul-lists-3 c = search terms_fit

pub overflow_add-lists : goal.overflow_add-lists
overflow_add-lists c = search lists_sum

pub overflow_add-result : goal.overflow_add-result
overflow_add-result c = search with_lists

pub overflow_add-result-2 : goal.overflow_add-result-2
overflow_add-result-2 c = search with_end

pub returns : goal.returns
returns c = search size_all
