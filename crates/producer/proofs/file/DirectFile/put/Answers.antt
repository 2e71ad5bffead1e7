-- `DirectFile::put` meets its contract: four pieces, one behind the other.
use Rattle.std.proofs.Common.{rules}
use Rattle.design.proofs.Limits.{width_byte, shares_byte}
use Rattle.producer.proofs.DirectFiles.{table_short, front_room, table_room, lists_room, end_room, file_written}
use Rattle.producer.proofs.file.DirectFile.put.Goals as goal

pub front-requires-clause-room : goal.front-requires-clause-room
front-requires-clause-room c = search front_room

pub front-requires-clause-m_byte : goal.front-requires-clause-m_byte
front-requires-clause-m_byte c = search (rules, width_byte)

pub front-requires-clause-s_byte : goal.front-requires-clause-s_byte
front-requires-clause-s_byte c = search (rules, shares_byte)

pub front-requires-clause-short : goal.front-requires-clause-short
front-requires-clause-short c = search table_short

pub table-requires-clause-room : goal.table-requires-clause-room
table-requires-clause-room c = search table_room

pub table-requires-clause-short : goal.table-requires-clause-short
table-requires-clause-short c = search table_short

pub put_lists-requires : goal.put_lists-requires
put_lists-requires c = search lists_room

pub end-requires : goal.end-requires
end-requires c = search end_room

pub returns : goal.returns
returns c = search file_written
