-- `Writer::front` meets its contract: the record of the head, and that of the box behind it.
use Rattle.records.proofs.Writes.{numbers_room, box_room, front_written}
use Rattle.records.proofs.writer.Writer.front.Goals as goal

pub record-requires-clause-room : goal.record-requires-clause-room
record-requires-clause-room c = search numbers_room

pub table-requires-clause-room : goal.table-requires-clause-room
table-requires-clause-room c = search box_room

pub returns : goal.returns
returns c = search front_written
