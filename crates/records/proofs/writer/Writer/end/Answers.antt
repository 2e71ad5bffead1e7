-- `Writer::end` meets its contract: a record with an empty body is its head.
use Rattle.records.proofs.Writes.{end_room, end_written}
use Rattle.records.proofs.writer.Writer.end.Goals as goal

pub head-requires-clause-room : goal.head-requires-clause-room
head-requires-clause-room c = search end_room

pub returns : goal.returns
returns c = search end_written
