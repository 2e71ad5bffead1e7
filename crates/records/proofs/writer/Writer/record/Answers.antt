-- `Writer::record` meets its contract: a head, and the body behind it.
use Rattle.records.proofs.Writes.{head_room, body_room, record_written}
use Rattle.records.proofs.writer.Writer.record.Goals as goal

pub head-requires-clause-room : goal.head-requires-clause-room
head-requires-clause-room c = search head_room

pub bytes-requires : goal.bytes-requires
bytes-requires c = search body_room

pub returns : goal.returns
returns c = search record_written
