-- `Writer::head` meets its contract: two numbers of two bytes, one behind the other.
use Rattle.records.proofs.Writes.{size_room, kind_room, head_written}
use Rattle.records.proofs.writer.Writer.head.Goals as goal

pub bytes-requires : goal.bytes-requires
bytes-requires c = search size_room

pub bytes-requires-2 : goal.bytes-requires-2
bytes-requires-2 c = search kind_room

pub returns : goal.returns
returns c = search head_written
