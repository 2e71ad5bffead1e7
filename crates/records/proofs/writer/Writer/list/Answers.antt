use Rattle.records.proofs.Writes.{list_head_room, no_term_written, term_room, term_written, list_written}
use Rattle.records.proofs.writer.Writer.list.Goals as goal

pub head-requires-clause-room : goal.head-requires-clause-room
head-requires-clause-room c = search list_head_room

pub loop-term-init : goal.loop-term-init
loop-term-init c = search no_term_written

pub bytes-requires : goal.bytes-requires
bytes-requires c = search term_room

pub loop-term-preserved : goal.loop-term-preserved
loop-term-preserved c = search term_written

pub returns : goal.returns
returns c = search list_written
