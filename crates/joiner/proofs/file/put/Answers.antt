-- `put` meets its contract: four pieces, one behind the other.
use Rattle.design.specs.Inside.Held.{design_of}
use Rattle.design.proofs.Limits.{width_byte, shares_byte}
use Rattle.joiner.proofs.JoinedFile.{box_through, stages_byte, front_room, first_room, second_room, end_room, file_written}
use Rattle.joiner.proofs.file.put.Goals as goal

pub sent_through-table-requires : goal.sent_through-table-requires
sent_through-table-requires c = search (box_through (design_of c.args.a.now) (design_of c.args.b.now))

pub front-requires-clause-room : goal.front-requires-clause-room
front-requires-clause-room c = search (front_room (design_of c.args.a.now) (design_of c.args.b.now))

pub front-requires-clause-m_byte : goal.front-requires-clause-m_byte
front-requires-clause-m_byte c = search width_byte

pub front-requires-clause-s_byte : goal.front-requires-clause-s_byte
front-requires-clause-s_byte c = search shares_byte

pub front-requires-clause-k_byte : goal.front-requires-clause-k_byte
front-requires-clause-k_byte c = search stages_byte

pub bytes-requires : goal.bytes-requires
bytes-requires c = search (first_room (design_of c.args.a.now) (design_of c.args.b.now))

pub bytes-requires-2 : goal.bytes-requires-2
bytes-requires-2 c = search (second_room (design_of c.args.a.now) (design_of c.args.b.now))

pub end-requires : goal.end-requires
end-requires c = search (end_room (design_of c.args.a.now) (design_of c.args.b.now))

pub returns : goal.returns
returns c = search file_written
