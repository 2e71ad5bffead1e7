-- `join_designs` meets its contract: one law for each way out.
use Rattle.design.specs.Inside.Held.{design_of}
use Rattle.records.proofs.Output.{answered}
use Rattle.joiner.proofs.JoiningDesigns.{other_width, other_shares, too_many, too_short, file_room, file_written}
use Rattle.joiner.proofs.join_designs.Goals.{then-a-b-via-then-a-b, then-a-b-via-else-a-b+then-a-b-2}
use Rattle.joiner.proofs.join_designs.Goals as goal

pub returns-then-a-b : goal.returns-then-a-b
returns-then-a-b c =
    elim c.then-a-b.branch [ then-a-b-via-then-a-b w ↦ answered (search other_width) | then-a-b-via-else-a-b+then-a-b-2 w ↦ answered (search other_shares) ]

pub returns-then-a-b-gt-GREATEST_STAGES : goal.returns-then-a-b-gt-GREATEST_STAGES
returns-then-a-b-gt-GREATEST_STAGES c = answered (search too_many)

pub returns-then-output-length : goal.returns-then-output-length
returns-then-output-length c = answered (search too_short)

pub put-requires-clause-room : goal.put-requires-clause-room
put-requires-clause-room c = search (file_room (design_of c.args.a.now) (design_of c.args.b.now))

pub returns : goal.returns
returns c = answered (search file_written)
