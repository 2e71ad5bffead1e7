-- `anf::transform` meets its contract: each way out is a law of `TransformAnswer`, whose premises `search` finds among what is known there.
use Rattle.anf.proofs.TransformAnswer.{answered, no_width, uneven, large, short, done}
use Rattle.anf.proofs.transform.Goals as goal

pub returns-then-m-lt1 : goal.returns-then-m-lt1
returns-then-m-lt1 c = answered (search no_width)

pub returns-then-input-n : goal.returns-then-input-n
returns-then-input-n c = answered (search uneven)

pub returns-then-not-entries_below : goal.returns-then-not-entries_below
returns-then-not-entries_below c = answered (search large)

pub returns-then-output-n : goal.returns-then-output-n
returns-then-output-n c = answered (search short)

pub returns : goal.returns
returns c = answered (search done)
