-- `add_term`: each way out is a law of `BlockOutputs`.
use Rattle.threshold.proofs.BlockOutputs.{term_there, term_absent}
use Rattle.threshold.proofs.blocks.add_term.Goals as goal

pub returns-then-upper-high : goal.returns-then-upper-high
returns-then-upper-high c = search term_there

pub returns-else-upper-high : goal.returns-else-upper-high
returns-else-upper-high c = search term_absent
