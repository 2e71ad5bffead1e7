-- `tries` meets its contract.
use Rattle.std.proofs.Common.{rules}
use Rattle.checker.specs.Inside.Parts.{tries_until}
use Rattle.checker.proofs.stages.tries.Goals as goal

pub returns-in-Some : goal.returns-in-Some
unfolding tries_until
returns-in-Some c = search rules

pub returns-in-None : goal.returns-in-None
unfolding tries_until
returns-in-None c = search rules
