-- `first_met` meets its contract: marks are made within the bytes that were zero, and these are zeroed again.
use Rattle.std.proofs.Common.{arith}
use Rattle.checker.proofs.Workspace.{room_kept, zeroed_again}
use Rattle.checker.proofs.Marking.{enough, marks_fit, none_marked, rest_kept, stage_meets}
use Rattle.checker.proofs.stages.first_met.Goals as goal

pub first_met_in-found-requires : goal.first_met_in-found-requires
first_met_in-found-requires c = search (enough, marks_fit, none_marked)

pub clear-requires : goal.clear-requires
clear-requires c = search (arith, room_kept)

pub returns-clause-value : goal.returns-clause-value
returns-clause-value c = search stage_meets

pub returns-clause-workspace_unchanged : goal.returns-clause-workspace_unchanged
returns-clause-workspace_unchanged c = search (zeroed_again, rest_kept)
