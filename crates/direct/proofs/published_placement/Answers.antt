-- Each number of shares has its table.
use Rattle.direct.proofs.PlacementTables.{of_three, of_four, of_five, of_none}
use Rattle.direct.proofs.published_placement.Goals as goal

pub returns-in-3 : goal.returns-in-3
returns-in-3 c = search of_three

pub returns-in-4 : goal.returns-in-4
returns-in-4 c = search of_four

pub returns-in-5 : goal.returns-in-5
returns-in-5 c = search of_five

pub returns-in_default : goal.returns-in_default
returns-in_default c = search of_none
