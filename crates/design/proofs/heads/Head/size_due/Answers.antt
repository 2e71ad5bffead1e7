-- `design::Head::size_due` meets its contract: each way out is a law of `Heading`.
use Rattle.design.proofs.Heading.{size_head, size_table, size_list, size_end}
use Rattle.design.proofs.heads.Head.size_due.Goals as goal

pub returns-in-Head : goal.returns-in-Head
returns-in-Head c = search size_head

pub returns-in-Table : goal.returns-in-Table
returns-in-Table c = search size_table

pub returns-in-List : goal.returns-in-List
returns-in-List c = search size_list

pub returns-in-End : goal.returns-in-End
returns-in-End c = search size_end
