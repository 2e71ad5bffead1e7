-- `design::length_fits` meets its contract: a list's length is one of whole terms, any other the one due.
use Rattle.design.proofs.Faults.{list_length, part_of_term, other_length}
use Rattle.design.proofs.reader.length_fits.Goals as goal

pub returns-then-n-eq0 : goal.returns-then-n-eq0
returns-then-n-eq0 c = search list_length

pub returns-else-n-eq0 : goal.returns-else-n-eq0
returns-else-n-eq0 c = search part_of_term

pub returns-in_default : goal.returns-in_default
returns-in_default c = search other_length
