-- `mark_one` meets its contract: the shift loses no bit.
use Rattle.std.proofs.Common.{refl}
use Rattle.finite.specs.Sets.{has}
use Rattle.checker.specs.Inside.Marks.{marked}
use Rattle.checker.proofs.Marking.{mark_stored}
use Rattle.checker.proofs.marks.mark_one.Goals as goal

pub returns : goal.returns
unfolding marked has
returns c = record { value = refl; marks_after = mark_stored _ _ }
