use Rattle.direct.proofs.PlacementTables.{placed_constant, placed_past, placed_byte}
use Rattle.direct.proofs.Rule.component.Goals as goal

pub returns-then-chosen-eq0 : goal.returns-then-chosen-eq0
returns-then-chosen-eq0 c = search placed_constant

pub returns-then-self-chosen : goal.returns-then-self-chosen
returns-then-self-chosen c = search placed_past

pub returns : goal.returns
returns c = rw c.saturating_sub.ensures (search placed_byte)
