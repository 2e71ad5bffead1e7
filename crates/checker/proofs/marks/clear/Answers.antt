-- `clear` meets its contract: what `fill` stores are copies of 0.
use Rattle.checker.proofs.Workspace.{zeroed_filled}
use Rattle.checker.proofs.marks.clear.Goals as goal

pub returns : goal.returns
returns c = zeroed_filled _ _ _ c.requires (c.fill.ensures.after (λ y e. e))
