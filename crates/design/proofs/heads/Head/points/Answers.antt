-- `design::Head::points` meets its contract.
use Rattle.std.proofs.Common.{lit≤}
use Rattle.design.proofs.Heading.{width_small}
use Rattle.design.proofs.heads.Head.points.Goals as goal

pub power-requires : goal.power-requires
power-requires c = search (lit≤, width_small)
