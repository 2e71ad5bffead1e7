-- `chained` meets its contract: the tables of the stages passed have been applied.
use Rattle.std.proofs.Common.{◌≡◌}
use lib.ListN.{take}
use Rattle.design.specs.Inside.Held.{design_of}
use Rattle.sharing.specs.Chain.{chained}
use Rattle.checker.proofs.tables.chained.Given as goal

abbrev pub invariant-loop-t : goal.invariant-loop-t
invariant-loop-t l = l.y ≡ chained (take l.t (design_of l.design).stages) l.x
