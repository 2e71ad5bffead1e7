-- `add_lists`: the lists passed are added.
use Rattle.std.proofs.Common.{◌≡◌, drop}
use Rattle.finite.specs.Tests.{tabulate}
use Rattle.design.specs.Inside.Lists.{lists_held}
use Rattle.threshold.specs.Inside.Blocks.{coefficients}
use Rattle.threshold.proofs.blocks.add_lists.Given as goal

abbrev pub invariant-loop-i : goal.invariant-loop-i
invariant-loop-i l = l.words ≡ tabulate 64 (coefficients l.high l.i (drop l.i (lists_held l.lists)))
