-- `first_wrong` meets its contract: none of the sharings passed is wrong.
use Rattle.std.proofs.Common.{◌≡◌, false, length}
use Rattle.finite.specs.Tests.{any}
use Rattle.records.specs.Design.{stage_of}
use Rattle.design.specs.Inside.Held.{design_of}
use Rattle.checker.specs.Trials.{sums_wrong}
use Rattle.checker.proofs.stages.first_wrong.Given as goal

abbrev pub invariant-loop-x : goal.invariant-loop-x
invariant-loop-x l = any (length l.yielded) (sums_wrong l.design.head.m l.design.head.s (stage_of (design_of l.design) l.t)) ≡ false
