-- `pack`: x is the sharing of the shares below j.
use Rattle.std.proofs.Common.{◌≡◌}
use Rattle.sharing.specs.Sharing.{packed}
use Rattle.threshold.proofs.runs.pack.Given as goal

abbrev pub invariant-loop-j : goal.invariant-loop-j
invariant-loop-j l = l.x ≡ packed l.head.m l.j l.shares
