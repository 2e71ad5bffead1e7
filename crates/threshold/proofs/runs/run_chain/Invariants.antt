-- `run_chain`: the shares are what the chain makes of those given, up to stage t.
use Rattle.design.specs.Inside.Held.{design_of}
use Rattle.threshold.proofs.Running.{Sent}
use Rattle.threshold.proofs.runs.run_chain.Given as goal

abbrev pub invariant-loop-t : goal.invariant-loop-t
invariant-loop-t l = Sent l.design.head.m l.design.head.s (design_of l.design).stages l.fn.shares l.at l.t
