-- `offending` meets its contract. No component passed depends on every share; the set has the variables that the lists and terms passed name, and lacks a share.
use Rattle.std.specs.Prelude.{None}
use Rattle.std.proofs.Common.{◌≡◌}
use Rattle.records.specs.Inside.Terms.{left}
use Rattle.records.specs.Design.{stage_of}
use Rattle.design.specs.Inside.Held.{design_of}
use Rattle.checker.proofs.EveryShare.{OfLists, OfTerms, NoComponent}
use Rattle.checker.proofs.stages.offending.Given as goal

abbrev pub invariant-loop-term : goal.invariant-loop-term
invariant-loop-term l =
    (l.found ≡ l.initial.found) × OfTerms l.head.m l.head.s (stage_of (design_of l.design) l.t).lists l.j l.b l.named (left l.term-iterator)

abbrev pub invariant-loop-b : goal.invariant-loop-b
invariant-loop-b l = (l.found ≡ l.initial.found) × OfLists l.head.m l.head.s (stage_of (design_of l.design) l.t).lists l.j l.b l.named

abbrev pub invariant-components : goal.invariant-components
invariant-components l = (l.found ≡ None) × NoComponent l.head.m l.head.s (stage_of (design_of l.design) l.t) l.j
