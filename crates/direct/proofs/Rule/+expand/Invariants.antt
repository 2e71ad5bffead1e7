-- The measure of `expand` is the number of variables left in the term. The loop's invariant: the products of the first j shares are in their places.
use Rattle.std.proofs.Common.{◌≡◌}
use Rattle.std.specs.Int.Count.{ones}
use Rattle.direct.specs.Inside.Expanding.{appended}
use Rattle.design.specs.Inside.Inserting.{inserted_all}
use Rattle.direct.specs.Inside.Placing.{place_by}
use Rattle.direct.proofs.Emission.{onward}
use Rattle.direct.proofs.Rule.+expand.Given as goal

abbrev pub decreases-expand : goal.decreases-expand
decreases-expand l = ones l.u

abbrev pub invariant-loop-j : goal.invariant-loop-j
invariant-loop-j l = l.list ≡ inserted_all (appended l.j (onward l.self.m l.self.s (place_by l.self) l.to l.rest l.v l.p l.chosen)) l.initial.list
