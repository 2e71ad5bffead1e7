-- The loop's invariant: what the terms below u bring is in its place.
use Rattle.std.proofs.Common.{◌≡◌, []}
use Rattle.direct.specs.Inside.Expanding.{appended}
use Rattle.design.specs.Inside.Inserting.{inserted_all}
use Rattle.direct.specs.Inside.Placing.{place_by}
use Rattle.direct.proofs.DirectList.{bringing}
use Rattle.direct.proofs.Rule.gather.Given as goal

abbrev pub invariant-loop-u : goal.invariant-loop-u
invariant-loop-u l = l.list ≡ inserted_all (appended l.u (bringing l.self.m l.self.s (place_by l.self) l.to l.b l.words)) []
