-- `design::walk` meets its contract. The invariant, `Walked`: the records passed have no fault, and the definition's walk goes on from here.
use Rattle.design.specs.Heads.{numbers}
use Rattle.design.proofs.Reading.{Walked}
use Rattle.design.proofs.reader.walk.Given as goal

abbrev pub invariant-loop-i : goal.invariant-loop-i
invariant-loop-i l = Walked l.file (numbers l.head) l.i-end l.starts l.i l.at
