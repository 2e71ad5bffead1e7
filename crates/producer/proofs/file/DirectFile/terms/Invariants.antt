-- The loop's invariant: the terms that the words below u bring are counted.
use Rattle.producer.proofs.DirectFiles.{Counted}
use Rattle.producer.proofs.file.DirectFile.terms.Given as goal

abbrev pub invariant-loop-u : goal.invariant-loop-u
invariant-loop-u l = Counted l.self.rule.s l.self.words.now l.u l.terms
