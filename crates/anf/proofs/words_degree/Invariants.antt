-- `anf::words_degree` meets its contract. The loop's invariant: the degree so far is the largest over the words passed.
use Rattle.anf.proofs.WordDegree.{DegreeOf}
use Rattle.anf.proofs.words_degree.Given as goal

abbrev pub invariant-loop-u : goal.invariant-loop-u
invariant-loop-u l = DegreeOf l.words l.u l.degree
