-- `anf::words::sum_subsets` meets its contract. The loop's invariant: the variables passed are summed over.
use Rattle.anf.proofs.WordSums.{OverTo}
use Rattle.anf.proofs.words.sum_subsets.Given as goal

abbrev pub invariant-loop-k : goal.invariant-loop-k
invariant-loop-k g l = OverTo l.m (g.W.Word.numbers l.initial.words) (g.W.Word.numbers l.words) l.k
