-- `anf::words::add_lower` meets its contract. The loop's invariant: the sums passed are written over the upper half.
use Rattle.anf.proofs.WordSums.{AddedTo}
use Rattle.anf.proofs.words.add_lower.Given as goal

abbrev pub invariant-loop-i : goal.invariant-loop-i
invariant-loop-i g l = AddedTo l.half (g.W.Word.numbers l.initial.block) (g.W.Word.numbers l.block) l.i
