-- `anf::words::add_variable` meets its contract. The loop's invariant: the blocks passed are summed over variable k.
use Rattle.std.proofs.Common.{◌*◌}
use Rattle.anf.proofs.WordSums.{SummedTo}
use Rattle.anf.proofs.words.add_variable.Given as goal

abbrev pub invariant-loop-block : goal.invariant-loop-block
invariant-loop-block g l = SummedTo l.k (g.W.Word.numbers l.initial.words) (g.W.Word.numbers l.words) (l.block * l.size)
