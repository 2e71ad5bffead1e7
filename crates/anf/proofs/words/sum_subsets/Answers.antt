use Rattle.anf.proofs.WordSums.{sums_start, whole_blocks, sums_more, sums_end}
use Rattle.anf.proofs.words.sum_subsets.Goals as goal

pub loop-k-init : goal.loop-k-init
loop-k-init g c = search (sums_start g.W.Word.each)

pub add_variable-requires-clause-blocks : goal.add_variable-requires-clause-blocks
add_variable-requires-clause-blocks g c = search (whole_blocks g.W.Word.each)

pub loop-k-preserved : goal.loop-k-preserved
loop-k-preserved g c = search (sums_more g.W.Word.each)

pub returns : goal.returns
returns g c = search (sums_end g.W.Word.each)
