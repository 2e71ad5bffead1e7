use Rattle.anf.proofs.WordSums.{words_start, words_more, words_end}
use Rattle.anf.proofs.words.add_lower.Goals as goal

pub loop-i-init : goal.loop-i-init
loop-i-init g c = search (words_start g.W.Word.each)

pub loop-i-preserved : goal.loop-i-preserved
loop-i-preserved g c = search (words_more g.W.Word.each, g.met.W.Word.sum)

pub returns : goal.returns
returns g c = search (words_end g.W.Word.each)
