use Rattle.std.proofs.Common.{rules, ◌+◌, ◌*◌, ◌≤◌, length, arith}
use borrow.Author.Rules.{scaled_fits≤}
use lib.Pow.{pow_pos}
use Rattle.anf.proofs.WordSums.{blocks_start, blocks_more, block_ends}
use Rattle.anf.proofs.words.add_variable.Goals as goal

pub loop-block-init : goal.loop-block-init
loop-block-init g c = search blocks_start

pub offset_bounds-words-at : goal.offset_bounds-words-at
offset_bounds-words-at g c =
    let h : c.loop-block.block * (c.power-half.result + c.power-half.result) ≤ length c.args.words.now =
    omega (arith, block_ends (length c.args.words.now) (c.power-half.result + c.power-half.result) c.loop-block.block (omega (arith, pow_pos c.args.k)) c.loop-block-test.true) in
    search (rules, scaled_fits≤)

pub loop-block-preserved : goal.loop-block-preserved
loop-block-preserved g c = search (blocks_more g.W.Word.each)
