use Rattle.std.proofs.Common.{rules}
use Rattle.design.specs.Inside.Lists.{lists_held}
use Rattle.checker.proofs.Correctness.{sums_start, sums_wrong_lem, sums_more, sums_end}
use Rattle.checker.proofs.Ranges.{length-last, all_sharings, outputs_zipped, outputs_turn, outputs_end}
use Rattle.checker.proofs.stages.first_wrong.Goals as goal

pub loop-x-init : goal.loop-x-init
loop-x-init c = search sums_start

pub returns-then-not-agrees : goal.returns-then-not-agrees
returns-then-not-agrees c =
    let road = outputs_zipped c.two_to-n.result (lists_held c.lists.result) c.into_iter-x-iterator.result (search rules) (search rules) (search all_sharings) in
    let w = outputs_turn (lists_held c.lists.result) road c.loop-x.yielded c.loop-x.x-iterator c.loop-x.yielded_by _ c.next.new.self c.next.ensures.steps _ _ c.in-Some.is in
    search (sums_wrong_lem, w)

pub loop-x-preserved : goal.loop-x-preserved
loop-x-preserved c =
    let road = outputs_zipped c.two_to-n.result (lists_held c.lists.result) c.into_iter-x-iterator.result (search rules) (search rules) (search all_sharings) in
    let w = outputs_turn (lists_held c.lists.result) road c.loop-x.yielded c.loop-x.x-iterator c.loop-x.yielded_by _ c.next.new.self c.next.ensures.steps _ _ c.in-Some.is in
    rw length-last (search (sums_more, w))

pub returns : goal.returns
returns c =
    let road = outputs_zipped c.two_to-n.result (lists_held c.lists.result) c.into_iter-x-iterator.result (search rules) (search rules) (search all_sharings) in
    let w = outputs_end (lists_held c.lists.result) road c.loop-x.yielded c.loop-x.x-iterator c.loop-x.yielded_by _ c.next.new.self c.next.ensures.steps c.in-None.is in
    search (sums_end, w)
