use Rattle.std.proofs.Common.{rules}
use Rattle.design.specs.Inside.Lists.{lists_held}
use Rattle.checker.proofs.Marking.{marked_start, marked_inside, marked_found, marked_rest, marked_step, marked_none}
use Rattle.checker.proofs.Ranges.{length-last, outputs_zipped, outputs_turn, outputs_end}
use Rattle.checker.proofs.stages.first_met_in.Goals as goal

pub loop-x-init : goal.loop-x-init
loop-x-init c = search marked_start

pub mark_one-requires : goal.mark_one-requires
mark_one-requires c =
    let road = outputs_zipped c.two_to-n.result (lists_held c.args.lists.now) c.into_iter-x-iterator.result (search rules) (search rules) (search rules) in
    let w = outputs_turn (lists_held c.args.lists.now) road c.loop-x.yielded c.loop-x.x-iterator c.loop-x.yielded_by _ c.next.new.self c.next.ensures.steps _ _ c.in-Some.is in
    search (marked_inside, w)

pub returns-then-mark_one-clause-value : goal.returns-then-mark_one-clause-value
returns-then-mark_one-clause-value c =
    let road = outputs_zipped c.two_to-n.result (lists_held c.args.lists.now) c.into_iter-x-iterator.result (search rules) (search rules) (search rules) in
    let w = outputs_turn (lists_held c.args.lists.now) road c.loop-x.yielded c.loop-x.x-iterator c.loop-x.yielded_by _ c.next.new.self c.next.ensures.steps _ _ c.in-Some.is in
    search (marked_found, w)

pub returns-then-mark_one-clause-rest : goal.returns-then-mark_one-clause-rest
returns-then-mark_one-clause-rest c =
    let road = outputs_zipped c.two_to-n.result (lists_held c.args.lists.now) c.into_iter-x-iterator.result (search rules) (search rules) (search rules) in
    let w = outputs_turn (lists_held c.args.lists.now) road c.loop-x.yielded c.loop-x.x-iterator c.loop-x.yielded_by _ c.next.new.self c.next.ensures.steps _ _ c.in-Some.is in
    search (marked_rest, w)

pub loop-x-preserved : goal.loop-x-preserved
loop-x-preserved c =
    let road = outputs_zipped c.two_to-n.result (lists_held c.args.lists.now) c.into_iter-x-iterator.result (search rules) (search rules) (search rules) in
    let w = outputs_turn (lists_held c.args.lists.now) road c.loop-x.yielded c.loop-x.x-iterator c.loop-x.yielded_by _ c.next.new.self c.next.ensures.steps _ _ c.in-Some.is in
    rw length-last (search (marked_step, w))

pub returns-clause-value : goal.returns-clause-value
returns-clause-value c =
    let road = outputs_zipped c.two_to-n.result (lists_held c.args.lists.now) c.into_iter-x-iterator.result (search rules) (search rules) (search rules) in
    let w = outputs_end (lists_held c.args.lists.now) road c.loop-x.yielded c.loop-x.x-iterator c.loop-x.yielded_by _ c.next.new.self c.next.ensures.steps c.in-None.is in
    search (marked_none, w)
