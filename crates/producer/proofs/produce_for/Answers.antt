-- `produce_for` meets its contract: each way out is a law of `ProducingFor`, whose premises `search` finds among what is known there.
use Rattle.std.proofs.Common.{length}
use Rattle.std.proofs.lemmas.Result.{err_from_is_err_and}
use Rattle.records.proofs.Output.{answered}
use Rattle.producer.proofs.Tests.{DegreeTested}
use Rattle.producer.proofs.ProducingFor.{input_refused, entry_repeats, points_within, words_taken, unloaded, degree_high, all_words, sized, ready, too_short, file_room, file_written}
use Rattle.producer.proofs.produce_for.Goals as goal

pub returns-in_err-transform : goal.returns-in_err-transform
returns-in_err-transform c =
    let p = err_from_is_err_and c.from_residual.result c.from_residual.ensures.1 in
    let e = c.in_err-transform.ensures in
    rw (p.1, p.2) (answered (search input_refused))

pub returns-then-repeats : goal.returns-then-repeats
returns-then-repeats c = let e = c.in_ok-transform.ensures in answered (search entry_repeats)

pub slice_bounds-words-end : goal.slice_bounds-words-end
slice_bounds-words-end c = search points_within

pub slice_bounds-words_degree-end : goal.slice_bounds-words_degree-end
slice_bounds-words_degree-end c = search words_taken

pub returns-in_err-rule : goal.returns-in_err-rule
returns-in_err-rule c =
    let p = err_from_is_err_and c.from_residual-in_err-rule.result c.from_residual-in_err-rule.ensures.1 in
    let e = c.in_ok-transform.ensures in
    rw (p.1, p.2, c.in_err-rule.ensures.reason) (answered (search (unloaded, c.in_err-rule.ensures.unloaded)))

pub returns-then-head-degree : goal.returns-then-head-degree
returns-then-head-degree c =
    let e = c.in_ok-transform.ensures in
    let u = c.in_ok-rule.ensures in
    answered (search (degree_high, u.loaded))

pub invariant_of-file : goal.invariant_of-file
invariant_of-file c =
    let e = c.in_ok-transform.ensures in
    let u = c.in_ok-rule.ensures in
    record { sizes = (search sized, search all_words) }

pub returns-then-output-size : goal.returns-then-output-size
returns-then-output-size c =
    let e = c.in_ok-transform.ensures in
    let u = c.in_ok-rule.ensures in
    let r : DegreeTested c.args.head.m c.args.head.s c.args.table.now c.args.placement.now c.transform.new.output (length c.args.output.now) = search (ready, u.loaded) in
    answered (search too_short)

pub put-requires : goal.put-requires
put-requires c =
    let e = c.in_ok-transform.ensures in
    let u = c.in_ok-rule.ensures in
    let r : DegreeTested c.args.head.m c.args.head.s c.args.table.now c.args.placement.now c.transform.new.output (length c.args.output.now) = search (ready, u.loaded) in
    search file_room

pub returns : goal.returns
returns c =
    let e = c.in_ok-transform.ensures in
    let u = c.in_ok-rule.ensures in
    let r : DegreeTested c.args.head.m c.args.head.s c.args.table.now c.args.placement.now c.transform.new.output (length c.args.output.now) = search (ready, u.loaded) in
    answered (search file_written)
