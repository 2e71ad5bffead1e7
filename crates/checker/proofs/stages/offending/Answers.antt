use Rattle.std.proofs.Common.{◌≡◌, refl, rules}
use Rattle.records.specs.Inside.Terms.{terms_of, left}
use Rattle.checker.proofs.EveryShare.{list_there, no_component_yet, lists_start, terms_start, terms_more, lists_more, no_component_more, offending_found, offending_none}
use Rattle.checker.proofs.EveryShare.{place_fits_64, place_fits}
use Rattle.checker.proofs.stages.offending.Goals as goal

pub components-init : goal.components-init
components-init c = search no_component_yet

pub loop-b-init : goal.loop-b-init
loop-b-init c = search lists_start

pub overflow_mul-head : goal.overflow_mul-head
overflow_mul-head c = search place_fits_64

pub overflow_add-head : goal.overflow_add-head
overflow_add-head c = search place_fits

pub list-requires : goal.list-requires
list-requires c = search list_there

pub loop-term-init : goal.loop-term-init
loop-term-init c =
    let e : left c.into_iter-term-iterator.result ≡ terms_of c.list.result = search rules in
    (refl, search terms_start)

pub loop-term-preserved : goal.loop-term-preserved
loop-term-preserved c = search (terms_more, c.in-Some.ensures.steps)

pub loop-b-preserved : goal.loop-b-preserved
loop-b-preserved c = search (lists_more, c.in-None.ensures.steps.0)

pub components-preserved : goal.components-preserved
components-preserved c = search (no_component_more, c.args.design.now.formed.stage)

pub returns-after-components : goal.returns-after-components
returns-after-components c = search offending_none

pub returns-then-names_every : goal.returns-then-names_every
returns-then-names_every c = search (offending_found, c.args.design.now.formed.stage, c.in-Some.ensures.steps) fits 8000
