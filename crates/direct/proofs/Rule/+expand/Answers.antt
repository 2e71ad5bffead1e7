-- Where no variable is left, the product is put into its place; else one share after the other is chosen for the highest variable, and what is left of the
-- term has fewer.
use Rattle.std.proofs.Common.{arith}
use Rattle.direct.proofs.Emission.{appended_zero}
use Rattle.direct.proofs.RuleLists.{room_here, goes_here, goes_elsewhere, fewer_left, left_within, row_fits, place_fits, place_low, share_low}
use Rattle.direct.proofs.RuleLists.{room_share, shares_more, shares_all}
use Rattle.direct.proofs.Rule.+expand.Goals as goal

pub insert-requires : goal.insert-requires
insert-requires t c = (omega arith, search room_here)

pub returns-then-component-to : goal.returns-then-component-to
returns-then-component-to t c = search goes_here

pub returns-else-component-to : goal.returns-else-component-to
returns-else-component-to t c = search goes_elsewhere

pub loop-j-init : goal.loop-j-init
loop-j-init t c = appended_zero _ _

pub overflow_mul-self : goal.overflow_mul-self
overflow_mul-self t c = search row_fits

pub overflow_add-self : goal.overflow_add-self
overflow_add-self t c = search place_fits

pub with-q-requires : goal.with-q-requires
with-q-requires t c = search place_low

pub with-requires : goal.with-requires
with-requires t c = search share_low

pub expand-requires : goal.expand-requires
expand-requires t c = (search fewer_left, (search left_within, search room_share))

pub loop-j-preserved : goal.loop-j-preserved
loop-j-preserved t c = search shares_more

pub returns : goal.returns
returns t c = search shares_all
