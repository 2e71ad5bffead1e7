use Rattle.direct.proofs.RuleLists.{gathered_none, width_shifts, bit_low, term_cast, room_term, gathers_more, gathers_none, all_gathered}
use Rattle.direct.proofs.Rule.gather.Goals.{then-has, else-has}
use Rattle.direct.proofs.Rule.gather.Goals as goal

pub power-requires : goal.power-requires
power-requires c = search width_shifts

pub loop-u-init : goal.loop-u-init
loop-u-init c = search gathered_none

pub has-requires : goal.has-requires
has-requires c = search bit_low

pub overflow_cast-u : goal.overflow_cast-u
overflow_cast-u c = search term_cast

pub expand-requires-clause-room : goal.expand-requires-clause-room
expand-requires-clause-room c = search room_term

pub loop-u-preserved : goal.loop-u-preserved
loop-u-preserved c = elim c.if-has.branch [ then-has w ↦ rw w.list-is (search gathers_more) | else-has w ↦ rw w.list-is (search gathers_none) ]

pub returns : goal.returns
returns c = search all_gathered
