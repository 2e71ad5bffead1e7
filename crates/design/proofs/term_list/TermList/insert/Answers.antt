use Rattle.std.proofs.Common.{rules}
use Rattle.design.proofs.Inserting.{moving_start, moving_on, moving_room, moving_end}
use Rattle.design.proofs.term_list.TermList.insert.Goals as goal

pub loop-i-init : goal.loop-i-init
loop-i-init g c = search (rules, moving_start)

pub loop-i-preserved : goal.loop-i-preserved
loop-i-preserved g c = search (rules, moving_on)

pub offset_bounds-self-inside-self-inside : goal.offset_bounds-self-inside-self-inside
offset_bounds-self-inside-self-inside g c = search (rules, moving_room)

pub bounds-self-inside-self-inside : goal.bounds-self-inside-self-inside
bounds-self-inside-self-inside g c = search (rules, moving_room)

pub overflow_add-self : goal.overflow_add-self
overflow_add-self g c = search (rules, moving_room)

pub invariant_of-self : goal.invariant_of-self
invariant_of-self g c = search (rules, moving_room)

pub returns : goal.returns
returns g c = search (rules, moving_end)
