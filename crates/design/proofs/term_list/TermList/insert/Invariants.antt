-- `TermList::insert` meets its contract. The invariant: the terms passed are in their places, and what comes of the others is what comes of all.
use Rattle.design.proofs.Inserting.{Moving}
use Rattle.design.proofs.term_list.TermList.insert.Given as goal

abbrev pub invariant-loop-i : goal.invariant-loop-i
invariant-loop-i g l =
    Moving g.row.N l.initial.self-inside.len l.self-inside.len l.i-end l.initial.self-inside.terms l.self-inside.terms l.initial.i l.i l.initial.next l.next
