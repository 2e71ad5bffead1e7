-- `sent_through` meets its contract. The invariant, `Sent`: the entries so far are sent through.
use Rattle.joiner.proofs.JoinedFile.{Sent}
use Rattle.joiner.proofs.file.sent_through.Given as goal

abbrev pub invariant-loop-x : goal.invariant-loop-x
invariant-loop-x l = Sent l.t l.u l.table l.x
