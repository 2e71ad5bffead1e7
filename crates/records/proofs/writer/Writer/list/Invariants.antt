-- `Writer::list` meets its contract. The invariant: the terms so far are written behind the head.
use Rattle.std.proofs.Common.{take}
use Rattle.records.specs.Bytes.{term_bytes}
use Rattle.records.specs.Inside.Writes.{Writes}
use Rattle.records.proofs.writer.Writer.list.Given as goal

abbrev pub invariant-loop-term : goal.invariant-loop-term
invariant-loop-term l = Writes l.initial.self l.self (term_bytes (take l.term-index l.terms))
