-- The loop's invariant: the records of the first i lists are written.
use Rattle.std.proofs.Common.{take}
use Rattle.records.specs.Encode.{lists_bytes}
use Rattle.records.specs.Inside.Writes.{Writes}
use Rattle.producer.specs.Inside.Made.{lists_of}
use Rattle.producer.proofs.file.DirectFile.put_lists.Given as goal

abbrev pub invariant-loop-i : goal.invariant-loop-i
invariant-loop-i l = Writes l.initial.writer l.writer (lists_bytes (take l.i (lists_of l.self)))
