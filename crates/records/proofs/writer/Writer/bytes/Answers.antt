-- `Writer::bytes` meets its contract: the part of the output from its place on is these bytes.
use Rattle.std.proofs.Common.{refl}
use Rattle.records.proofs.Writes.{part_written}
use Rattle.records.proofs.writer.Writer.bytes.Goals as goal

pub returns : goal.returns
returns c = record { same = refl; output = search part_written; place = refl }
