use Rattle.verdict.proofs.Reading.{room_read, more_read}
use Rattle.verdict.proofs.program.read_input.Goals as goal

pub loop-n-preserved : goal.loop-n-preserved
loop-n-preserved g c =
    let read = c.in-Ok.ensures in
    record {
      within = room_read c.loop-n.bytes c.read.new.buf _ _ _ c.loop-n.invariant.within read.bound.0;
      read = more_read _ _ _ c.loop-n.bytes c.read.new.buf _ _ _ c.loop-n.invariant.within read.bound.0 c.loop-n.invariant.read read.bytes.0;
    }
