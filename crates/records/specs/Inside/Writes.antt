-- What a writer does: it starts at the front of an output, and writes bytes where it is.
use Rattle.std.specs.Prelude.{ℕ, ◌≡◌, ◌+◌, ◌≤◌, List, length}
use Rattle.std.specs.Borrow.{MutBor}
use Rattle.records.specs.declared.writer.Writer.{Writer}
use Rattle.records.specs.Inside.Overwriting.{overwrite}

-- it writes to this output, and nothing is written yet
pub record Starts (out : MutBor (List ℕ)) (w : Writer) : Type 0 where
  pub same : w.out.ghost_name ≡ out.ghost_name
  pub output : w.out.now ≡ out.now
  pub place : w.at ≡ 0

-- there is room in the output for these bytes
pub record Room (w : Writer) (b : List ℕ) : Type 0 where
  pub within : w.at + length b ≤ length w.out.now

-- a writer goes over to another: these bytes are written over the output at its place, which is behind them afterwards
pub record Writes (w w' : Writer) (b : List ℕ) : Type 0 where
  pub same : w'.out.ghost_name ≡ w.out.ghost_name
  pub output : w'.out.now ≡ overwrite w.out.now w.at b
  pub place : w'.at ≡ w.at + length b
