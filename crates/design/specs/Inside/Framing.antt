-- The first fault of a record's head and length, or 0.
use Rattle.std.specs.Prelude.{ℕ, List}
use Rattle.finite.specs.Faults.{first_fault}
use Rattle.design.specs.Reading.{frame_faults}

unfoldable pub frame_fault : List ℕ → ℕ → ℕ → ℕ → ℕ
frame_fault f at kind size = first_fault (frame_faults f at kind size) 0
