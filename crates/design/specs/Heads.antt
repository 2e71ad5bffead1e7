-- The code's head as the definitions see it, and the design that a file with this head means.
use Rattle.std.specs.Prelude.{ℕ, List, Result, Ok, Err}
use Rattle.design.specs.Limits.{Head}
use Rattle.records.specs.Design.{Design}
use Rattle.design.specs.Reading.{meaning}
use Rattle.design.specs.Layout.{HeadRead, refused_head, Layout}
use Rattle.design.specs.declared.heads.Head as heads
use Rattle.design.specs.declared.errors.Fault.{Fault}
use Rattle.design.specs.Errors.{fault_reason}
use Rattle.reasons.specs.declared.Reason.{Reason}
use Rattle.reasons.specs.Numbers.{number}

-- its three numbers
abbrev pub numbers : heads.Head → Head
numbers h = record { m = h.m; s = h.s; k = h.k }

-- the answer of its constructor
abbrev pub head_outcome : Result heads.Head Reason → Result Head Reason
head_outcome (Ok h) = Ok (numbers h)
head_outcome (Err r) = Err r

-- the answer of reading the head record alone
abbrev pub head_reading : Result heads.Head Fault → HeadRead
head_reading (Ok h) = record { reason = 0; head = numbers h }
head_reading (Err r) = refused_head (number (fault_reason r))

-- the layout of a file that reads, with a head of these numbers, or this head, and these starts
abbrev pub laid_by : (m s k : ℕ) → List ℕ → Layout
laid_by m s k starts = record { reason = 0; place = 0; head = record { m = m; s = s; k = k }; starts = starts }

abbrev pub laid : heads.Head → List ℕ → Layout
laid h starts = laid_by h.m h.s h.k starts

-- the design that a file with this head means, where it reads: its numbers are those of the head, so that what is said of one is said of the other
abbrev pub design_by : Head → List ℕ → Design
design_by h f = record { m = h.m; s = h.s; k = h.k; box = (meaning f).box; stages = (meaning f).stages }
