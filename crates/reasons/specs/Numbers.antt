-- The number of each reason (RULES 14). Success is 0; 11 is retired, and not given again.
use Rattle.std.specs.Prelude.{ℕ, Result, Ok, Err}
use Rattle.reasons.specs.declared.Reason.{Reason}
use Rattle.reasons.specs.declared.Reason.TheVariants.{CutShort, WrongKind, WrongLength, LimitBroken, EntryTooLarge, BadTerm, BytesFollow, BoxRepeats}
use Rattle.reasons.specs.declared.Reason.TheVariants.{WorkspaceTooSmall, ChainIsNotBox, NotCorrect, NotNonComplete, NotUniform, BadShare, DegreeTooHigh}
use Rattle.reasons.specs.declared.Reason.TheVariants.{OutputTooShort, InputTooLong, SharesDiffer, TooManyStages, BadPlacement}

abbrev pub number : Reason → ℕ
number CutShort = 1
number WrongKind = 2
number WrongLength = 3
number LimitBroken = 4
number EntryTooLarge = 5
number BadTerm = 6
number BytesFollow = 7
number BoxRepeats = 8
number WorkspaceTooSmall = 9
number ChainIsNotBox = 10
number NotCorrect = 12
number NotNonComplete = 13
number NotUniform = 14
number BadShare = 15
number DegreeTooHigh = 16
number OutputTooShort = 17
number InputTooLong = 18
number SharesDiffer = 19
number TooManyStages = 20
number BadPlacement = 21

-- the number of an outcome: 0 of success
abbrev pub reason_of : {T : Type 0} → Result T Reason → ℕ
reason_of (Ok x) = 0
reason_of (Err r) = number r
