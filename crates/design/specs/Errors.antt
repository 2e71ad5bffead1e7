-- What the faults of reading are as published reasons.
use Rattle.std.specs.Prelude.{ℕ, Result, Ok, Err}
use Rattle.reasons.specs.Numbers.{number}
use Rattle.reasons.specs.declared.Reason.{Reason}
use Rattle.reasons.specs.declared.Reason.TheVariants as reasons
use Rattle.design.specs.declared.errors.Fault.{Fault}
use Rattle.design.specs.declared.errors.Fault.TheVariants.{CutShort, WrongKind, WrongLength, LimitBroken, EntryTooLarge, BadTerm, BytesFollow}

abbrev pub fault_reason : Fault → Reason
fault_reason CutShort = reasons.CutShort
fault_reason WrongKind = reasons.WrongKind
fault_reason WrongLength = reasons.WrongLength
fault_reason LimitBroken = reasons.LimitBroken
fault_reason EntryTooLarge = reasons.EntryTooLarge
fault_reason BadTerm = reasons.BadTerm
fault_reason BytesFollow = reasons.BytesFollow

-- the number of an outcome: 0 of success
abbrev pub fault_of : {T : Type 0} → Result T Fault → ℕ
fault_of (Ok x) = 0
fault_of (Err fault) = number (fault_reason fault)
