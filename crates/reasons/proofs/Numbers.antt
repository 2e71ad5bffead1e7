-- The numbers of the reasons: none is 0, which is success, and none is 11, which is retired.
use mathlib.Core.Path.{◌≡◌, refl}
use mathlib.Core.Logic.{◌≢◌}
use mathlib.Core.Bool.{false}
use lib.Dec.{eqb}
use borrow.Author.Tests.{eqb-false}
use Rattle.reasons.specs.Numbers.{number}
use Rattle.reasons.specs.declared.Reason.{Reason}
use Rattle.reasons.specs.declared.Reason.TheVariants.{CutShort, WrongKind, WrongLength, LimitBroken, EntryTooLarge, BadTerm, BytesFollow, BoxRepeats}
use Rattle.reasons.specs.declared.Reason.TheVariants.{WorkspaceTooSmall, ChainIsNotBox, NotCorrect, NotNonComplete, NotUniform, BadShare, DegreeTooHigh}
use Rattle.reasons.specs.declared.Reason.TheVariants.{OutputTooShort, InputTooLong, SharesDiffer, TooManyStages, BadPlacement}

neither : (r : Reason) → (eqb (number r) 0 ≡ false) × (eqb (number r) 11 ≡ false)
neither CutShort = (refl, refl)
neither WrongKind = (refl, refl)
neither WrongLength = (refl, refl)
neither LimitBroken = (refl, refl)
neither EntryTooLarge = (refl, refl)
neither BadTerm = (refl, refl)
neither BytesFollow = (refl, refl)
neither BoxRepeats = (refl, refl)
neither WorkspaceTooSmall = (refl, refl)
neither ChainIsNotBox = (refl, refl)
neither NotCorrect = (refl, refl)
neither NotNonComplete = (refl, refl)
neither NotUniform = (refl, refl)
neither BadShare = (refl, refl)
neither DegreeTooHigh = (refl, refl)
neither OutputTooShort = (refl, refl)
neither InputTooLong = (refl, refl)
neither SharesDiffer = (refl, refl)
neither TooManyStages = (refl, refl)
neither BadPlacement = (refl, refl)

pub number_some : (r : Reason) → number r ≢ 0
number_some r = eqb-false (number r) 0 (neither r).0

pub eleven_not_given : (r : Reason) → number r ≢ 11
eleven_not_given r = eqb-false (number r) 11 (neither r).1
