-- The answer of the transform explained, one case for each number in the published order: the fault that it names is there and none before it is, or none is.
use Rattle.std.specs.Prelude.{ℕ, ◌^◌, ◌<◌, ◌≤◌, ◌≡◌, List, length}
use Rattle.reasons.specs.Numbers.{number}
use Rattle.reasons.specs.declared.Reason.TheVariants.{LimitBroken, WrongLength, EntryTooLarge, OutputTooShort}
use Rattle.anf.specs.Tables.{entry, TableFits}
use Rattle.anf.specs.Transform.{greatest_width}

-- a width that is taken
abbrev pub WidthFits : ℕ → Type 0
WidthFits m = (1 ≤ m) × (m ≤ greatest_width)

pub data TransformExplained (m : ℕ) (input : List ℕ) (room : ℕ) : ℕ → Type 0 where
  width_wrong : ¬ WidthFits m → TransformExplained m input room (number LimitBroken)
  size_wrong : WidthFits m → ¬ (length input ≡ 2 ^ m) → TransformExplained m input room (number WrongLength)
  -- the word at x is 2^m or more
  word_high : (x : ℕ) → WidthFits m → length input ≡ 2 ^ m → x < 2 ^ m → 2 ^ m ≤ entry input x → TransformExplained m input room (number EntryTooLarge)
  output_short : WidthFits m → TableFits m input → room < 2 ^ m → TransformExplained m input room (number OutputTooShort)
  transforms : WidthFits m → TableFits m input → 2 ^ m ≤ room → TransformExplained m input room 0
