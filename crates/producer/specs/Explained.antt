-- The answer of producing explained, one case for each number in the published order: the fault that it names is there and none before it is, or none is.
use Rattle.std.specs.Prelude.{ℕ, ◌^◌, ◌<◌, ◌≤◌, ◌≡◌, List, length}
use Rattle.reasons.specs.Numbers.{number}
use Rattle.reasons.specs.declared.Reason.TheVariants.{LimitBroken, WrongLength, EntryTooLarge, BoxRepeats, BadPlacement, DegreeTooHigh, OutputTooShort}
use Rattle.anf.specs.NormalForm.{degree}
use Rattle.anf.specs.Tables.{entry, TableFits, Permutation}
use Rattle.design.specs.Limits.{WithinLimits}
use Rattle.direct.specs.Direct.{Loads, Box}
use Rattle.producer.specs.Producing.{produced, Succeeds}

pub data ProducingExplained (m s : ℕ) (t l : List ℕ) (room : ℕ) : ℕ → Type 0 where
  limit_broken : ¬ WithinLimits m s 1 → ProducingExplained m s t l room (number LimitBroken)
  size_wrong : WithinLimits m s 1 → ¬ (length t ≡ 2 ^ m) → ProducingExplained m s t l room (number WrongLength)
  -- the entry at x is 2^m or more
  entry_high : (x : ℕ) → WithinLimits m s 1 → length t ≡ 2 ^ m → x < 2 ^ m → 2 ^ m ≤ entry t x → ProducingExplained m s t l room (number EntryTooLarge)
  box_repeats : WithinLimits m s 1 → TableFits m t → ¬ Permutation m t → ProducingExplained m s t l room (number BoxRepeats)
  placement_wrong : Box m s t → ¬ Loads s l → ProducingExplained m s t l room (number BadPlacement)
  degree_high : Box m s t → Loads s l → s ≤ degree m (entry t) → ProducingExplained m s t l room (number DegreeTooHigh)
  output_short : Box m s t → Loads s l → degree m (entry t) < s → room < length (produced m s t l) → ProducingExplained m s t l room (number OutputTooShort)
  succeeds : Succeeds m s t l room → ProducingExplained m s t l room 0
