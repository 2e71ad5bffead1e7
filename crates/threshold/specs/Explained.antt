-- The answer of a run explained, one case for each in the published order: the refusal that it names is there and none before it is, or none is.
use Rattle.std.specs.Prelude.{ℕ, ◌^◌, ◌<◌, ◌≤◌, ◌≡◌, List, get_or}
use Rattle.reasons.specs.Numbers.{number}
use Rattle.reasons.specs.declared.Reason.TheVariants.{BadShare}
use Rattle.design.specs.Limits.{greatest_shares}
use Rattle.records.specs.Design.{Design}
use Rattle.design.specs.Reading.{refused, means, reading}
use Rattle.threshold.specs.Running.{Ran, refused_run, finished_run}

-- used shares are below 2^m, and unused ones zero
pub record SharesFit (d : Design) (l : List ℕ) : Type 0 where
  pub used : (j : ℕ) → j < d.s → get_or l j 0 < 2 ^ d.m
  pub unused : (j : ℕ) → d.s ≤ j → j < greatest_shares → get_or l j 0 ≡ 0

pub data RunningExplained (f l : List ℕ) : Ran → Type 0 where
  file_refused : (r p : ℕ) → reading f ≡ refused r p → RunningExplained f l (refused_run r)
  shares_wrong : (d : Design) → reading f ≡ means d → ¬ SharesFit d l → RunningExplained f l (refused_run (number BadShare))
  runs : (d : Design) → reading f ≡ means d → SharesFit d l → RunningExplained f l (finished_run d l)
