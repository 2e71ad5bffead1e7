-- What a run gives, as an answer.
use Rattle.std.specs.Prelude.{ℕ, List, Result, Ok, Err}
use Rattle.reasons.specs.Numbers.{number}
use Rattle.reasons.specs.declared.Reason.{Reason}
use Rattle.threshold.specs.Running.{Ran, refused_run}

-- success answers 0 and the shares
abbrev pub finished : List ℕ → Ran
finished shares = record { reason = 0; shares = shares }

abbrev pub ran_of : Result (List ℕ) Reason → Ran
ran_of (Ok shares) = finished shares
ran_of (Err r) = refused_run (number r)
