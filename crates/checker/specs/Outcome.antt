-- What `judge` gives as three numbers and the trials, and what `foresee` gives as three numbers.
use Rattle.std.specs.Prelude.{ℕ, Result, Ok, Err}
use Rattle.reasons.specs.Numbers.{number}
use Rattle.reasons.specs.declared.Reason.{Reason}
use Rattle.reasons.specs.declared.Reason.TheVariants as reasons
use Rattle.design.specs.Errors.{fault_reason}
use Rattle.checker.specs.Verdict.{Verdict, answer}
use Rattle.checker.specs.Trials.{Forecast, Judged, counted, no_forecast}
use Rattle.checker.specs.declared.refusals.Refusal.{Refusal}
use Rattle.checker.specs.declared.refusals.Refusal.TheVariants.{Unreadable, BoxRepeats, WorkspaceTooSmall, ChainIsNotBox, NotCorrect, NotNonComplete, NotUniform}
use Rattle.checker.specs.declared.Judgement.{Judgement}
use Rattle.checker.specs.declared.Needs.{Needs}

-- a refusal answers its reason's number, and the place and the component that it names
abbrev pub refused_with : Refusal → Verdict
refused_with (Unreadable error) = answer (number (fault_reason error.fault)) error.place 0
refused_with BoxRepeats = answer (number reasons.BoxRepeats) 0 0
refused_with WorkspaceTooSmall = answer (number reasons.WorkspaceTooSmall) 0 0
refused_with ChainIsNotBox = answer (number reasons.ChainIsNotBox) 0 0
refused_with (NotCorrect stage) = answer (number reasons.NotCorrect) stage 0
refused_with (NotNonComplete stage component) = answer (number reasons.NotNonComplete) stage component
refused_with (NotUniform stage) = answer (number reasons.NotUniform) stage 0

-- acceptance answers 0, and the number of stages as the place
abbrev pub verdict_of : Result ℕ Refusal → Verdict
verdict_of (Ok stages) = answer 0 stages 0
verdict_of (Err r) = refused_with r

abbrev pub judged_of : Judgement → Judged
judged_of j = counted (verdict_of j.outcome) j.trials

-- a refusal before any trial
abbrev pub untried : Refusal → Judged
untried r = counted (refused_with r) 0

-- a head record that is refused needs nothing
abbrev pub forecast_of : Result Needs Reason → Forecast
forecast_of (Ok n) = record { reason = 0; workspace = n.workspace; trials = n.trials }
forecast_of (Err r) = no_forecast (number r)
