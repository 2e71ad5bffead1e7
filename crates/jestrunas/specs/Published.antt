-- What C is answered: each struct has the fields of the definition's record of its name.
use Rattle.std.specs.Prelude.{List, ℕ, ◌∷◌, ◌++◌}
use Rattle.std.specs.Fmt.{decimal}
use Rattle.records.specs.Writing as writing
use Rattle.design.specs.Reading.{reading, reason_of, place_of}
use Rattle.threshold.specs.Running as running
use Rattle.checker.specs.Verdict as verdict
use Rattle.checker.specs.Trials as trials
use Rattle.jestrunas.specs.declared.answers.Verdict.{Verdict}
use Rattle.jestrunas.specs.declared.answers.Judged.{Judged}
use Rattle.jestrunas.specs.declared.answers.Forecast.{Forecast}
use Rattle.jestrunas.specs.declared.answers.Ran.{Ran}
use Rattle.jestrunas.specs.declared.answers.Produced.{Produced}

abbrev pub c_verdict : verdict.Verdict → Verdict
c_verdict v = record { reason = v.reason; place = v.place; component = v.component }

abbrev pub c_judged : trials.Judged → Judged
c_judged j = record { verdict = c_verdict j.verdict; trials = j.trials }

abbrev pub c_forecast : trials.Forecast → Forecast
c_forecast f = record { reason = f.reason; workspace = f.workspace; trials = f.trials }

abbrev pub c_ran : running.Ran → Ran
c_ran r = record { reason = r.reason; shares = r.shares }

abbrev pub c_produced : writing.Produced → Produced
c_produced p = record { reason = p.reason; length = p.length }

-- Reading alone, as it is published (RULES 5.2, 5.3): reason, place and 0; on success all three are 0.
unfoldable pub read_answer : List ℕ → verdict.Verdict
read_answer f = verdict.answer (reason_of (reading f)) (place_of (reading f)) 0

-- a verdict as it is printed: three decimal numbers with one space between
abbrev pub verdict_text : Verdict → List ℕ
verdict_text v = decimal v.reason ++ 32 ∷ (decimal v.place ++ 32 ∷ decimal v.component)

-- ---- and back: what C was answered, as the definitions' records

abbrev pub of_verdict : Verdict → verdict.Verdict
of_verdict v = verdict.answer v.reason v.place v.component

abbrev pub of_run : Ran → running.Ran
of_run r = record { reason = r.reason; shares = r.shares }
