-- The verdict program: the line that it prints, by the bytes of its input (RULES 13).
use Rattle.std.specs.Prelude.{ℕ, List, [], ◌∷◌, ◌++◌, length, ltb}
use Rattle.finite.specs.Tests.{pick}
use Rattle.reasons.specs.Numbers.{number}
use Rattle.reasons.specs.declared.Reason.TheVariants.{InputTooLong}
use Rattle.checker.specs.Verdict as verdict
use Rattle.jestrunas.specs.Published.{c_verdict, verdict_text}
use Rattle.jestrunas.specs.declared.answers.Verdict.{Verdict}

-- the most bytes that are judged
abbrev pub most_bytes : ℕ
most_bytes = 32768

-- the bytes of the workspace
abbrev pub workspace : ℕ
workspace = 32768

-- 18 where the input is longer than what is judged, before anything is read as a record; else the verdict on it
unfoldable pub answered : List ℕ → verdict.Verdict
answered input = pick (ltb most_bytes (length input)) (verdict.answer (number InputTooLong) 0 0) (verdict.verdict input workspace)

-- a verdict, and the end of the line
abbrev pub line_text : Verdict → List ℕ
line_text v = verdict_text v ++ 10 ∷ []

-- the line
abbrev pub line : List ℕ → List ℕ
line input = line_text (c_verdict (answered input))
