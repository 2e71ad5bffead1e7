-- Trials and forecast (RULES 7): the trials that a verdict takes; and, from the head record alone, the forecast of the workspace and of the most
-- trials. A trial puts one sharing through one stage.
use Rattle.std.specs.Prelude.{ℕ, ◌+◌, ◌*◌, ◌-◌, ◌^◌, Bool, not, ◌&&◌, ◌||◌, List, eqb, leb}
use Rattle.reasons.specs.Numbers.{number}
use Rattle.reasons.specs.declared.Reason.TheVariants.{NotCorrect, NotNonComplete, NotUniform}
use Rattle.finite.specs.Tests.{pick, tried, total}
use Rattle.finite.specs.Maps.{met_before}
use Rattle.records.specs.Design.{Stage, Design, stage_of}
use Rattle.design.specs.Reading.{head_of, head_fault, meaning}
use Rattle.design.specs.Limits.{Head}
use Rattle.sharing.specs.Stages.{output, sums_right}
use Rattle.checker.specs.Verdict.{Verdict, workspace_for, verdict}

-- ---- The two passes over the sharings of a stage: each tries the sharings as numbers from 0 on and stops after the first with a fault, which counts.

-- correctness: the output of the sharing σ does not sum to what the table makes of its sum
abbrev pub sums_wrong : ℕ → ℕ → Stage → ℕ → Bool
sums_wrong w s g σ = not (sums_right w s g.lists g.table σ)

abbrev pub correctness_tries : ℕ → ℕ → Stage → ℕ
correctness_tries w s g = tried (2 ^ (w * s)) (sums_wrong w s g)

-- uniformity: the output sharing was met before
abbrev pub output_met : Stage → ℕ → Bool
output_met g = met_before (output g.lists)

abbrev pub uniformity_tries : ℕ → ℕ → Stage → ℕ
uniformity_tries w s g = tried (2 ^ (w * s)) (output_met g)

-- ---- The trials of a verdict

-- of stage t, counted from 0
abbrev pub correctness_at : Design → ℕ → ℕ
correctness_at d t = correctness_tries d.m d.s (stage_of d t)

abbrev pub uniformity_at : Design → ℕ → ℕ
uniformity_at d t = uniformity_tries d.m d.s (stage_of d t)

-- both passes of the first n stages
unfoldable pub both_passes : Design → ℕ → ℕ
both_passes d n = total n (λ t. correctness_at d t + uniformity_at d t)

-- By the verdict on d, so that the order of faults is that of the verdict: none with 1 to 11; with 12 and 13, whose place is the stage, both passes of the
-- stages before it and its correctness, since looking for 13 costs no trial; with 14 and 0 both passes of all stages up to the place.
unfoldable pub trials_of : Design → Verdict → ℕ
trials_of d v =
    pick (leb 1 v.reason && leb v.reason 11) 0
    (pick (eqb v.reason (number NotCorrect) || eqb v.reason (number NotNonComplete)) (both_passes d (v.place - 1) + correctness_at d (v.place - 1))
    (both_passes d v.place))

-- The same by outcome, N being 2^(m × s): with 12 at stage i, 2(i - 1)N and the tries of correctness; with 13, (2(i - 1) + 1)N; with 14, as many and the
-- tries of uniformity; with 0, 2kN; else none.
abbrev pub trials_by_outcome : Design → Verdict → ℕ
trials_by_outcome d v =
    let sharings = 2 ^ (d.m * d.s) in
    let t = v.place - 1 in
    pick (eqb v.reason (number NotCorrect)) (2 * t * sharings + correctness_at d t)
    (pick (eqb v.reason (number NotNonComplete)) ((2 * t + 1) * sharings)
    (pick (eqb v.reason (number NotUniform)) ((2 * t + 1) * sharings + uniformity_at d t)
    (pick (eqb v.reason 0) (2 * v.place * sharings) 0)))

-- of the verdict on a file, with a workspace of n bytes
unfoldable pub trials : List ℕ → ℕ → ℕ
trials f n = trials_of (meaning f) (verdict f n)

-- ---- The verdict with its trials

pub record Judged : Type 0 where
  pub verdict : Verdict
  pub trials : ℕ

abbrev pub counted : Verdict → ℕ → Judged
counted v n = record { verdict = v; trials = n }

unfoldable pub judging : List ℕ → ℕ → Judged
judging f n = counted (verdict f n) (trials f n)

-- ---- The forecast

-- the number of a refusal, or 0, bytes of workspace, and the most trials
pub record Forecast : Type 0 where
  pub reason : ℕ
  pub workspace : ℕ
  pub trials : ℕ

-- the most trials of k stages of width m with s shares
abbrev pub most_trials : ℕ → ℕ → ℕ → ℕ
most_trials m s k = 2 * k * 2 ^ (m * s)

abbrev pub forecast_for : Head → Forecast
forecast_for h = record { reason = 0; workspace = workspace_for h.m h.s; trials = most_trials h.m h.s h.k }

abbrev pub no_forecast : ℕ → Forecast
no_forecast r = record { reason = r; workspace = 0; trials = 0 }

-- from the head record alone, which is refused as in reading
unfoldable pub forecast : List ℕ → Forecast
forecast f = pick (eqb (head_fault f) 0) (forecast_for (head_of f)) (no_forecast (head_fault f))
