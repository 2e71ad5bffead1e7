-- What the clauses of the published operations say, of answers that are equal to the definitions': each from its theorem of `Promises`. Assumes nothing.
use mathlib.Core.Path.{◌≡◌, refl, sym, ap, ◌∙◌}
use mathlib.Core.Logic.{◌↔◌, ◌≢◌}
use mathlib.Core.List.{List}
use Prim.Native.Nat.{ℕ, ◌^◌, ◌≤◌, ◌<◌}
use lib.ListN.{length, take, drop}
use native.Mathlib.Omega.{arith}
use borrow.Author.Tests.{eq-eqb}
use Rattle.finite.proofs.Testing.{pick_true}
use Rattle.design.specs.Reading.{Reading, refused, means, reading, reason_of, place_of}
use Rattle.design.specs.Refused.{RefusedFor}
use Rattle.anf.specs.Transform.{transform_reason, transform_after, transformed}
use Rattle.anf.specs.Explained.{TransformExplained}
use Rattle.threshold.specs.Running as runs
use Rattle.threshold.specs.Explained.{RunningExplained}
use Rattle.records.specs.Writing.{writing_answer}
use Rattle.checker.specs.Verdict as verdicts
use Rattle.checker.specs.Verdict.{verdict, workspace_after}
use Rattle.checker.specs.Trials.{judging, trials, forecast}
use Rattle.checker.specs.Accepted.{Explained}
use Rattle.checker.proofs.Exactly.{reason_zero}
use Rattle.direct.specs.Direct.{placed, direct_sharing}
use Rattle.producer.specs.Producing.{produced, produced_reason, producing, output_after, Succeeds}
use Rattle.producer.specs.Explained.{ProducingExplained}
use Rattle.joiner.specs.Joining.{joined, joined_reason, joining, joined_after, JoiningExplained}
use Rattle.jestrunas.specs.Published.{c_verdict, c_judged, c_forecast, c_ran, c_produced, read_answer, of_verdict, of_run}
use Rattle.jestrunas.specs.Promised.{Reads, Early, WorkspaceZeroed, IsAccepted, IsAssured, Impossible, Joins, ReadsJoined}
use Rattle.jestrunas.specs.declared.answers.Verdict.{Verdict}
use Rattle.jestrunas.specs.declared.answers.Judged.{Judged}
use Rattle.jestrunas.specs.declared.answers.Forecast.{Forecast}
use Rattle.jestrunas.specs.declared.answers.Ran.{Ran}
use Rattle.jestrunas.specs.declared.answers.Produced.{Produced}
use Rattle.jestrunas.proofs.Promises as promises

-- ---- reading

reads_zero : (f : List ℕ) (r : Reading) → reading f ≡ r → reason_of r ≡ 0 → Reads f
reads_zero f (refused r p) e z = absurd (omega (arith, promises.reason_range f r p e, z))
reads_zero f (means d) e z = (d, e)

refused_some : (f : List ℕ) (r : Reading) → reading f ≡ r → reason_of r ≢ 0 → RefusedFor f (reason_of r) (place_of r)
refused_some f (refused r p) e n = (promises.reading_explained f r p).0 e
refused_some f (means d) e n = absurd (n refl)

module _ (f : List ℕ) (v : Verdict) (e : v ≡ c_verdict (read_answer f)) where
  read_reason : v.reason ≡ reason_of (reading f)
  unfolding read_answer
  read_reason = ap (λ (x : Verdict). x.reason) e

  read_place : v.place ≡ place_of (reading f)
  unfolding read_answer
  read_place = ap (λ (x : Verdict). x.place) e

  pub read_reads : (v.reason ≡ 0) ↔ Reads f
  read_reads = (λ z. reads_zero f (reading f) refl (sym read_reason ∙ z), λ d. read_reason ∙ ap reason_of d.1)

  pub read_explained : v.reason ≢ 0 → RefusedFor f v.reason v.place
  read_explained n = rw (read_reason, read_place) (refused_some f (reading f) refl (λ z. n (read_reason ∙ z)))

-- ---- the forecast

module _ (f : List ℕ) (a : Forecast) (e : a ≡ c_forecast (forecast f)) where
  workspace_same : a.workspace ≡ (forecast f).workspace
  workspace_same = ap (λ (x : Forecast). x.workspace) e

  trials_same : a.trials ≡ (forecast f).trials
  trials_same = ap (λ (x : Forecast). x.trials) e

  pub forecast_most : (n : ℕ) → trials f n ≤ a.trials
  forecast_most n = rw trials_same (promises.trials_most f n)

  pub forecast_enough : (n : ℕ) → a.workspace ≤ n → (verdict f n).reason ≢ 9
  forecast_enough n h = promises.workspace_enough f n (rw workspace_same at h)

  pub forecast_needed : (n : ℕ) → n < a.workspace → (verdict f n).reason ≢ 0
  forecast_needed n h = promises.workspace_needed f n (rw workspace_same at h)

-- ---- the verdict

module _ (f ws : List ℕ) (j : Judged) (e : j ≡ c_judged (judging f (length ws))) where
  judged_verdict : j.verdict ≡ c_verdict (verdict f (length ws))
  unfolding judging
  judged_verdict = ap (λ (x : Judged). x.verdict) e

  judged_trials : j.trials ≡ trials f (length ws)
  unfolding judging
  judged_trials = ap (λ (x : Judged). x.trials) e

  judged_reason : j.verdict.reason ≡ (verdict f (length ws)).reason
  judged_reason = ap (λ (x : Verdict). x.reason) judged_verdict

  pub judge_accepted : (j.verdict.reason ≡ 0) ↔ IsAccepted f (length ws)
  judge_accepted = (
    λ z. reason_zero f (length ws) (sym judged_reason ∙ z),
    λ a. judged_reason ∙ ap (λ (x : verdicts.Verdict). x.reason) ((promises.accepted_exactly f (length ws) a.0.k).1 (a.0, refl, a.1)),
  )

  pub judge_explained : Explained f (length ws) (of_verdict j.verdict)
  judge_explained = (promises.verdict_explained f (length ws) (of_verdict j.verdict)).0 (sym (ap of_verdict judged_verdict))

  pub judge_assured : j.verdict.reason ≡ 0 → IsAssured f
  judge_assured z = promises.blind f (length ws) (sym judged_reason ∙ z)

  pub judge_foreseen : j.trials ≤ (forecast f).trials
  judge_foreseen = rw judged_trials (promises.trials_most f (length ws))

  module _ (after : List ℕ) (w : after ≡ workspace_after f ws) where
    pub judge_untouched : Early j.verdict.reason → after ≡ ws
    judge_untouched b = w ∙ promises.workspace_untouched f ws (omega (arith, judged_reason, b.0)) (omega (arith, judged_reason, b.1))

    pub judge_zeroed : WorkspaceZeroed f j.verdict.reason ws after
    judge_zeroed d r c = rw w (promises.workspace_zeroed f ws d r (rw judged_reason at c))

-- ---- running

module _ (f l : List ℕ) (a : Ran) (e : a ≡ c_ran (runs.running f l)) where
  pub run_explained : RunningExplained f l (of_run a)
  run_explained = (promises.run_explained f l (of_run a)).0 (sym (ap of_run e))

-- ---- producing

module _ (m s : ℕ) (t l out : List ℕ) (p : Produced) (e : p ≡ c_produced (producing m s t l (length out))) where
  produce_reason : p.reason ≡ produced_reason m s t l (length out)
  unfolding writing_answer
  produce_reason = ap (λ (x : Produced). x.reason) e

  produce_length : p.reason ≡ 0 → p.length ≡ length (produced m s t l)
  unfolding writing_answer
  produce_length z = ap (λ (x : Produced). x.length) e ∙ pick_true _ _ _ (eq-eqb _ 0 (sym produce_reason ∙ z))

  pub produce_succeeds : (p.reason ≡ 0) ↔ Succeeds m s t l (length out)
  produce_succeeds = rw produce_reason (promises.produced_exactly m s t l (length out))

  pub produce_explained : ProducingExplained m s t l (length out) p.reason
  produce_explained = (promises.produced_explained m s t l (length out) p.reason).0 (sym produce_reason)

  pub produce_impossible : Impossible m s t l p.reason
  produce_impossible = rw produce_reason (promises.refused_exactly m s t l (length out))

  module _ (after : List ℕ) (w : after ≡ output_after m s t l out) where
    pub produce_reads : p.reason ≡ 0 → reading (take p.length after) ≡ means (direct_sharing m s (placed s l) t)
    produce_reads z =
        let g = (promises.produced_exactly m s t l (length out)).0 (sym produce_reason ∙ z) in
        rw (produce_length z, w, promises.produced_file m s t l out (sym produce_reason ∙ z)) ((promises.produced_reads m s t l g.box g.loads g.low).0)

    pub produce_rest : p.reason ≡ 0 → drop p.length after ≡ drop p.length out
    produce_rest z = rw (produce_length z, w) (promises.produced_rest m s t l out (sym produce_reason ∙ z))

    pub produce_refused : p.reason ≢ 0 → after ≡ out
    produce_refused n = w ∙ promises.refused_output m s t l out (λ z. n (produce_reason ∙ z))

-- ---- joining

module _ (f g out : List ℕ) (p : Produced) (e : p ≡ c_produced (joining f g (length out))) where
  join_reason : p.reason ≡ joined_reason f g (length out)
  unfolding writing_answer
  join_reason = ap (λ (x : Produced). x.reason) e

  join_length : p.reason ≡ 0 → p.length ≡ length (joined f g)
  unfolding writing_answer
  join_length z = ap (λ (x : Produced). x.length) e ∙ pick_true _ _ _ (eq-eqb _ 0 (sym join_reason ∙ z))

  pub join_succeeds : (p.reason ≡ 0) ↔ Joins f g (length out)
  join_succeeds = rw join_reason (promises.joined_exactly f g (length out))

  pub join_explained : JoiningExplained f g (length out) p.reason
  join_explained = (promises.joined_explained f g (length out) p.reason).0 (sym join_reason)

  module _ (after : List ℕ) (w : after ≡ joined_after f g out) where
    pub join_reads : p.reason ≡ 0 → ReadsJoined f g (take p.length after)
    join_reads z d x j = rw (join_length z, w, promises.joined_file f g out (sym join_reason ∙ z)) (promises.joined_reads f g d x j)

    pub join_rest : p.reason ≡ 0 → drop p.length after ≡ drop p.length out
    join_rest z = rw (join_length z, w) (promises.joined_rest f g out (sym join_reason ∙ z))

    pub join_refused : p.reason ≢ 0 → after ≡ out
    join_refused n = w ∙ promises.joined_refused f g out (λ z. n (join_reason ∙ z))

-- ---- the transform

module _ (m : ℕ) (input out : List ℕ) (r : ℕ) (e : r ≡ transform_reason m input (length out)) where
  pub transform_explained : TransformExplained m input (length out) r
  transform_explained = (promises.transform_explained m input (length out) r).0 (sym e)

  module _ (after : List ℕ) (w : after ≡ transform_after m input out) where
    pub transform_words : r ≡ 0 → take (2 ^ m) after ≡ transformed m input
    transform_words z = rw w (promises.transform_words m input out (sym e ∙ z))

    pub transform_rest : r ≡ 0 → drop (2 ^ m) after ≡ drop (2 ^ m) out
    transform_rest z = rw w (promises.transform_rest m input out (sym e ∙ z))

    pub transform_refused : r ≢ 0 → after ≡ out
    transform_refused n = w ∙ promises.transform_refused m input out (λ z. n (e ∙ z))
