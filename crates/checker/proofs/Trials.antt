-- The trials of a verdict and their forecast, as a customer relies on them.
-- Assumes nothing.
use mathlib.Core.Path.{◌≡◌, refl, sym, ap, ap₂, ◌∙◌}
use mathlib.Core.Logic.{◌↔◌, ◌≢◌}
use mathlib.Core.List.{List}
use Prim.Native.Nat.{ℕ, zero, suc, ◌+◌, ◌*◌, ◌-◌, ◌^◌, ◌<◌, ◌≤◌}
use native.Mathlib.Nat.{le_refl, add-mul, mul-le-mul}
use native.Mathlib.Numerals.{add-one}
use native.Mathlib.Omega.{arith}
use lib.ListN.{take}
use lib.Dec.{eqb}
use borrow.Author.Tests.{eq-eqb, ne_eqb, not-true}
use Rattle.finite.specs.Tests.{pick}
use Rattle.finite.proofs.Testing.{pick_true, pick_false, pick_number}
use Rattle.records.specs.Design.{Design, stage_of}
use Rattle.design.specs.WellFormed.{WellFormed}
use Rattle.design.specs.Reading.{Reading, refused, means, head_of, head_fault, meaning, reading}
use Rattle.design.specs.Limits.{Head}
use Rattle.design.proofs.HeadAlone.{head_seven, fault_seven, head_range, refused_first, reads_head}
use Rattle.design.proofs.Walking.{head_refused}
use Rattle.design.proofs.Meaning.{read_means}
use Rattle.design.proofs.Theorems.{read_formed}
use Rattle.design.proofs.Reasons.{reason_range}
use Rattle.sharing.proofs.Tests.{correct↔, uniform↔}
use Rattle.sharing.proofs.Stages.{stage_uniform_repeats}
use Rattle.checker.specs.Verdict.{Verdict, answer, workspace_for, judged_reading, judged, verdict}
use Rattle.checker.specs.Trials.{Forecast, correctness_at, uniformity_at, both_passes, trials_of, trials_by_outcome, trials, most_trials, forecast_for, no_forecast, forecast}
use Rattle.checker.specs.Accepted.{CorrectAt, SoundAt, SoundBefore, Sound, ExplainedDesign}
use Rattle.checker.specs.Accepted.{fault_8, fault_9, fault_10, fault_12, fault_13, fault_14, accepted}
use Rattle.checker.proofs.Passes.{untried, twice_more, both_none, both_more, correctness_all, uniformity_all, correctness_most, uniformity_most}
use Rattle.checker.proofs.Chaining.{chain_permutes}
use Rattle.checker.proofs.Exactly.{judged_explained, verdict_reads, accepted_exactly, reason_zero}

-- ---- the forecast

-- by what is found of the head record
abbrev forecast_by : ℕ → Head → Forecast
forecast_by r h = pick (eqb r 0) (forecast_for h) (no_forecast r)

-- seven bytes decide
pub forecast_head : (f g : List ℕ) → take 7 f ≡ take 7 g → forecast f ≡ forecast g
unfolding forecast
forecast_head f g e =
    ap₂ forecast_by (fault_seven f) (head_seven f) ∙ ap (λ (b : List ℕ). forecast_by (head_fault b) (head_of b)) e ∙ sym (ap₂ forecast_by (fault_seven g) (head_seven g))

module _ (f : List ℕ) where
  forecast_reason : (forecast f).reason ≡ head_fault f
  unfolding forecast
  forecast_reason = pick_number (λ (x : Forecast). x.reason) (head_fault f) _ _ refl refl

  pub forecast_range : (forecast f).reason ≤ 4
  forecast_range = rw forecast_reason (head_range f)

  -- refused exactly where reading refuses the head record
  pub forecast_refused : (r : ℕ) → r ≢ 0 → (forecast f ≡ no_forecast r) ↔ (reading f ≡ refused r 0)
  unfolding forecast
  forecast_refused r n = (
    λ e. let q : head_fault f ≡ r = sym forecast_reason ∙ ap (λ (x : Forecast). x.reason) e in head_refused f (λ z. n (sym q ∙ z)) ∙ ap (λ (x : ℕ). refused x 0) q,
    λ e. let q = refused_first f r e in pick_false _ _ _ (ne_eqb (head_fault f) 0 (λ z. n (sym q ∙ z))) ∙ ap no_forecast q,
  )

  -- what a readable design needs
  pub forecast_reads : (d : Design) → reading f ≡ means d → forecast f ≡ record { reason = 0; workspace = workspace_for d.m d.s; trials = most_trials d.m d.s d.k }
  unfolding forecast meaning
  forecast_reads d e =
      pick_true _ _ _ (eq-eqb (head_fault f) 0 (reads_head f d e))
      ∙ ap (λ (x : Design). record { reason = 0; workspace = workspace_for x.m x.s; trials = most_trials x.m x.s x.k }) (sym (read_means f d e))

-- ---- the trials of stages without fault

correct_whole : (d : Design) (t : ℕ) → CorrectAt d t → correctness_at d t ≡ 2 ^ (d.m * d.s)
correct_whole d t h = correctness_all d.m d.s (stage_of d t) ((correct↔ d.m d.s (stage_of d t)).1 h)

module _ (d : Design) (wf : WellFormed d) (t : ℕ) (p : SoundBefore d t) where
  uniform_whole : (i : ℕ) → i < d.k → SoundAt d i → uniformity_at d i ≡ 2 ^ (d.m * d.s)
  uniform_whole i l h =
      let table = chain_permutes d wf p.box p.chain i l in
      uniformity_all d.m d.s (stage_of d i)
      (not-true _ (sym (stage_uniform_repeats d.m d.s (stage_of d i) (wf.stage i l).table (wf.stage i l).count table h.correct) ∙ (uniform↔ d.m d.s (stage_of d i)).1 h.uniform))

  both_whole : (i : ℕ) → i ≤ d.k → i ≤ t → both_passes d i ≡ 2 * i * 2 ^ (d.m * d.s)
  both_whole zero l h = omega (arith, both_none d)
  both_whole (suc i) l h =
      let s = p.stages i (omega arith) in
      let q : both_passes d (suc i) ≡ correctness_at d i + uniformity_at d i + both_passes d i = rw add-one at (both_more d i) in
      let e = twice_more i (2 ^ (d.m * d.s)) in
      omega (arith, correct_whole d i s.correct, uniform_whole i (omega arith) s, both_whole i (omega arith) (omega arith))

-- ---- the trials by outcome, and that none takes more than is forecast

-- what holds of the trials of a verdict v on d
record Taken (d : Design) (v : Verdict) : Type 0 where
  listed : trials_of d v ≡ trials_by_outcome d v
  most : trials_of d v ≤ most_trials d.m d.s d.k

module _ (d : Design) where
  none_listed : (v : Verdict) → 1 ≤ v.reason → v.reason ≤ 11 → trials_by_outcome d v ≡ 0
  none_listed v l h =
      simp (ne_eqb v.reason 12 (λ e. omega arith), ne_eqb v.reason 13 (λ e. omega arith), ne_eqb v.reason 14 (λ e. omega arith), ne_eqb v.reason 0 (λ e. omega arith))

  none_taken : (v : Verdict) → 1 ≤ v.reason → v.reason ≤ 11 → Taken d v
  none_taken v l h = record { listed = untried d v l h ∙ sym (none_listed v l h); most = omega (arith, untried d v l h) }

-- stage t has the fault: x is t, as a place less 1
module _ (d : Design) (wf : WellFormed d) (t : ℕ) (p : SoundBefore d t) (l : t < d.k) where
  abbrev sharings : ℕ
  sharings = 2 ^ (d.m * d.s)

  before : (x : ℕ) → x ≡ t → both_passes d x ≡ 2 * x * sharings
  before x e = both_whole d wf t p x (omega arith) (omega arith)

  -- two passes more are still within the most
  room : (x : ℕ) → x ≡ t → 2 * x * sharings + sharings + sharings ≤ 2 * d.k * sharings
  room x e =
      let a = twice_more x sharings in
      let b : 2 * suc x ≤ 2 * d.k = omega arith in
      omega (arith, mul-le-mul b (le_refl sharings))

  taken_12 : Taken d (answer 12 (t + 1) 0)
  unfolding trials_of
  taken_12 =
      let x = t + 1 - 1 in
      let e : x ≡ t = omega arith in
      record { listed = ap (λ (y : ℕ). y + correctness_at d x) (before x e); most = omega (arith, before x e, room x e, correctness_most d x) }

  module _ (right : CorrectAt d t) where
    once_more : (x : ℕ) → x ≡ t → (2 * x + 1) * sharings ≡ both_passes d x + correctness_at d x
    once_more x e =
        let c : correctness_at d x ≡ sharings = rw e (correct_whole d t right) in
        omega (arith, add-mul (2 * x) 1 sharings, before x e)

    taken_13 : (j : ℕ) → Taken d (answer 13 (t + 1) j)
    unfolding trials_of
    taken_13 j =
        let x = t + 1 - 1 in
        let e : x ≡ t = omega arith in
        record { listed = sym (once_more x e); most = omega (arith, before x e, room x e, correctness_most d x) }

    taken_14 : Taken d (answer 14 (t + 1) 0)
    unfolding trials_of
    taken_14 =
        let x = t + 1 - 1 in
        let e : x ≡ t = omega arith in
        let q : both_passes d (t + 1) ≡ correctness_at d x + uniformity_at d x + both_passes d x = rw e (both_more d t) in
        record { listed = omega (arith, once_more x e); most = omega (arith, before x e, room x e, correctness_most d x, uniformity_most d x) }

taken_0 : (d : Design) → WellFormed d → Sound d → Taken d (answer 0 d.k 0)
unfolding trials_of
taken_0 d wf p =
    let e = both_whole d wf d.k p d.k (le_refl d.k) (le_refl d.k) in
    record { listed = e; most = omega (arith, e) }

taken : (n : ℕ) (d : Design) → WellFormed d → (v : Verdict) → ExplainedDesign n d v → Taken d v
taken n d wf v (fault_8 h) = none_taken d v (omega arith) (omega arith)
taken n d wf v (fault_9 b h) = none_taken d v (omega arith) (omega arith)
taken n d wf v (fault_10 b r h) = none_taken d v (omega arith) (omega arith)
taken n d wf v (fault_12 t r p l h) = taken_12 d wf t p l
taken n d wf v (fault_13 t j r p l c k b h) = taken_13 d wf t p l c (j + 1)
taken n d wf v (fault_14 t r p l c o h) = taken_14 d wf t p l c
taken n d wf v (accepted r p) = taken_0 d wf p

-- ---- the trials of a verdict on a file

refused_reason : (f : List ℕ) (n r p : ℕ) → reading f ≡ refused r p → (verdict f n).reason ≡ r
unfolding verdict judged_reading
refused_reason f n r p e = rw e refl

module _ (f : List ℕ) (n : ℕ) where
  pub trials_none : 1 ≤ (verdict f n).reason → (verdict f n).reason ≤ 11 → trials f n ≡ 0
  unfolding trials
  trials_none l h = untried (meaning f) (verdict f n) l h

  module _ (d : Design) (reads : reading f ≡ means d) where
    of_read : trials f n ≡ trials_of d (verdict f n)
    unfolding trials
    of_read = ap (λ (x : Design). trials_of x (verdict f n)) (sym (read_means f d reads))

    as_taken : Taken d (verdict f n)
    as_taken = let wf = read_formed f d reads in rw (verdict_reads f n d reads) (taken n d wf (judged d n) (judged_explained n d wf))

    pub trials_outcome : trials f n ≡ trials_by_outcome d (verdict f n)
    trials_outcome = of_read ∙ as_taken.listed

    within : trials f n ≤ (forecast f).trials
    within = let q = ap (λ (x : Forecast). x.trials) (forecast_reads f d reads) in omega (arith, of_read, as_taken.most)

  pub trials_accepted : (verdict f n).reason ≡ 0 → (d : Design) × (reading f ≡ means d) × (trials f n ≡ most_trials d.m d.s d.k)
  trials_accepted z =
      let a = reason_zero f n z in
      let v = (accepted_exactly f n a.0.k).1 (a.0, refl, a.1) in
      (a.0, a.1.reads, trials_outcome a.0 a.1.reads ∙ ap (trials_by_outcome a.0) v)

  pub trials_most : trials f n ≤ (forecast f).trials
  trials_most = go (reading f) refl
    where
      go : (r : Reading) → reading f ≡ r → trials f n ≤ (forecast f).trials
      go (refused r p) e =
          let b = reason_range f r p e in
          let v : (verdict f n).reason ≡ r = refused_reason f n r p e in
          omega (arith, trials_none (omega arith) (omega arith))
      go (means d) e = within d e
