-- The verdict on the stages, one stage at a time: what the stages from t on answer, by what stage t answers alone.
-- Assumes nothing.
use mathlib.Core.Path.{◌≡◌, refl, ap, ◌∙◌}
use mathlib.Core.Logic.{⊎_elim}
use mathlib.Core.List.{[]}
use Prim.Native.Nat.{ℕ, ◌+◌, ◌<◌}
use native.Mathlib.Numerals.{add-one}
use native.Mathlib.Omega.{arith}
use lib.ListN.{length, drop}
use lib.Seq.{drop-cons, drop-length}
use Rattle.finite.specs.Faults.{first_fault}
use Rattle.finite.proofs.Faults.{fault_past, fault_none, fault_append, fault_passed, some_or_none}
use Rattle.records.specs.Design.{Design, no_stage, stage_of}
use Rattle.checker.specs.Verdict.{Verdict, answer, stage_faults, stages_faults}
use Rattle.checker.specs.Inside.Parts.{stage_judged, stages_judged}

-- what stage t answers, where those after it answer `onward`
abbrev pub stage_then : Design → ℕ → Verdict → Verdict
stage_then d t onward = first_fault (stage_faults d (t + 1) (stage_of d t)) onward

-- what the stages from t on answer
abbrev pub stages_from : Design → ℕ → Verdict
stages_from d t = first_fault (stages_faults d (t + 1) (drop t d.stages)) (answer 0 d.k 0)

module _ (d : Design) where
  pub stages_all : stages_judged d ≡ stages_from d 0
  unfolding stages_judged
  stages_all = refl

  pub stages_end : (t : ℕ) → t ≡ length d.stages → stages_from d t ≡ answer 0 d.k 0
  unfolding stages_faults
  stages_end t e = rw (e, drop-length) (fault_none (answer 0 d.k 0))

  module _ (t : ℕ) where
    pub stages_next : t < length d.stages → stages_from d t ≡ stage_then d t (stages_from d (t + 1))
    unfolding stages_faults
    stages_next h = rw (drop-cons d.stages t no_stage h) (fault_append (stage_faults d (t + 1) (stage_of d t)) _ _ ∙ simp add-one refl)

    -- a stage with a fault answers its own, whatever those after it do
    pub stage_fault : (onward : Verdict) → ((stage_judged d t).reason ≡ 0 → ⊥) → stage_then d t onward ≡ stage_judged d t
    unfolding stage_judged
    stage_fault onward n =
        ⊎_elim (λ none. absurd (n (ap (λ (v : Verdict). v.reason) (none (answer 0 0 0))))) (λ same. same onward (answer 0 0 0)) (some_or_none (stage_faults d (t + 1) (stage_of d t)))

    -- a stage without fault leaves the answer to those after it
    pub stage_fine : (onward : Verdict) → (stage_judged d t).reason ≡ 0 → stage_then d t onward ≡ onward
    unfolding stage_judged
    stage_fine onward z =
        let right = fault_passed (λ v. v.reason ≡ 0) _ (answer 12 (t + 1) 0) _ _ (λ q. omega arith) z in
        let alone = fault_passed (λ v. v.reason ≡ 0) _ (answer 13 (t + 1) _) _ _ (λ q. omega arith) right.1 in
        let even = fault_passed (λ v. v.reason ≡ 0) _ (answer 14 (t + 1) 0) [] _ (λ q. omega arith) alone.1 in
        fault_past _ _ _ _ right.0 ∙ fault_past _ _ _ _ alone.0 ∙ fault_past _ _ _ _ even.0 ∙ fault_none onward
