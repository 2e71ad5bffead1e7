-- What the functions below `judge` answer: parts of the verdict on a design, and what the passes over sharings find.
use Rattle.std.specs.Prelude.{ℕ, ◌+◌, ◌*◌, ◌^◌, ◌<◌, Bool, ◌||◌, Option, Some, None, List, [], get_or, eqb}
use Rattle.reasons.specs.Numbers.{number}
use Rattle.reasons.specs.declared.Reason.TheVariants.{NotCorrect, NotNonComplete}
use Rattle.finite.specs.Tests.{pick, any, first}
use Rattle.finite.specs.Faults.{first_fault}
use Rattle.anf.specs.Terms.{names}
use Rattle.records.specs.Design.{Design, stage_of}
use Rattle.sharing.specs.Stages.{depends_on_all}
use Rattle.checker.specs.Verdict.{Verdict, answer, stage_faults, stages_faults}
use Rattle.checker.specs.Accepted.{TablePermutes}
use Rattle.checker.specs.Trials.{Judged, sums_wrong, output_met, correctness_at, uniformity_at, trials_of, counted}
use Rattle.checker.specs.Outcome.{refused_with}
use Rattle.checker.specs.declared.refusals.Refusal.{Refusal}
use Rattle.checker.specs.declared.StageJudgement.{StageJudgement}

-- what stage t, counted from 0, answers alone: 0 where it has no fault
unfoldable pub stage_judged : Design → ℕ → Verdict
stage_judged d t = first_fault (stage_faults d (t + 1) (stage_of d t)) (answer 0 0 0)

-- the verdict where none of the faults up to 10 is there
unfoldable pub stages_judged : Design → Verdict
stages_judged d = first_fault (stages_faults d 1 d.stages) (answer 0 d.k 0)

-- a verdict on a design with its trials
abbrev pub with_trials : Design → Verdict → Judged
with_trials d v = counted v (trials_of d v)

-- ---- The first of n numbers, from 0 on, at which a test passes, and how many are tried to find it

-- the first, if there is one
unfoldable pub found : ℕ → (ℕ → Bool) → Option ℕ
found n p = pick (any n p) (Some (first n p)) None

-- one that is found is below n
unfoldable pub FoundBelow : ℕ → Option ℕ → Type 0
FoundBelow n (Some x) = x < n
FoundBelow n None = Unit {0}

-- those up to the one that is found, which is tried too, or all
unfoldable pub tries_until : ℕ → Option ℕ → ℕ
tries_until n (Some x) = x + 1
tries_until n None = n

-- of stage t: the first sharing at which it is not correct
abbrev pub first_wrong : Design → ℕ → Option ℕ
first_wrong d t = found (2 ^ (d.m * d.s)) (sums_wrong d.m d.s (stage_of d t))

-- its lowest component that depends on every share
abbrev pub offending : Design → ℕ → Option ℕ
offending d t = found d.s (depends_on_all d.m d.s (stage_of d t))

-- and the first sharing whose output was met before
abbrev pub first_met : Design → ℕ → Option ℕ
first_met d t = found (2 ^ (d.m * d.s)) (output_met (stage_of d t))

-- one of the first n lists of component j, of width w, names a variable of the group
abbrev pub lists_name : ℕ → ℕ → List (List ℕ) → ℕ → ℕ → Bool
lists_name n w ls j group = any n (λ b. names group (get_or ls (w * j + b) []))

-- ---- One stage

-- the trials of stage t alone, by what it answers: with 12 and 13 uniformity is not tried
abbrev pub stage_tries : Design → ℕ → ℕ → ℕ
stage_tries d t reason = correctness_at d t + pick (eqb reason (number NotCorrect) || eqb reason (number NotNonComplete)) 0 (uniformity_at d t)

-- what it answers alone, with its trials
abbrev pub stage_judging : Design → ℕ → Judged
stage_judging d t = counted (stage_judged d t) (stage_tries d t (stage_judged d t).reason)

-- the same of what the code answers
abbrev pub found_fault : Option Refusal → Verdict
found_fault None = answer 0 0 0
found_fault (Some r) = refused_with r

abbrev pub stage_judged_of : StageJudgement → Judged
stage_judged_of j = counted (found_fault j.fault) j.trials

-- no table repeats an entry
unfoldable pub TablesPermute : Design → Type 0
TablesPermute d = (t : ℕ) → t < d.k → TablePermutes d t
