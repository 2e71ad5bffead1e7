-- The verdict (RULES 6): on a file and a workspace three numbers, the first fault in the published order; and the workspace afterwards.
use Rattle.std.specs.Prelude.{ℕ, suc, ◌+◌, ◌*◌, ◌/◌, ◌^◌, Bool, not, ◌&&◌, List, [], ◌∷◌, ◌++◌, length, drop, replicate, eqb, ltb, leb}
use Rattle.reasons.specs.Numbers.{number}
use Rattle.reasons.specs.declared.Reason.TheVariants.{BoxRepeats, WorkspaceTooSmall, ChainIsNotBox, NotCorrect, NotNonComplete, NotUniform}
use Rattle.finite.specs.Tests.{pick, all, first}
use Rattle.finite.specs.Maps.{repeats}
use Rattle.finite.specs.Faults.{first_fault}
use Rattle.anf.specs.Tables.{entry}
use Rattle.records.specs.Design.{Stage, Design}
use Rattle.design.specs.Reading.{Reading, refused, means, meaning, reading}
use Rattle.sharing.specs.Stages.{correct, depends_on_all, non_complete, uniform}
use Rattle.sharing.specs.Chain.{chained}

-- the three numbers
pub record Verdict : Type 0 where
  pub reason : ℕ
  pub place : ℕ
  pub component : ℕ

abbrev pub answer : ℕ → ℕ → ℕ → Verdict
answer reason place component = record { reason = reason; place = place; component = component }

-- the workspace that width m and s shares ask for: one bit for each sharing, in bytes
abbrev pub workspace_for : ℕ → ℕ → ℕ
workspace_for m s = 2 ^ (m * s) / 8

-- the chain of tables is S
unfoldable pub chain_is_box : Design → Bool
chain_is_box d = all (2 ^ d.m) (λ x. eqb (chained d.stages x) (entry d.box x))

-- ---- The faults in the published order, read from the top: each a test, with what is answered where it finds a fault. 11, that a table repeats an entry, is
-- retired: where S repeats none and the chain of tables is S, no table repeats one.

module _ (d : Design) where
  -- of stage number i
  abbrev pub stage_faults : ℕ → Stage → List (Bool × Verdict)
  stage_faults i g =
      -- not correct
      (not (correct d.m d.s g), answer (number NotCorrect) i 0) ∷
      -- not non-complete, with the lowest component that depends on every share
      (not (non_complete d.m d.s g), answer (number NotNonComplete) i (first d.s (depends_on_all d.m d.s g) + 1)) ∷
      -- not uniform
      (not (uniform d.m d.s g), answer (number NotUniform) i 0) ∷
      []

  -- stage by stage, from number i on
  unfoldable pub stages_faults : ℕ → List Stage → List (Bool × Verdict)
  stages_faults i [] = []
  stages_faults i (g ∷ gs) = stage_faults i g ++ stages_faults (suc i) gs

  -- of a design, with a workspace of n bytes
  abbrev pub faults : ℕ → List (Bool × Verdict)
  faults n =
      -- S repeats an entry
      (repeats (2 ^ d.m) (entry d.box), answer (number BoxRepeats) 0 0) ∷
      -- the workspace is too small
      (ltb n (workspace_for d.m d.s), answer (number WorkspaceTooSmall) 0 0) ∷
      -- the chain of tables is not S
      (not (chain_is_box d), answer (number ChainIsNotBox) 0 0) ∷
      stages_faults 1 d.stages

-- the verdict on a design, with a workspace of n bytes
unfoldable pub judged : Design → ℕ → Verdict
judged d n = first_fault (faults d n) (answer 0 d.k 0)

-- first the refusals of reading
unfoldable pub judged_reading : Reading → ℕ → Verdict
judged_reading (refused reason place) n = answer reason place 0
judged_reading (means d) n = judged d n

-- the verdict on a file, with a workspace of n bytes
unfoldable pub verdict : List ℕ → ℕ → Verdict
verdict f n = judged_reading (reading f) n

-- ---- The workspace afterwards

-- the first n bytes zero, the rest untouched
abbrev pub zeroed : ℕ → List ℕ → List ℕ
zeroed n ws = replicate n 0 ++ drop n ws

-- by the reason of the verdict on d: with 1 to 9 the workspace is untouched; otherwise its first bytes, as many as d asks for, are zero and the rest is untouched
unfoldable pub workspace_left : Design → ℕ → List ℕ → List ℕ
workspace_left d reason ws = pick (leb 1 reason && leb reason 9) ws (zeroed (workspace_for d.m d.s) ws)

-- the workspace after the verdict on a file
unfoldable pub workspace_after : List ℕ → List ℕ → List ℕ
workspace_after f ws = workspace_left (meaning f) (verdict f (length ws)).reason ws
