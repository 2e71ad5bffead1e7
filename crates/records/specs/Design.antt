-- A design: an S-box and a chain of stages. It is what a design file holds (RULES 4).
use Rattle.std.specs.Prelude.{ℕ, List, [], get_or}

-- A stage: its table G, and its m × s lists of terms, component 1 first and in each component bit 0 first.
-- List i gives bit i of the output sharing.
pub record Stage : Type 0 where
  pub table : List ℕ
  pub lists : List (List ℕ)

-- m bits, s shares, k stages; the box S; the stages, the one applied first first
pub record Design : Type 0 where
  pub m : ℕ
  pub s : ℕ
  pub k : ℕ
  pub box : List ℕ
  pub stages : List Stage

abbrev pub no_stage : Stage
no_stage = record { table = []; lists = [] }

-- stage t, counted from 0
abbrev pub stage_of : Design → ℕ → Stage
stage_of d t = get_or d.stages t no_stage

-- list l of stage t, both counted from 0
abbrev pub list_of : Design → ℕ → ℕ → List ℕ
list_of d t l = get_or (stage_of d t).lists l []
