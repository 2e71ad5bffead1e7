-- What the verdict says of a design, as facts about its tables and component functions (RULES 1.8 to 1.12); then of a file: when it is accepted
-- (RULES 6).
use Rattle.std.specs.Prelude.{ℕ, ◌+◌, ◌^◌, ◌<◌, ◌≤◌, ◌≡◌, List}
use Rattle.reasons.specs.Numbers.{number}
use Rattle.reasons.specs.declared.Reason.TheVariants.{BoxRepeats, WorkspaceTooSmall, ChainIsNotBox, NotCorrect, NotNonComplete, NotUniform}
use Rattle.anf.specs.Tables.{entry, Permutation}
use Rattle.records.specs.Design.{Design, stage_of}
use Rattle.design.specs.Reading.{refused, means, reading}
use Rattle.design.specs.Refused.{RefusedFor}
use Rattle.sharing.specs.Stages.{component, output, Correct, IgnoresSome, NonComplete, Uniform}
use Rattle.sharing.specs.Chain.{chained}
use Rattle.checker.specs.Verdict.{Verdict, answer, workspace_for}

-- the chain of tables is S
abbrev pub ChainIsBox : Design → Type 0
ChainIsBox d = (x : ℕ) → x < 2 ^ d.m → chained d.stages x ≡ entry d.box x

-- ---- of stage t, counted from 0

-- its table repeats no entry
abbrev pub TablePermutes : Design → ℕ → Type 0
TablePermutes d t = Permutation d.m (stage_of d t).table

abbrev pub CorrectAt : Design → ℕ → Type 0
CorrectAt d t = Correct d.m d.s (component d.m (stage_of d t).lists) (stage_of d t).table

-- component j, counted from 0, ignores at least one share
abbrev pub IgnoresSomeAt : Design → ℕ → ℕ → Type 0
IgnoresSomeAt d t j = IgnoresSome d.m d.s (component d.m (stage_of d t).lists j)

abbrev pub NonCompleteAt : Design → ℕ → Type 0
NonCompleteAt d t = NonComplete d.m d.s (component d.m (stage_of d t).lists)

abbrev pub UniformAt : Design → ℕ → Type 0
UniformAt d t = Uniform d.m d.s (output (stage_of d t).lists) (stage_of d t).table

-- all three
pub record SoundAt (d : Design) (t : ℕ) : Type 0 where
  pub correct : CorrectAt d t
  pub non_complete : NonCompleteAt d t
  pub uniform : UniformAt d t

-- ---- of a design, in a file or not

-- no fault up to stage t: S is a permutation, the chain of tables is S, and each stage before t is sound
pub record SoundBefore (d : Design) (t : ℕ) : Type 0 where
  pub box : Permutation d.m d.box
  pub chain : ChainIsBox d
  pub stages : (i : ℕ) → i < t → SoundAt d i

-- no fault at all
abbrev pub Sound : Design → Type 0
Sound d = SoundBefore d d.k

-- n bytes of workspace are enough
abbrev pub HasRoom : ℕ → Design → Type 0
HasRoom n d = workspace_for d.m d.s ≤ n

-- The verdict on a design explained, one case for each outcome in the published order: the fault that it names is there, and none before it is.
pub data ExplainedDesign (n : ℕ) (d : Design) : Verdict → Type 0 where
  fault_8 : ¬ Permutation d.m d.box → ExplainedDesign n d (answer (number BoxRepeats) 0 0)
  fault_9 : Permutation d.m d.box → n < workspace_for d.m d.s → ExplainedDesign n d (answer (number WorkspaceTooSmall) 0 0)
  fault_10 : Permutation d.m d.box → HasRoom n d → ¬ ChainIsBox d → ExplainedDesign n d (answer (number ChainIsNotBox) 0 0)
  fault_12 : (t : ℕ) → HasRoom n d → SoundBefore d t → t < d.k → ¬ CorrectAt d t → ExplainedDesign n d (answer (number NotCorrect) (t + 1) 0)
  fault_13 : (t j : ℕ) → HasRoom n d → SoundBefore d t → t < d.k → CorrectAt d t → j < d.s → ((i : ℕ) → i < j → IgnoresSomeAt d t i) → ¬ IgnoresSomeAt d t j
      → ExplainedDesign n d (answer (number NotNonComplete) (t + 1) (j + 1))
  fault_14 : (t : ℕ) → HasRoom n d → SoundBefore d t → t < d.k → CorrectAt d t → NonCompleteAt d t → ¬ UniformAt d t → ExplainedDesign n d (answer (number NotUniform) (t + 1) 0)
  accepted : HasRoom n d → Sound d → ExplainedDesign n d (answer 0 d.k 0)

-- ---- of a file f, with a workspace of n bytes

-- it reads as d, and is accepted
pub record Accepted (f : List ℕ) (n : ℕ) (d : Design) : Type 0 where
  pub reads : reading f ≡ means d
  pub room : HasRoom n d
  pub sound : Sound d

-- the verdict on it explained: it is refused by reading, or reads as a design whose verdict is explained
pub data Explained (f : List ℕ) (n : ℕ) : Verdict → Type 0 where
  refusal : (r p : ℕ) → reading f ≡ refused r p → RefusedFor f r p → Explained f n (answer r p 0)
  of_design : (d : Design) → reading f ≡ means d → (v : Verdict) → ExplainedDesign n d v → Explained f n v
