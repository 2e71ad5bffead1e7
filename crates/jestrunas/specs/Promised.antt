-- The promises that stand on no operation, each stated once: `Promises` proves them, and the law functions of `src/laws.rt` promise them. Above them what the
-- clauses of the operations say.
use Rattle.std.specs.Prelude.{ℕ, ◌+◌, ◌*◌, ◌/◌, ◌^◌, ◌≤◌, ◌<◌, ◌≡◌, ◌≢◌, ◌⊎◌, ◌↔◌, true, ◌&&◌, List, [], ◌∷◌, ◌++◌, eqb, length, get_or, take, drop, replicate}
use Rattle.std.specs.Int.Count.{ones}
use Rattle.reasons.specs.Numbers.{number}
use Rattle.reasons.specs.declared.Reason.{Reason}
use Rattle.finite.specs.Tests.{pick, count}
use Rattle.finite.specs.Sums.{xor_below}
use Rattle.anf.specs.NormalForm.{subset_sum, degree}
use Rattle.anf.specs.Terms.{value_at, IsTermList, names, Depends, passing}
use Rattle.anf.specs.Points.{Points, IgnoresPoint}
use Rattle.anf.specs.Transform.{transform_reason, transform_after}
use Rattle.anf.specs.Explained.{TransformExplained}
use Rattle.anf.specs.Tables.{entry, Permutation, TableFits}
use Rattle.design.specs.Limits.{broken, checked, head_answer, WithinLimits}
use Rattle.design.specs.Layout.{Layout, layout_of, Describes}
use Rattle.records.specs.Bytes.{Bytes}
use Rattle.records.specs.Design.{Stage, Design}
use Rattle.design.specs.WellFormed.{StageFits, WellFormed, SameMeaning}
use Rattle.records.specs.Encode.{encode}
use Rattle.design.specs.Reading.{refused, means, reading}
use Rattle.design.specs.Refused.{RefusedFor}
use Rattle.sharing.specs.Stages.{output, component, Correct, Ignores, IgnoresSome, DependsOnAll, NonComplete, Uniform, CountedUniform}
use Rattle.threshold.specs.Running.{Ran, running}
use Rattle.threshold.specs.Explained.{RunningExplained}
use Rattle.checker.specs.Verdict.{Verdict, answer, workspace_for, verdict}
use Rattle.checker.specs.Trials.{trials_by_outcome, trials, forecast}
use Rattle.checker.specs.Accepted.{ChainIsBox, TablePermutes, Sound, Accepted, Explained}
use Rattle.checker.specs.Assurance.{AssuredDesign, Assured, Blind}
use Rattle.direct.specs.Direct.{is_product, chosen, Loads, placed, component_for, published, placement_3, placement_4, placement_5, direct_stage, direct_sharing, Shareable, Box}
use Rattle.producer.specs.Producing.{produced, produced_reason, produced_length, produced_most}
use Rattle.producer.specs.Explained.{ProducingExplained}
use Rattle.joiner.specs.Joining.{joined_design, joined, joined_reason, Joinable, JoiningExplained}
use Rattle.jestrunas.specs.JoinedRuns.{running_onward}

-- ---- what clauses of the operations say

-- the first n bytes are zero afterwards, and the rest is as before
abbrev pub FrontZeroed : ℕ → List ℕ → List ℕ → Type 0
FrontZeroed n before after = (take n after ≡ replicate n 0) × (drop n after ≡ drop n before)

-- with 1 to 9 a verdict leaves the workspace
abbrev pub Early : ℕ → Type 0
Early reason = (1 ≤ reason) × (reason ≤ 9)

-- else the file reads, and of the workspace what its design asks for is zero
abbrev pub WorkspaceZeroed : List ℕ → ℕ → List ℕ → List ℕ → Type 0
WorkspaceZeroed f reason before after =
    (d : Design) → reading f ≡ means d → (reason ≡ 0) ⊎ (10 ≤ reason) → FrontZeroed (2 ^ (d.m * d.s) / 8) before after

-- the file is accepted
abbrev pub IsAccepted : List ℕ → ℕ → Type 0
IsAccepted f n = (d : Design) × Accepted f n d

-- no component learns anything of the secret
abbrev pub IsAssured : List ℕ → Type 0
IsAssured f = (d : Design) × Assured f d × Blind d

-- the file reads
abbrev pub Reads : List ℕ → Type 0
Reads f = (d : Design) × (reading f ≡ means d)

-- the bytes read as the direct sharing by the placement
abbrev pub ReadsDirect : ℕ → ℕ → List ℕ → List ℕ → List ℕ → Type 0
ReadsDirect m s t l file = reading file ≡ means (direct_sharing m s (placed s l) t)

-- for a permutation table within the limits and a placement that loads 16 says that the table cannot be shared so
abbrev pub Impossible : ℕ → ℕ → List ℕ → List ℕ → ℕ → Type 0
Impossible m s t l reason = Box m s t → Loads s l → (reason ≡ 16) ↔ ¬ Shareable m s t

-- the files read as designs that can be joined, and the joined file fits
abbrev pub Joins : List ℕ → List ℕ → ℕ → Type 0
Joins f g room = (d : Design) × (e : Design) × Joinable f g d e × (length (joined f g) ≤ room)

-- the bytes read as the joined design
abbrev pub ReadsJoined : List ℕ → List ℕ → List ℕ → Type 0
ReadsJoined f g file = (d e : Design) → Joinable f g d e → reading file ≡ means (joined_design d e)

-- ---- Normal form, for any number of variables

abbrev pub Transform : Type 0
Transform =
    (n : ℕ) (f : ℕ → ℕ) (u : ℕ) → u < 2 ^ n → subset_sum n (subset_sum n f) u ≡ f u

abbrev pub TransformTwice : Type 0
TransformTwice =
    (m : ℕ) (input output back : List ℕ) → transform_reason m input (length output) ≡ 0 → 2 ^ m ≤ length back
    → (transform_reason m (take (2 ^ m) (transform_after m input output)) (length back) ≡ 0)
    × (transform_after m (take (2 ^ m) (transform_after m input output)) back ≡ input ++ drop (2 ^ m) back)

abbrev pub UniqueLists : Type 0
UniqueLists =
    (n : ℕ) (a b : List ℕ) → IsTermList n a → IsTermList n b → ((x : ℕ) → x < 2 ^ n → value_at a x ≡ value_at b x) → a ≡ b

abbrev pub Dependence : Type 0
Dependence =
    (n group : ℕ) (l : List ℕ) → IsTermList n l → (names group l ≡ true) ↔ Depends n group (value_at l)

abbrev pub DegreeLimit : Type 0
DegreeLimit =
    (n s : ℕ) (f : ℕ → ℕ) (F : ℕ → List ℕ → ℕ) → 1 ≤ s → ((j : ℕ) → j < s → (e : ℕ) × (e < s) × IgnoresPoint n s e (F j))
    → ((xs : List ℕ) → Points n s xs → xor_below s (λ j. F j xs) ≡ f (xor_below s (λ j. get_or xs j 0)))
    → (u : ℕ) → u < 2 ^ n → s ≤ ones u → subset_sum n f u ≡ 0

abbrev pub TransformAnswered : Type 0
TransformAnswered =
    (m : ℕ) (input : List ℕ) (room r : ℕ) → (transform_reason m input room ≡ r) ↔ TransformExplained m input room r

-- ---- The design file

abbrev pub FileExactly : Type 0
FileExactly =
    (f : List ℕ) (d : Design) → Bytes f → (reading f ≡ means d) ↔ (WellFormed d × (f ≡ encode d))

abbrev pub HeadAnswer : Type 0
HeadAnswer =
    (m s k : ℕ) → head_answer (checked m s k) ≡ pick (broken m s k) (4, []) (0, m ∷ s ∷ k ∷ [])

abbrev pub ReasonRange : Type 0
ReasonRange =
    (f : List ℕ) (r p : ℕ) → reading f ≡ refused r p → (1 ≤ r) × (r ≤ 7)

abbrev pub ReadingExplained : Type 0
ReadingExplained =
    (f : List ℕ) (r p : ℕ) → (reading f ≡ refused r p) ↔ RefusedFor f r p

abbrev pub OneMeaningOneFile : Type 0
OneMeaningOneFile =
    (f g : List ℕ) (d e : Design) → Bytes f → Bytes g → reading f ≡ means d → reading g ≡ means e → SameMeaning d e → f ≡ g

abbrev pub Reader : Type 0
Reader =
    (f : List ℕ) (l : Layout) → l ≡ layout_of f → l.reason ≡ 0 → Describes f l

-- ---- The terms of threshold implementation

abbrev pub DependsExactly : Type 0
DependsExactly =
    (w s : ℕ) (f : ℕ → ℕ) → (¬ IgnoresSome w s f) ↔ DependsOnAll w s f

abbrev pub UniformCounted : Type 0
UniformCounted =
    (w s : ℕ) (g : Stage) → StageFits w s g → Permutation w g.table → Correct w s (component w g.lists) g.table
    → Uniform w s (output g.lists) g.table ↔ CountedUniform w s (output g.lists) g.table

abbrev pub Products : Type 0
Products =
    (m s u : ℕ) → u < 2 ^ m → count (2 ^ (m * s)) (is_product m s u) ≡ s ^ ones u

abbrev pub ShareableExactly : Type 0
ShareableExactly =
    (m s : ℕ) (t : List ℕ) → 1 ≤ s → TableFits m t → Shareable m s t ↔ degree m (entry t) < s

-- ---- The verdict

abbrev pub AcceptedExactly : Type 0
AcceptedExactly =
    (f : List ℕ) (n k : ℕ) → (verdict f n ≡ answer 0 k 0) ↔ ((d : Design) × (d.k ≡ k) × Accepted f n d)

abbrev pub VerdictExplained : Type 0
VerdictExplained =
    (f : List ℕ) (n : ℕ) (v : Verdict) → (verdict f n ≡ v) ↔ Explained f n v

abbrev pub SoundAssured : Type 0
SoundAssured =
    (d : Design) → WellFormed d → Sound d → AssuredDesign d × Blind d

abbrev pub RunningAnswered : Type 0
RunningAnswered =
    (f l : List ℕ) (v : Ran) → (running f l ≡ v) ↔ RunningExplained f l v

abbrev pub ChainPermutes : Type 0
ChainPermutes =
    (d : Design) → WellFormed d → Permutation d.m d.box → ChainIsBox d → (t : ℕ) → t < d.k → TablePermutes d t

abbrev pub ElevenRetired : Type 0
ElevenRetired =
    (f : List ℕ) (n : ℕ) → (verdict f n).reason ≢ 11

abbrev pub ElevenNotGiven : Type 0
ElevenNotGiven =
    (r : Reason) → number r ≢ 11

abbrev pub TrialsAccepted : Type 0
TrialsAccepted =
    (f : List ℕ) (n : ℕ) → (verdict f n).reason ≡ 0 → (d : Design) × (reading f ≡ means d) × (trials f n ≡ 2 * d.k * 2 ^ (d.m * d.s))

abbrev pub TrialsNone : Type 0
TrialsNone =
    (f : List ℕ) (n : ℕ) → 1 ≤ (verdict f n).reason → (verdict f n).reason ≤ 11 → trials f n ≡ 0

abbrev pub TrialsOutcome : Type 0
TrialsOutcome =
    (f : List ℕ) (n : ℕ) (d : Design) → reading f ≡ means d → trials f n ≡ trials_by_outcome d (verdict f n)

-- ---- Machine time before booking

abbrev pub ForecastHead : Type 0
ForecastHead =
    (f g : List ℕ) → take 7 f ≡ take 7 g → forecast f ≡ forecast g

abbrev pub ForecastRefused : Type 0
ForecastRefused =
    (f : List ℕ) (r : ℕ) → r ≢ 0 → (forecast f ≡ record { reason = r; workspace = 0; trials = 0 }) ↔ (reading f ≡ refused r 0)

abbrev pub ForecastRange : Type 0
ForecastRange =
    (f : List ℕ) → (forecast f).reason ≤ 4

abbrev pub ForecastReads : Type 0
ForecastReads =
    (f : List ℕ) (d : Design) → reading f ≡ means d
    → forecast f ≡ record { reason = 0; workspace = workspace_for d.m d.s; trials = 2 * d.k * 2 ^ (d.m * d.s) }

abbrev pub ForecastReached : Type 0
ForecastReached =
    (m s k n : ℕ) → WithinLimits m s k → workspace_for m s ≤ n
    → (f : List ℕ) × (d : Design) × (d.m ≡ m) × (d.s ≡ s) × (d.k ≡ k) × Accepted f n d × (trials f n ≡ (forecast f).trials)

-- ---- The direct sharing and producing

abbrev pub ProductXy : Type 0
ProductXy =
    passing (2 ^ 6) (λ p. is_product 2 3 3 p && eqb (component_for 3 (chosen 2 3 p)) 0) ≡ 12 ∷ 24 ∷ 36 ∷ []

abbrev pub PublishedThree : Type 0
PublishedThree =
    published 3 ≡ placement_3

abbrev pub PublishedFour : Type 0
PublishedFour =
    published 4 ≡ placement_4

abbrev pub PublishedFive : Type 0
PublishedFive =
    published 5 ≡ placement_5

abbrev pub ProducedReads : Type 0
ProducedReads =
    (m s : ℕ) (t l : List ℕ) → Box m s t → Loads s l → degree m (entry t) < s
    → (reading (produced m s t l) ≡ means (direct_sharing m s (placed s l) t))
    × Correct m s (component m (direct_stage m s (placed s l) t).lists) t
    × NonComplete m s (component m (direct_stage m s (placed s l) t).lists)

abbrev pub ProducedUsual : Type 0
ProducedUsual =
    (m s : ℕ) (t l : List ℕ) → Loads s l → (c : ℕ) → c < s → Ignores m s c (component m (direct_stage m s (placed s l) t).lists c)

abbrev pub ProducedJudged : Type 0
ProducedJudged =
    (m s n : ℕ) (t l : List ℕ) → Box m s t → Loads s l → degree m (entry t) < s → workspace_for m s ≤ n
    → (verdict (produced m s t l) n ≡ answer 0 1 0) ⊎ (verdict (produced m s t l) n ≡ answer 14 1 0)

abbrev pub ProducingAnswered : Type 0
ProducingAnswered =
    (m s : ℕ) (t l : List ℕ) (room r : ℕ) → (produced_reason m s t l room ≡ r) ↔ ProducingExplained m s t l room r

abbrev pub PlacementExactly : Type 0
PlacementExactly =
    (m s : ℕ) (t l : List ℕ) (room : ℕ) → Box m s t → (produced_reason m s t l room ≡ 21) ↔ ¬ Loads s l

abbrev pub OldPlacement : Type 0
OldPlacement =
    (m s : ℕ) (t : List ℕ) → WithinLimits m s 1
    → Loads s (published s) × (produced m s t (published s) ≡ encode (direct_sharing m s (component_for s) t))

abbrev pub ProducedSize : Type 0
ProducedSize =
    (m s : ℕ) (t l : List ℕ) → Box m s t → Loads s l → degree m (entry t) < s
    → length (produced m s t l) ≡ produced_length m s (subset_sum m (entry t))

abbrev pub ProducedMost : Type 0
ProducedMost =
    (m s : ℕ) (t l : List ℕ) → Box m s t → Loads s l → degree m (entry t) < s → length (produced m s t l) ≤ produced_most m s

abbrev pub MostMet : Type 0
MostMet =
    produced_most 4 5 ≡ 20867

abbrev pub OutputEnough : Type 0
OutputEnough =
    (m s : ℕ) (t l : List ℕ) (room : ℕ) → 20867 ≤ room → produced_reason m s t l room ≢ 17

-- ---- Chaining two boxes

abbrev pub JoinedReads : Type 0
JoinedReads =
    (f g : List ℕ) (d e : Design) → Joinable f g d e → reading (joined f g) ≡ means (joined_design d e)

abbrev pub JoinedBox : Type 0
JoinedBox =
    (f g : List ℕ) (d e : Design) → Joinable f g d e → (x : ℕ) → x < 2 ^ d.m → entry (joined_design d e).box x ≡ entry e.box (entry d.box x)

abbrev pub JoinedAccepted : Type 0
JoinedAccepted =
    (f g : List ℕ) (d e : Design) (n n' : ℕ) → Joinable f g d e → (verdict f n).reason ≡ 0 → (verdict g n').reason ≡ 0
    → (verdict (joined f g) n ≡ answer 0 (d.k + e.k) 0) × Assured (joined f g) (joined_design d e) × Blind (joined_design d e)

abbrev pub JoinedRuns : Type 0
JoinedRuns =
    (f g : List ℕ) (d e : Design) → Joinable f g d e → (l : List ℕ) → running (joined f g) l ≡ running_onward g (running f l)

abbrev pub JoiningAnswered : Type 0
JoiningAnswered =
    (f g : List ℕ) (room r : ℕ) → (joined_reason f g room ≡ r) ↔ JoiningExplained f g room r

abbrev pub JoinedLength : Type 0
JoinedLength =
    (f g : List ℕ) (d e : Design) → Joinable f g d e → Bytes f → Bytes g → length (joined f g) + (2 ^ d.m + 15) ≡ length f + length g

abbrev pub JoinedRoom : Type 0
JoinedRoom =
    (f g : List ℕ) (room : ℕ) → Bytes f → Bytes g → length f + length g ≤ room → joined_reason f g room ≢ 17
