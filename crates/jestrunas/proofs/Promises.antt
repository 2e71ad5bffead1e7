-- Every theorem that a customer relies on, stated in full and cited. Whoever trusts the proof checker reads this file, the contracts of src/lib.rt, and the
-- definitions that they name: docs/PROMISES.md lists their files. Lists of numbers stand for bytes; `sum` and `xor_below` are XOR. Assumes nothing.
use mathlib.Core.Path.{◌≡◌}
use mathlib.Core.Logic.{◌↔◌, ◌⊎◌, ◌≢◌}
use mathlib.Core.List.{List, [], ◌∷◌, map}
use Prim.Native.Nat.{ℕ, ◌*◌, ◌/◌, ◌^◌, ◌≤◌, ◌<◌}
use lib.ListN.{length, take, drop}
use Rattle.reasons.proofs.Numbers as numbers
use Rattle.anf.specs.Transform.{transform_reason, transform_after, transformed}
use Rattle.anf.proofs.Explained as transforming_explained
use Rattle.anf.specs.Bench as bench_anf
use Rattle.anf.proofs.SubsetSums.{subset_sum_twice}
use Rattle.anf.proofs.Terms.{unique_terms, names_exactly}
use Rattle.anf.proofs.Degree.{shares_bound}
use Rattle.anf.proofs.TransformAnswer as answers
use Rattle.anf.proofs.Bench as anf_bench
use Rattle.design.specs.Limits.{checked, head_answer}
use Rattle.design.proofs.Layouts as design_answered
use Rattle.design.proofs.Explained as refusals
use Rattle.records.specs.Design.{Design}
use Rattle.records.specs.Encode.{encode}
use Rattle.design.specs.Reading.{means, reading}
use Rattle.design.specs.Bench as bench_design
use Rattle.design.proofs.Limits as limits
use Rattle.design.proofs.Theorems as design_theorems
use Rattle.design.proofs.Reasons as reasons
use Rattle.design.proofs.Bench as design_bench
use Rattle.sharing.proofs.IgnoredShares as depending
use Rattle.sharing.specs.Chain.{read_meetings}
use Rattle.threshold.specs.Running.{running}
use Rattle.threshold.proofs.Explained as running_explained
use Rattle.sharing.proofs.Stages.{stage_uniform↔counted}
use Rattle.checker.specs.Verdict.{workspace_after, verdict}
use Rattle.checker.specs.Trials.{trials, judging, forecast}
use Rattle.checker.specs.Assurance.{Assured, Blind}
use Rattle.checker.specs.Bench as bench_checker
use Rattle.checker.proofs.Chaining as chain_of_tables
use Rattle.checker.proofs.Exactly as exactly
use Rattle.checker.proofs.VerdictExplained as explaining
use Rattle.checker.proofs.WorkspaceAfter as leaving
use Rattle.checker.proofs.IdentityDesign as reached
use Rattle.checker.proofs.Assurance as assured
use Rattle.checker.proofs.Trials as counting
use Rattle.checker.proofs.Bench as checker_bench
use Rattle.direct.specs.Direct.{Loads, placed, component_for, direct_stage, Shareable, Box}
use Rattle.producer.proofs.Explained as producing_explained
use Rattle.producer.specs.Producing.{produced, produced_reason, producing, output_after, Succeeds}
use Rattle.producer.specs.Bench as bench_producer
use Rattle.producer.proofs.Theorems.{produced_sound, success_exactly, twenty_one_exactly, published_placement, sixteen_exactly, output_file, output_rest, output_refused}
use Rattle.direct.proofs.Shareable as shareable
use Rattle.direct.proofs.Stage as direct_stage_lem
use Rattle.direct.proofs.Counts.{products_count}
use Rattle.direct.proofs.PlacementTables.{placed_outside}
use Rattle.producer.proofs.Terms as producer_terms
use Rattle.producer.proofs.Room as producer_room
use Rattle.direct.proofs.Bench as direct_bench
use Rattle.producer.proofs.Bench as producer_bench
use Rattle.joiner.specs.Joining.{joined, joined_reason, joining, joined_after, Joinable}
use Rattle.joiner.specs.Bench as bench_joiner
use Rattle.joiner.proofs.JoinedDesign as joined_form
use Rattle.joiner.proofs.Reasons as joined_answers
use Rattle.joiner.proofs.Room as joined_lengths
use Rattle.joiner.proofs.Bench as joiner_bench
use Rattle.jestrunas.specs.Promised as promised
use Rattle.jestrunas.specs.Promised.{FrontZeroed}
use Rattle.jestrunas.proofs.ProducedVerdict.{produced_verdict}
use Rattle.jestrunas.proofs.JoinedVerdict as joined_verdict
use Rattle.jestrunas.proofs.JoinedRuns as joined_run

-- ---- Normal form, for any number of variables

-- 1. Transform. The subset sum of the subset sum is the table again.
pub transform : promised.Transform
transform = subset_sum_twice

-- So the operation applied twice returns the input: what it writes for an accepted input it accepts, and writes the input back.
pub transform_twice : promised.TransformTwice
transform_twice = answers.transform_twice

-- 2. Unique lists. Rising lists of terms with equal values at every point are equal.
pub unique_lists : promised.UniqueLists
unique_lists = unique_terms

-- 3. Dependence. The function of a rising list depends on a group of variables exactly when one of its terms names one of them.
pub dependence : promised.Dependence
dependence = names_exactly

-- 4. Degree. Where s functions, each independent of at least one share, sum to the table, its coefficient at each set of s or more variables is zero.
pub degree_limit : promised.DegreeLimit
degree_limit = shares_bound

-- ---- The design file

-- 5. File. A file reads as d exactly when d is well formed and the file is the encoding of d.
pub file_exactly : promised.FileExactly
file_exactly = design_theorems.file_exactly

-- What the head's constructor answers, by number and values: 4 where a number breaks a limit, else 0 and the three numbers.
pub head_answer_lem : promised.HeadAnswer
head_answer_lem = limits.head_answer_lem

-- A refusal has a reason of 1 to 7. It is given exactly when it is explained: which record is at fault, that none before it is, and the first of its tests
-- that fails.
pub reason_range : promised.ReasonRange
reason_range = reasons.reason_range

pub reading_explained : promised.ReadingExplained
reading_explained = refusals.refused_exactly

-- What a reader promises, ours or a maker's own: an answer that is `layout_of` describes the file where it reads, and what judging relies on is that.
pub reader : promised.Reader
reader = design_answered.answers_described

-- 6. One meaning, one file. Readable files with equal m, s, k, tables and component functions are equal byte for byte.
pub one_meaning_one_file : promised.OneMeaningOneFile
one_meaning_one_file = design_theorems.one_meaning_one_file

-- ---- The terms of threshold implementation

-- A component that ignores no share depends on each: for each share some change of that share alone changes its value. So 13 says just this.
pub depends_exactly : promised.DependsExactly
depends_exactly = depending.depends_exactly

-- For permutations uniform agrees with the count of Bilgin and others (RULES 1.11).
pub uniform_counted : promised.UniformCounted
uniform_counted w s g fits = stage_uniform↔counted w s g fits.table fits.count

-- ---- The verdict

-- 7. Accepted exactly when the file reads, S is a permutation, the workspace is enough, the chain of tables is S, and every stage is correct, non-complete
-- and uniform as functions.
pub accepted_exactly : promised.AcceptedExactly
accepted_exactly = exactly.accepted_exactly

-- And a verdict is given exactly when it is explained: the fault that it names is there, and none before it in the published order is.
pub verdict_explained : promised.VerdictExplained
verdict_explained = explaining.verdict_exactly

-- The workspace afterwards: with 1 to 9 it is untouched; otherwise, of a file that reads as d, its first 2^(m × s) / 8 bytes are zero and the rest is untouched.
pub workspace_untouched : (f ws : List ℕ) → 1 ≤ (verdict f (length ws)).reason → (verdict f (length ws)).reason ≤ 9 → workspace_after f ws ≡ ws
workspace_untouched = leaving.workspace_untouched

pub workspace_zeroed : (f ws : List ℕ) (d : Design) → reading f ≡ means d → ((verdict f (length ws)).reason ≡ 0) ⊎ (10 ≤ (verdict f (length ws)).reason)
    → FrontZeroed (2 ^ (d.m * d.s) / 8) ws (workspace_after f ws)
workspace_zeroed = leaving.workspace_zeroed

-- In a well-formed design, in which all widths are equal, a chain of tables that is a permutation has only permutations. So 11, a table that repeats an
-- entry, is retired: no verdict answers it, and no reason has it.
pub chain_permutes : promised.ChainPermutes
chain_permutes = chain_of_tables.chain_permutes

pub eleven_retired : promised.ElevenRetired
eleven_retired = exactly.eleven_retired

pub eleven_not_given : promised.ElevenNotGiven
eleven_not_given = numbers.eleven_not_given

-- 8. Assurance. From reason 0 alone: every component ignores at least one share; whichever share is left out, every setting of the other s - 1 is met exactly
-- once, for every secret and stage; what a component reads is met equally often for all secrets; and running the same bytes on any sharing of a secret answers
-- 0 and output shares that sum to S of the secret.
pub assurance : (f : List ℕ) (n : ℕ) → (verdict f n).reason ≡ 0 → (d : Design) × Assured f d
assurance = assured.assurance

-- So no test of a setting of s - 1 shares, and no value that a component gives, tells one secret from another.
pub blind : (f : List ℕ) (n : ℕ) → (verdict f n).reason ≡ 0 → (d : Design) × Assured f d × Blind d
blind = assured.blind

-- The same of a design that is held otherwise than in a file.
pub sound_assured : promised.SoundAssured
sound_assured d w a = (assured.sound_assured d w a, assured.sound_blind d w a)

-- ---- Machine time before booking

-- The head record decides the forecast: the first seven bytes of the file, whatever follows.
pub forecast_head : promised.ForecastHead
forecast_head = counting.forecast_head

-- It is refused exactly where reading refuses the head record, with the same reason, which is from 1 to 4.
pub forecast_refused : promised.ForecastRefused
forecast_refused = counting.forecast_refused

pub forecast_range : promised.ForecastRange
forecast_range = counting.forecast_range

-- For a file that reads it is what the design asks for, and two passes over all sharings in each stage.
pub forecast_reads : promised.ForecastReads
forecast_reads = counting.forecast_reads

-- The forecast is reached: for every head within the limits some file of that head is accepted and takes just the trials of its forecast.
pub forecast_reached : promised.ForecastReached
forecast_reached = reached.forecast_reached

-- With as many bytes of workspace as are forecast no verdict is 9, and with fewer none is 0.
pub workspace_enough : (f : List ℕ) (n : ℕ) → (forecast f).workspace ≤ n → (verdict f n).reason ≢ 9
workspace_enough = reached.workspace_enough

pub workspace_needed : (f : List ℕ) (n : ℕ) → n < (forecast f).workspace → (verdict f n).reason ≢ 0
workspace_needed = reached.workspace_needed

-- An accepted design takes just so many trials; 1 to 11 take none; no verdict takes more than is forecast.
pub trials_accepted : promised.TrialsAccepted
trials_accepted = counting.trials_accepted

pub trials_none : promised.TrialsNone
trials_none = counting.trials_none

pub trials_most : (f : List ℕ) (n : ℕ) → trials f n ≤ (forecast f).trials
trials_most = counting.trials_most

-- And the trials of every outcome, by its reason and its stage, where the file reads; of others `trials_none` speaks.
pub trials_outcome : promised.TrialsOutcome
trials_outcome = counting.trials_outcome

-- ---- The direct sharing

-- A term of degree d gives s^d products.
pub products : promised.Products
products = products_count

-- For three shares and a product xy (m is 2, x is bit 0, y is bit 1) component 1 gets x2y2, x3y2 and x2y3.
pub product_xy : promised.ProductXy
product_xy = direct_bench.xy_first

-- The published placements: the rule as tables, for three, four and five shares.
pub published_three : promised.PublishedThree
published_three = direct_bench.published_three

pub published_four : promised.PublishedFour
published_four = direct_bench.published_four

pub published_five : promised.PublishedFive
published_five = direct_bench.published_five

-- ---- Producing

-- 9. For a permutation table within the limits, of degree below s, and any placement that loads: what is produced reads as the direct sharing by this placement,
-- whose one stage is correct and non-complete.
pub produced_reads : promised.ProducedReads
produced_reads m s t l b a low = let p = produced_sound m s t l b a low in (p.reads, p.correctly, p.non_completely)

-- It is so in the usual, stricter sense: component c ignores share c.
pub produced_usual : promised.ProducedUsual
produced_usual m s t l a = direct_stage_lem.direct_ignores m s (placed s l) (placed_outside s l a) t

-- So with enough workspace its verdict is 0 or 14.
pub produced_judged : promised.ProducedJudged
produced_judged = produced_verdict

-- 0 is answered exactly for a permutation table within the limits, of degree below s, and a placement that loads, whose file fits the output.
pub produced_exactly : (m s : ℕ) (t l : List ℕ) (room : ℕ) → (produced_reason m s t l room ≡ 0) ↔ Succeeds m s t l room
produced_exactly = success_exactly

-- And every number exactly when it is explained, in the published order.
pub produced_explained : promised.ProducingAnswered
produced_explained = producing_explained.producing_exactly

-- For a permutation table within the limits 21 is answered exactly when the placement does not load.
pub placement_exactly : promised.PlacementExactly
placement_exactly = twenty_one_exactly

-- The published placement loads, and gives the file of the sharing by the published rule, byte for byte.
pub old_placement : promised.OldPlacement
old_placement = published_placement

-- A table of m bits can be shared so with s shares, by some component functions, exactly when its degree is below s.
pub shareable_exactly : promised.ShareableExactly
shareable_exactly = shareable.shareable_exactly

-- 16 is answered exactly when no component functions at all, of a file or not, share the table correctly and non-completely with s shares.
pub refused_exactly : (m s : ℕ) (t l : List ℕ) (room : ℕ) → Box m s t → Loads s l → (produced_reason m s t l room ≡ 16) ↔ ¬ Shareable m s t
refused_exactly = sixteen_exactly

-- On success the output starts with the file, which depends on m, s, the table and the placement alone; the bytes past the file are untouched; and on a refusal
-- all are.
pub produced_file : (m s : ℕ) (t l out : List ℕ) → produced_reason m s t l (length out) ≡ 0
    → take (length (produced m s t l)) (output_after m s t l out) ≡ produced m s t l
produced_file = output_file

pub produced_rest : (m s : ℕ) (t l out : List ℕ) → produced_reason m s t l (length out) ≡ 0
    → drop (length (produced m s t l)) (output_after m s t l out) ≡ drop (length (produced m s t l)) out
produced_rest = output_rest

pub refused_output : (m s : ℕ) (t l out : List ℕ) → produced_reason m s t l (length out) ≢ 0 → output_after m s t l out ≡ out
refused_output = output_refused

-- How long the file is, the same whatever the placement is.
pub produced_size : promised.ProducedSize
produced_size m s t l b a low = producer_terms.produced_size m s t l b.table a low

-- How much output is always enough: for m and s, and for all of them, which is the bound at m 4 and s 5.
pub produced_most_lem : promised.ProducedMost
produced_most_lem = producer_room.produced_most_lem

pub most_met : promised.MostMet
most_met = producer_room.most_met

pub output_enough : promised.OutputEnough
output_enough = producer_room.room_enough

-- ---- Running, and the transform: an answer is given exactly when it is explained

pub run_explained : promised.RunningAnswered
run_explained = running_explained.running_exactly

pub transform_explained : promised.TransformAnswered
transform_explained = transforming_explained.transform_exactly

-- On success the first 2^m bytes of the output are the words, and those past them are untouched; and on a refusal all are.
pub transform_words : (m : ℕ) (input out : List ℕ) → transform_reason m input (length out) ≡ 0 → take (2 ^ m) (transform_after m input out) ≡ transformed m input
transform_words = transforming_explained.transform_words

pub transform_rest : (m : ℕ) (input out : List ℕ) → transform_reason m input (length out) ≡ 0 → drop (2 ^ m) (transform_after m input out) ≡ drop (2 ^ m) out
transform_rest = transforming_explained.transform_rest

pub transform_refused : (m : ℕ) (input out : List ℕ) → transform_reason m input (length out) ≢ 0 → transform_after m input out ≡ out
transform_refused = transforming_explained.transform_refused

-- ---- Chaining two boxes

-- What is joined reads as the joined design: its S sends each x through S of the first and then through S of the second, and its stages are those of the
-- first and then those of the second.
pub joined_reads : promised.JoinedReads
joined_reads = joined_form.joined_reads

pub joined_box : promised.JoinedBox
joined_box = joined_form.joined_box

-- Where both files are accepted, the joined one is accepted with the workspace that served the first, and its users have the same assurance through the seam.
pub joined_accepted : promised.JoinedAccepted
joined_accepted = joined_verdict.joined_accepted

-- Running the joined file is running the second on what the first gives, for all files that can be joined, accepted or not, and for all shares; where the first
-- refuses the shares, the joined file refuses them too.
pub joined_runs : promised.JoinedRuns
joined_runs = joined_run.joined_runs

-- 0 is answered exactly when the files can be joined and the joined file fits the output; and every number exactly when it is explained: the refusal that it
-- names is there, and none before it in the published order is.
pub joined_exactly : (f g : List ℕ) (room : ℕ) → (joined_reason f g room ≡ 0) ↔ ((d : Design) × (e : Design) × Joinable f g d e × (length (joined f g) ≤ room))
joined_exactly = joined_answers.joined_exactly

pub joined_explained : promised.JoiningAnswered
joined_explained = joined_answers.joined_explained

-- On success the output starts with the joined file; the bytes past it are untouched; and on a refusal all are.
pub joined_file : (f g out : List ℕ) → joined_reason f g (length out) ≡ 0 → take (length (joined f g)) (joined_after f g out) ≡ joined f g
joined_file = joined_answers.joined_file

pub joined_rest : (f g out : List ℕ) → joined_reason f g (length out) ≡ 0 → drop (length (joined f g)) (joined_after f g out) ≡ drop (length (joined f g)) out
joined_rest = joined_answers.joined_rest

pub joined_refused : (f g out : List ℕ) → joined_reason f g (length out) ≢ 0 → joined_after f g out ≡ out
joined_refused = joined_answers.joined_refused

-- The joined file has one head, one box and one end less than the two together, so an output as long as both is always enough.
pub joined_length : promised.JoinedLength
joined_length = joined_lengths.joined_length

pub joined_room : promised.JoinedRoom
joined_room = joined_lengths.joined_room

-- ---- 10. Bench. Every row answers as it must; what a component reads is met as often, and files are joined, as rows say.

pub record Bench : Type 0 where
  pub transforms : map (λ r. transform_reason r.m r.input (length r.output)) bench_anf.rows ≡ map (λ r. r.answer) bench_anf.rows
  pub transformed : map (λ r. transform_after r.m r.input r.output) bench_anf.rows ≡ map (λ r. r.after) bench_anf.rows
  pub heads : map (λ r. head_answer (checked r.m r.s 1)) bench_design.head_rows ≡ map (λ r. r.answer) bench_design.head_rows
  pub encoded : encode bench_design.design_d ≡ bench_design.file_d
  pub readings : map (λ r. reading r.file) bench_design.rows ≡ map (λ r. r.answer) bench_design.rows
  pub verdicts : map (λ r. judging r.file r.workspace) bench_checker.rows ≡ map (λ r. r.answer) bench_checker.rows
  pub workspaces : map (λ r. workspace_after r.file r.before) bench_checker.workspace_rows ≡ map (λ r. r.after) bench_checker.workspace_rows
  pub forecasts : map (λ r. forecast r.file) bench_checker.forecasts ≡ map (λ r. r.answer) bench_checker.forecasts
  pub meetings : map (λ r. read_meetings 1 3 r.stages r.secret 0 0 r.sharing) bench_checker.meeting_rows ≡ map (λ r. r.times) bench_checker.meeting_rows
  pub runs : map (λ r. running r.file r.shares) bench_checker.runs ≡ map (λ r. r.answer) bench_checker.runs
  pub productions : map (λ r. producing r.m r.s r.table r.placement (length r.output)) bench_producer.rows ≡ map (λ r. r.answer) bench_producer.rows
  pub lists : (direct_stage 1 3 (component_for 3) (1 ∷ 0 ∷ [])).lists ≡ (0 ∷ 2 ∷ []) ∷ (4 ∷ []) ∷ (1 ∷ []) ∷ []
  pub placed_lists : (direct_stage 1 3 (placed 3 (2 ∷ 3 ∷ 3 ∷ 1 ∷ 2 ∷ 1 ∷ [])) (1 ∷ 0 ∷ [])).lists ≡ (0 ∷ 4 ∷ []) ∷ (1 ∷ []) ∷ (2 ∷ []) ∷ []
  pub outputs : map (λ r. output_after r.m r.s r.table r.placement r.output) bench_producer.rows ≡ map (λ r. r.after) bench_producer.rows
  pub joinings : map (λ r. joining r.first r.second (length r.output)) bench_joiner.rows ≡ map (λ r. r.answer) bench_joiner.rows
  pub joined_outputs : map (λ r. joined_after r.first r.second r.output) bench_joiner.rows ≡ map (λ r. r.after) bench_joiner.rows

pub bench : Bench
bench = record {
  transforms = anf_bench.bench_answers;
  transformed = anf_bench.bench_outputs;
  heads = design_bench.bench_heads;
  encoded = design_bench.D-encoded;
  readings = design_bench.bench;
  verdicts = checker_bench.bench_verdicts;
  workspaces = checker_bench.bench_workspaces;
  forecasts = checker_bench.bench_forecasts;
  meetings = checker_bench.bench_meetings;
  runs = checker_bench.bench_runs;
  productions = producer_bench.bench_answers;
  lists = direct_bench.bench_lists;
  placed_lists = direct_bench.bench_placed;
  outputs = producer_bench.bench_outputs;
  joinings = joiner_bench.bench_answers;
  joined_outputs = joiner_bench.bench_outputs;
}
