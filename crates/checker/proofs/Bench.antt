-- Every bench row of the verdict, the forecast, what a component reads and running, by computing.
use mathlib.Core.Path.{◌≡◌, refl}
use mathlib.Core.List.{map}
use Prim.Native.Nat.{ℕ}
use Rattle.finite.specs.Tests.{all, any, first, tried, total}
use Rattle.finite.specs.Sums.{xor_below}
use Rattle.finite.specs.Sets.{subset}
use Rattle.finite.specs.Maps.{repeats, met_before}
use Rattle.finite.specs.Faults.{first_fault}
use Rattle.anf.specs.Terms.{value_at}
use Rattle.records.specs.Records.{a_record}
use Rattle.records.specs.Encode.{lists_bytes, stage_bytes, encode}
use Rattle.records.specs.Bytes.{term_bytes}
use Rattle.design.proofs.Bench.{computing}
use Rattle.sharing.specs.Sharing.{share, sum, setting, put_share, packed}
use Rattle.sharing.specs.Stages.{output, correct, depends_on, depends_on_all, non_complete, sharings_to, uniform}
use Rattle.sharing.specs.Chain.{chained, handed, reads_alike, read_meetings}
use Rattle.threshold.specs.Running.{unpacked, share_fits, shares_fit, running_on, running}
use Rattle.checker.specs.Verdict.{chain_is_box, stages_faults, judged, judged_reading, verdict, workspace_left, workspace_after}
use Rattle.checker.specs.Trials.{both_passes, trials_of, trials, judging, forecast}
use Rattle.checker.specs.Bench.{rows, workspace_rows, forecasts, meeting_rows, runs}

-- the definitions that computing opens: of a file that is written,
unfoldable writing : ℕ
unfolding a_record lists_bytes stage_bytes encode term_bytes
writing = 0

-- of a sharing and a stage,
unfoldable sharing : ℕ
unfolding all any first total xor_below subset value_at share sum setting put_share output correct depends_on depends_on_all non_complete sharings_to uniform
sharing = 0

-- of the verdict with its trials, and of a run
unfoldable deciding : ℕ
unfolding computing writing sharing repeats met_before chained chain_is_box first_fault stages_faults judged judged_reading verdict tried both_passes trials_of trials judging
deciding = 0

unfoldable sending : ℕ
unfolding computing writing sharing handed packed unpacked share_fits shares_fit running_on running
sending = 0

pub bench_verdicts : map (λ r. judging r.file r.workspace) rows ≡ map (λ r. r.answer) rows
unfolding deciding
bench_verdicts = refl

pub bench_workspaces : map (λ r. workspace_after r.file r.before) workspace_rows ≡ map (λ r. r.after) workspace_rows
unfolding deciding workspace_left workspace_after
bench_workspaces = refl

pub bench_forecasts : map (λ r. forecast r.file) forecasts ≡ map (λ r. r.answer) forecasts
unfolding computing forecast
bench_forecasts = refl

pub bench_meetings : map (λ r. read_meetings 1 3 r.stages r.secret 0 0 r.sharing) meeting_rows ≡ map (λ r. r.times) meeting_rows
unfolding sharing handed reads_alike read_meetings
bench_meetings = refl

pub bench_runs : map (λ r. running r.file r.shares) runs ≡ map (λ r. r.answer) runs
unfolding sending
bench_runs = refl
