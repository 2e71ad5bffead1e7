-- The bench designs of producing: every row of the table, by computing.
use Prim.Native.Nat.{ℕ}
use mathlib.Core.Path.{◌≡◌, refl}
use mathlib.Core.List.{map}
use lib.Count.{ones}
use lib.ListN.{length}
use Rattle.finite.specs.Tests.{all, any, first, total, tabulate}
use Rattle.finite.specs.Sums.{xor_below}
use Rattle.finite.specs.Sets.{subset, has}
use Rattle.finite.specs.Maps.{repeats, met_before}
use Rattle.finite.specs.Faults.{first_fault}
use Rattle.anf.specs.NormalForm.{subset_sum, largest, degree}
use Rattle.anf.specs.Terms.{passing}
use Rattle.anf.specs.Tables.{entries_below}
use Rattle.design.specs.Limits.{broken}
use Rattle.records.specs.Bytes.{term_bytes}
use Rattle.records.specs.Records.{a_record}
use Rattle.records.specs.Encode.{lists_bytes, stage_bytes, encode}
use Rattle.records.specs.Writing.{writing_answer, writing_after}
use Rattle.sharing.specs.Sharing.{share}
use Rattle.direct.specs.Direct.{is_product, chosen, is_outside, loads, placed, component_for, published, stands, direct_list, direct_lists, direct_stage, direct_sharing}
use Rattle.producer.specs.Producing.{produced, produced_reason, producing, output_after}
use Rattle.producer.specs.Bench.{rows}

-- the definitions of the crates below that computing opens
unfoldable below : ℕ
unfolding all any first total tabulate xor_below subset subset_sum largest degree passing entries_below repeats met_before first_fault broken term_bytes a_record lists_bytes stage_bytes encode share
below = 0

-- those of the direct sharing
unfoldable placing : ℕ
unfolding has is_product chosen is_outside loads placed component_for published stands direct_list direct_lists direct_stage direct_sharing
placing = 0

-- and all of them
unfoldable pub computing : ℕ
unfolding below placing writing_answer writing_after produced produced_reason ones
computing = 0

pub bench_answers : map (λ r. producing r.m r.s r.table r.placement (length r.output)) rows ≡ map (λ r. r.answer) rows
unfolding computing
bench_answers = refl

pub bench_outputs : map (λ r. output_after r.m r.s r.table r.placement r.output) rows ≡ map (λ r. r.after) rows
unfolding computing
bench_outputs = refl
