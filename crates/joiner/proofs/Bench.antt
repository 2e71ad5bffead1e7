-- The bench designs of joining: every row of the table, by computing.
use Prim.Native.Nat.{ℕ}
use mathlib.Core.Path.{◌≡◌, refl}
use mathlib.Core.List.{map}
use lib.ListN.{length}
use Rattle.records.specs.Bytes.{term_bytes}
use Rattle.records.specs.Records.{a_record}
use Rattle.records.specs.Writing.{writing_answer, writing_after}
use Rattle.records.specs.Encode.{lists_bytes, stage_bytes, encode}
use Rattle.design.proofs.Bench as reading
use Rattle.joiner.specs.Joining.{joined, designs_reason, joined_reason, joining, joined_after}
use Rattle.joiner.specs.Bench.{rows}

-- the definitions that computing opens: of a file that is read and written, and of joining
unfoldable computing : ℕ
unfolding reading.computing term_bytes a_record lists_bytes stage_bytes encode writing_answer writing_after joined designs_reason joined_reason
computing = 0

pub bench_answers : map (λ r. joining r.first r.second (length r.output)) rows ≡ map (λ r. r.answer) rows
unfolding computing
bench_answers = refl

pub bench_outputs : map (λ r. joined_after r.first r.second r.output) rows ≡ map (λ r. r.after) rows
unfolding computing
bench_outputs = refl
