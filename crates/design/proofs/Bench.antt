-- The bench designs of reading: every row of the tables, by computing. And D is the file of what it means.
use Prim.Native.Nat.{ℕ}
use mathlib.Core.Path.{◌≡◌, refl}
use mathlib.Core.List.{map}
use Rattle.finite.specs.Tests.{all, tabulate}
use Rattle.finite.specs.Faults.{first_fault}
use Rattle.anf.specs.Terms.{before}
use Rattle.design.specs.Limits.{broken, checked, head_answer}
use Rattle.records.specs.Bytes.{u16_at, u32_at, term_bytes}
use Rattle.records.specs.Records.{a_record}
use Rattle.records.specs.Encode.{lists_bytes, stage_bytes, encode}
use Rattle.design.specs.Reading.{last_of, number_of, kind_due, size_due, length_due, entry_fits, previous, term_fits, fault_at, place, table_at, list_at, stage_at, meaning, walk, reading}
use Rattle.design.specs.Bench.{file_d, design_d, head_rows, rows}

-- the definitions that computing the fault of a record opens
unfoldable faults : ℕ
unfolding all before broken u16_at u32_at last_of kind_due size_due length_due first_fault entry_fits previous term_fits fault_at
faults = 0

-- and those of a reading
unfoldable pub computing : ℕ
unfolding faults tabulate number_of place table_at list_at stage_at meaning walk reading
computing = 0

pub bench : map (λ r. reading r.file) rows ≡ map (λ r. r.answer) rows
unfolding computing
bench = refl

pub bench_heads : map (λ r. head_answer (checked r.m r.s 1)) head_rows ≡ map (λ r. r.answer) head_rows
unfolding computing
bench_heads = refl

pub D-encoded : encode design_d ≡ file_d
unfolding term_bytes a_record lists_bytes stage_bytes encode
D-encoded = refl
