-- Every bench row of normal form passes, by computation.
use mathlib.Core.Path.{◌≡◌, refl}
use mathlib.Core.List.{map}
use Prim.Native.Nat.{ℕ}
use lib.ListN.{length}
use Rattle.finite.specs.Tests.{all, tabulate}
use Rattle.finite.specs.Sums.{xor_below}
use Rattle.finite.specs.Sets.{subset}
use Rattle.finite.specs.Faults.{first_fault}
use Rattle.anf.specs.NormalForm.{subset_sum}
use Rattle.anf.specs.Tables.{entries_below}
use Rattle.anf.specs.Transform.{transform_reason, transform_after}
use Rattle.anf.specs.Bench.{rows}

-- the definitions that computing opens
unfoldable computing : ℕ
unfolding all tabulate xor_below subset subset_sum entries_below transform_reason transform_after first_fault
computing = 0

pub bench_answers : map (λ r. transform_reason r.m r.input (length r.output)) rows ≡ map (λ r. r.answer) rows
unfolding computing
bench_answers = refl

pub bench_outputs : map (λ r. transform_after r.m r.input r.output) rows ≡ map (λ r. r.after) rows
unfolding computing
bench_outputs = refl
