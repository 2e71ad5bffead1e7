-- The outputs that are left to go over.
use Rattle.std.specs.Prelude.{ℕ, ◌+◌, ◌-◌, ◌^◌, List, length}
use Rattle.finite.specs.Tests.{tabulate}
use Rattle.design.specs.Inside.Lists.{lists_held}
use Rattle.sharing.specs.Stages.{output}
use Rattle.threshold.specs.declared.blocks.Outputs.{Outputs}

-- those of the sharings from x on
unfoldable pub outputs_left : List (List ℕ) → ℕ → List ℕ
outputs_left ls x = tabulate (2 ^ length ls - x) (λ i. output ls (x + i))

abbrev pub left : Outputs → List ℕ
left s = outputs_left (lists_held s.lists) s.next
