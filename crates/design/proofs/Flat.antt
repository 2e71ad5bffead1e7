-- The file of a design as records by their numbers, which is how the reader meets them. `Nested` shows that it is the file of the definition.
use Prim.Native.Nat.{ℕ, zero, suc, ◌+◌, ◌*◌, ◌-◌, ◌/◌, ◌%◌}
use mathlib.Core.List.{List, []}
use lib.ListN.{get_or}
use lib.Dec.{eqb}
use Rattle.finite.specs.Tests.{pick, tabulate}
use Rattle.records.specs.Bytes.{term_bytes}
use Rattle.records.specs.Design.{Stage, Design, stage_of}
use Rattle.std.specs.List.{concat}
use Rattle.records.specs.Records.{a_record}
use Rattle.records.specs.Encode.{head_body}
use Rattle.design.specs.Reading.{kind_due, last_of}
use Rattle.design.specs.Limits.{Head}

abbrev pub head_for : Design → Head
head_for d = record { m = d.m; s = d.s; k = d.k }

-- the bodies of a stage: its table, then its lists
unfoldable pub stage_body : Stage → ℕ → List ℕ
stage_body g zero = g.table
stage_body g (suc l) = term_bytes (get_or g.lists l [])

-- the body of record i
unfoldable pub body_of : Design → ℕ → List ℕ
body_of d i =
    pick (eqb i 0) (head_body d)
    (pick (eqb i 1) d.box
    (pick (eqb i (last_of (head_for d))) []
    (stage_body (stage_of d ((i - 2) / (1 + d.m * d.s))) ((i - 2) % (1 + d.m * d.s)))))

unfoldable pub record_of : Design → ℕ → List ℕ
record_of d i = a_record (kind_due (head_for d) i) (body_of d i)

unfoldable pub flat : Design → List ℕ
flat d = concat (tabulate (last_of (head_for d) + 1) (record_of d))
