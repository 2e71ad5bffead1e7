-- The kinds of records (RULES 4.3): the number of each.
use Rattle.std.specs.Prelude.{ℕ}
use Rattle.records.specs.declared.kind.Kind.{Kind}
use Rattle.records.specs.declared.kind.Kind.TheVariants.{Head, Table, List, End}

abbrev pub code : Kind → ℕ
code Head = 1
code Table = 2
code List = 3
code End = 4
