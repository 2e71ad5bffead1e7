-- The records of a design file (RULES 4.2): a two-byte body length, a two-byte kind, then the body.
use Rattle.std.specs.Prelude.{ℕ, List, [], ◌++◌, length}
use Rattle.records.specs.Bytes.{two, term_bytes}
use Rattle.records.specs.Kinds.{code}
use Rattle.records.specs.declared.kind.Kind.TheVariants as kinds

-- the four bytes before a body: its length and its kind
abbrev pub record_head : ℕ → ℕ → List ℕ
record_head size kind = two size ++ two kind

-- a record
unfoldable pub a_record : ℕ → List ℕ → List ℕ
a_record kind body = record_head (length body) kind ++ body

-- the record of a list
abbrev pub list_record : List ℕ → List ℕ
list_record ts = a_record (code kinds.List) (term_bytes ts)

-- the record that ends a file
abbrev pub end_record : List ℕ
end_record = a_record (code kinds.End) []
