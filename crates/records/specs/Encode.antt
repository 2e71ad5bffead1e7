-- The design file (RULES 4), record by record: the bytes of the one file that means a design, and of its pieces.
use Rattle.std.specs.Prelude.{ℕ, List, [], ◌∷◌, ◌++◌, map}
use Rattle.std.specs.List.{concat}
use Rattle.records.specs.Records.{a_record, list_record, end_record}
use Rattle.records.specs.Design.{Stage, Design}
use Rattle.records.specs.Kinds.{code}
use Rattle.records.specs.declared.kind.Kind.TheVariants as kinds

-- the head: m, s, k
abbrev pub head_body : Design → List ℕ
head_body d = d.m ∷ d.s ∷ d.k ∷ []

-- the front of a file: the head and the box
abbrev pub front_bytes : (m s k : ℕ) → List ℕ → List ℕ
front_bytes m s k box = a_record (code kinds.Head) (m ∷ s ∷ k ∷ []) ++ a_record (code kinds.Table) box

-- the lists of a stage
unfoldable pub lists_bytes : List (List ℕ) → List ℕ
lists_bytes ls = concat (map list_record ls)

-- a stage: its table, then its lists
unfoldable pub stage_bytes : Stage → List ℕ
stage_bytes g = a_record (code kinds.Table) g.table ++ lists_bytes g.lists

-- stages
abbrev pub stages_bytes : List Stage → List ℕ
stages_bytes gs = concat (map stage_bytes gs)

-- the file: the head, the box, the stages, the end
unfoldable pub encode : Design → List ℕ
encode d = a_record (code kinds.Head) (head_body d) ++ (a_record (code kinds.Table) d.box ++ (stages_bytes d.stages ++ end_record))
