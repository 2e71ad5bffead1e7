-- Rows of reading (RULES 5): what files read as, and which heads pass.
use Rattle.std.specs.Prelude.{ℕ, List, [], ◌∷◌, ◌++◌}
use Rattle.records.specs.Design.{Design}
use Rattle.design.specs.Reading.{Reading, refused, means}

-- the 47 bytes of D: one bit, three shares
abbrev pub file_d : List ℕ
file_d =
    3 ∷ 0 ∷ 1 ∷ 0 ∷ 1 ∷ 3 ∷ 1 ∷
    2 ∷ 0 ∷ 2 ∷ 0 ∷ 0 ∷ 1 ∷
    2 ∷ 0 ∷ 2 ∷ 0 ∷ 0 ∷ 1 ∷
    4 ∷ 0 ∷ 3 ∷ 0 ∷ 2 ∷ 0 ∷ 0 ∷ 0 ∷
    4 ∷ 0 ∷ 3 ∷ 0 ∷ 4 ∷ 0 ∷ 0 ∷ 0 ∷
    4 ∷ 0 ∷ 3 ∷ 0 ∷ 1 ∷ 0 ∷ 0 ∷ 0 ∷
    0 ∷ 0 ∷ 4 ∷ 0 ∷
    []

-- what D means: S and G are 0 1, and the components read shares 2, 3 and 1
abbrev pub design_d : Design
design_d = record {
  m = 1;
  s = 3;
  k = 1;
  box = 0 ∷ 1 ∷ [];
  stages = record { table = 0 ∷ 1 ∷ []; lists = (2 ∷ []) ∷ (4 ∷ []) ∷ (1 ∷ []) ∷ [] } ∷ [];
}

-- a file that ends with its head
abbrev pub head_file : ℕ → ℕ → List ℕ
head_file m s = 3 ∷ 0 ∷ 1 ∷ 0 ∷ m ∷ s ∷ 1 ∷ []

-- D up to its first list, and no further
abbrev pub start_d : List ℕ
start_d = 3 ∷ 0 ∷ 1 ∷ 0 ∷ 1 ∷ 3 ∷ 1 ∷ 2 ∷ 0 ∷ 2 ∷ 0 ∷ 0 ∷ 1 ∷ 2 ∷ 0 ∷ 2 ∷ 0 ∷ 0 ∷ 1 ∷ []

-- a head's numbers, and the number and the values of its answer
pub record HeadRow : Type 0 where
  pub m : ℕ
  pub s : ℕ
  pub answer : ℕ × List ℕ

-- m, s of 4, 5 pass the head; 5, 5 and 6, 4 and 4, 2 give 4
abbrev pub head_rows : List HeadRow
head_rows =
    record { m = 4; s = 5; answer = (0, 4 ∷ 5 ∷ 1 ∷ []) } ∷
    record { m = 5; s = 5; answer = (4, []) } ∷
    record { m = 6; s = 4; answer = (4, []) } ∷
    record { m = 4; s = 2; answer = (4, []) } ∷
    []

-- a file, and what it reads as
pub record ReadingRow : Type 0 where
  pub file : List ℕ
  pub answer : Reading

abbrev row : List ℕ → Reading → ReadingRow
row f r = record { file = f; answer = r }

abbrev pub rows : List ReadingRow
rows =
    -- D reads
    row file_d (means design_d) ∷
    -- m, s of 4, 5 pass the head: the next record is missing. 5, 5 and 6, 4 and 4, 2 give 4
    row (head_file 4 5) (refused 1 7) ∷
    row (head_file 5 5) (refused 4 0) ∷
    row (head_file 6 4) (refused 4 0) ∷
    row (head_file 4 2) (refused 4 0) ∷
    -- no file at all, a head cut short, a body cut short
    row [] (refused 1 0) ∷
    row (3 ∷ 0 ∷ 1 ∷ []) (refused 1 0) ∷
    row (3 ∷ 0 ∷ 1 ∷ 0 ∷ 1 ∷ 3 ∷ []) (refused 1 0) ∷
    -- the wrong kind with a cut body, also with a wrong length; a wrong length with a cut body
    row (3 ∷ 0 ∷ 2 ∷ 0 ∷ 1 ∷ []) (refused 2 0) ∷
    row (head_file 1 3 ++ (2 ∷ 0 ∷ 3 ∷ 0 ∷ [])) (refused 2 7) ∷
    row (head_file 1 3 ++ (3 ∷ 0 ∷ 3 ∷ 0 ∷ [])) (refused 2 7) ∷
    row (head_file 1 3 ++ (3 ∷ 0 ∷ 2 ∷ 0 ∷ [])) (refused 3 7) ∷
    -- an entry of 2
    row (head_file 1 3 ++ (2 ∷ 0 ∷ 2 ∷ 0 ∷ 0 ∷ 2 ∷ [])) (refused 5 7) ∷
    -- a list of 3 bytes, one of 16,388, a variable beyond m × s, terms that do not rise
    row (start_d ++ (3 ∷ 0 ∷ 3 ∷ 0 ∷ [])) (refused 3 19) ∷
    row (start_d ++ (4 ∷ 64 ∷ 3 ∷ 0 ∷ [])) (refused 3 19) ∷
    row (start_d ++ (4 ∷ 0 ∷ 3 ∷ 0 ∷ 8 ∷ 0 ∷ 0 ∷ 0 ∷ [])) (refused 6 19) ∷
    row (start_d ++ (8 ∷ 0 ∷ 3 ∷ 0 ∷ 2 ∷ 0 ∷ 0 ∷ 0 ∷ 2 ∷ 0 ∷ 0 ∷ 0 ∷ [])) (refused 6 19) ∷
    -- a byte after the end
    row (file_d ++ (0 ∷ [])) (refused 7 47) ∷
    []
