-- Rows of producing (RULES 10): what it answers and leaves.
use Rattle.std.specs.Prelude.{ℕ, List, [], ◌∷◌, ◌++◌}
use Rattle.finite.specs.Tests.{tabulate}
use Rattle.records.specs.Writing.{Produced}
use Rattle.direct.specs.Direct.{placement_3}

pub record ProducingRow : Type 0 where
  pub m : ℕ
  pub s : ℕ
  pub table : List ℕ
  pub placement : List ℕ
  pub output : List ℕ
  pub answer : Produced
  pub after : List ℕ

-- a table that is produced by a placement into an output of so many bytes, each 9
abbrev row : ℕ → ℕ → List ℕ → List ℕ → ℕ → ℕ → List ℕ → ProducingRow
row m s t l room size file =
    record { m = m; s = s; table = t; placement = l; output = tabulate room (λ i. 9); answer = record { reason = 0; length = size }; after = file }

-- a refusal, which leaves the output as it is
abbrev no : ℕ → ℕ → List ℕ → List ℕ → ℕ → ℕ → ProducingRow
no m s t l room reason =
    record { m = m; s = s; table = t; placement = l; output = tabulate room (λ i. 9); answer = record { reason = reason; length = 0 }; after = tabulate room (λ i. 9) }

-- a placement for three shares that is not the published one
abbrev other : List ℕ
other = 2 ∷ 3 ∷ 3 ∷ 1 ∷ 2 ∷ 1 ∷ []

-- the 51 bytes of 1 0 with three shares: lists {0, 2}, {4}, {1}
abbrev pub file51 : List ℕ
file51 =
    3 ∷ 0 ∷ 1 ∷ 0 ∷ 1 ∷ 3 ∷ 1 ∷
    2 ∷ 0 ∷ 2 ∷ 0 ∷ 1 ∷ 0 ∷
    2 ∷ 0 ∷ 2 ∷ 0 ∷ 1 ∷ 0 ∷
    8 ∷ 0 ∷ 3 ∷ 0 ∷ 0 ∷ 0 ∷ 0 ∷ 0 ∷ 2 ∷ 0 ∷ 0 ∷ 0 ∷
    4 ∷ 0 ∷ 3 ∷ 0 ∷ 4 ∷ 0 ∷ 0 ∷ 0 ∷
    4 ∷ 0 ∷ 3 ∷ 0 ∷ 1 ∷ 0 ∷ 0 ∷ 0 ∷
    0 ∷ 0 ∷ 4 ∷ 0 ∷ []

-- by the other placement: lists {0, 4}, {1}, {2}
abbrev pub placed51 : List ℕ
placed51 =
    3 ∷ 0 ∷ 1 ∷ 0 ∷ 1 ∷ 3 ∷ 1 ∷
    2 ∷ 0 ∷ 2 ∷ 0 ∷ 1 ∷ 0 ∷
    2 ∷ 0 ∷ 2 ∷ 0 ∷ 1 ∷ 0 ∷
    8 ∷ 0 ∷ 3 ∷ 0 ∷ 0 ∷ 0 ∷ 0 ∷ 0 ∷ 4 ∷ 0 ∷ 0 ∷ 0 ∷
    4 ∷ 0 ∷ 3 ∷ 0 ∷ 1 ∷ 0 ∷ 0 ∷ 0 ∷
    4 ∷ 0 ∷ 3 ∷ 0 ∷ 2 ∷ 0 ∷ 0 ∷ 0 ∷
    0 ∷ 0 ∷ 4 ∷ 0 ∷ []

-- 0123456789ABCDFE, of degree 3
abbrev cubic : List ℕ
cubic = 0 ∷ 1 ∷ 2 ∷ 3 ∷ 4 ∷ 5 ∷ 6 ∷ 7 ∷ 8 ∷ 9 ∷ 10 ∷ 11 ∷ 12 ∷ 13 ∷ 15 ∷ 14 ∷ []

abbrev pub rows : List ProducingRow
rows =
    -- 1 0 with three shares, into an output that it fills and into one that is longer
    row 1 3 (1 ∷ 0 ∷ []) placement_3 51 51 file51 ∷
    row 1 3 (1 ∷ 0 ∷ []) placement_3 53 51 (file51 ++ (9 ∷ 9 ∷ [])) ∷
    -- by another placement
    row 1 3 (1 ∷ 0 ∷ []) other 51 51 placed51 ∷
    -- an output that is one byte too short
    no 1 3 (1 ∷ 0 ∷ []) placement_3 50 17 ∷
    -- a limit broken, a table of another size, an entry that is too large, one that repeats, also where the placement does not load
    no 4 2 [] [] 0 4 ∷
    no 1 3 (1 ∷ 0 ∷ 0 ∷ []) placement_3 60 3 ∷
    no 1 3 (1 ∷ 2 ∷ []) placement_3 60 5 ∷
    no 1 3 (1 ∷ 1 ∷ []) placement_3 60 8 ∷
    no 1 3 (1 ∷ 1 ∷ []) [] 60 8 ∷
    -- a placement of five bytes, of seven, with a byte 0, with a byte 4, with set 1 sent to component 1, whose share it has
    no 1 3 (1 ∷ 0 ∷ []) (3 ∷ 1 ∷ 3 ∷ 2 ∷ 2 ∷ []) 60 21 ∷
    no 1 3 (1 ∷ 0 ∷ []) (3 ∷ 1 ∷ 3 ∷ 2 ∷ 2 ∷ 1 ∷ 1 ∷ []) 60 21 ∷
    no 1 3 (1 ∷ 0 ∷ []) (3 ∷ 0 ∷ 3 ∷ 2 ∷ 2 ∷ 1 ∷ []) 60 21 ∷
    no 1 3 (1 ∷ 0 ∷ []) (4 ∷ 1 ∷ 3 ∷ 2 ∷ 2 ∷ 1 ∷ []) 60 21 ∷
    no 1 3 (1 ∷ 0 ∷ []) (1 ∷ 1 ∷ 3 ∷ 2 ∷ 2 ∷ 1 ∷ []) 60 21 ∷
    -- degree 3 with three shares, and with a placement that does not load
    no 4 3 cubic placement_3 2 16 ∷
    no 4 3 cubic [] 2 21 ∷
    []
