-- Rows of joining (RULES 11): what it answers and leaves.
use Rattle.std.specs.Prelude.{ℕ, List, [], ◌∷◌, ◌++◌, replicate, take}
use Rattle.records.specs.Writing.{Produced}
use Rattle.records.specs.Design.{Stage}
use Rattle.records.specs.Encode.{encode}
use Rattle.design.specs.Bench.{file_d}

-- n stages of one bit, each with the table 0 1, whose components read shares 2, 3, .. and 1: those of D for three shares
abbrev chain : ℕ → List (List ℕ) → ℕ → List ℕ
chain s lists n = encode (record { m = 1; s = s; k = n; box = 0 ∷ 1 ∷ []; stages = replicate n (record { table = 0 ∷ 1 ∷ []; lists = lists }) })

abbrev pub three : ℕ → List ℕ
three = chain 3 ((2 ∷ []) ∷ (4 ∷ []) ∷ (1 ∷ []) ∷ [])

abbrev pub four : ℕ → List ℕ
four = chain 4 ((2 ∷ []) ∷ (4 ∷ []) ∷ (8 ∷ []) ∷ (1 ∷ []) ∷ [])

-- two bits in three shares, component j reading share j alone: one exchanges the bits, one changes bit 0
abbrev exchange : Stage
exchange = record { table = 0 ∷ 2 ∷ 1 ∷ 3 ∷ []; lists = (2 ∷ []) ∷ (1 ∷ []) ∷ (8 ∷ []) ∷ (4 ∷ []) ∷ (32 ∷ []) ∷ (16 ∷ []) ∷ [] }

abbrev change : Stage
change = record { table = 1 ∷ 0 ∷ 3 ∷ 2 ∷ []; lists = (0 ∷ 1 ∷ []) ∷ (2 ∷ []) ∷ (4 ∷ []) ∷ (8 ∷ []) ∷ (16 ∷ []) ∷ (32 ∷ []) ∷ [] }

abbrev pub two_bits : List ℕ → List Stage → ℕ → List ℕ
two_bits box stages k = encode (record { m = 2; s = 3; k = k; box = box; stages = stages })

pub record JoiningRow : Type 0 where
  pub first : List ℕ
  pub second : List ℕ
  pub output : List ℕ
  pub answer : Produced
  pub after : List ℕ

-- two files that are joined into an output of so many bytes, each 9
abbrev row : List ℕ → List ℕ → ℕ → ℕ → List ℕ → JoiningRow
row f g room size file = record { first = f; second = g; output = replicate room 9; answer = record { reason = 0; length = size }; after = file }

-- a refusal, which leaves the output as it is
abbrev no : List ℕ → List ℕ → ℕ → ℕ → JoiningRow
no f g room reason = record { first = f; second = g; output = replicate room 9; answer = record { reason = reason; length = 0 }; after = replicate room 9 }

abbrev pub rows : List JoiningRow
rows =
    -- D and D, into an output that they fill and into one that is longer; and four stages
    row file_d file_d 77 77 (three 2) ∷
    row file_d file_d 79 77 (three 2 ++ (9 ∷ 9 ∷ [])) ∷
    row (three 3) file_d 137 137 (three 4) ∷
    -- bits exchanged, then bit 0 changed; and the other way round
    row (two_bits (0 ∷ 2 ∷ 1 ∷ 3 ∷ []) (exchange ∷ []) 1) (two_bits (1 ∷ 0 ∷ 3 ∷ 2 ∷ []) (change ∷ []) 1) 135 135
    (two_bits (1 ∷ 3 ∷ 0 ∷ 2 ∷ []) (exchange ∷ change ∷ []) 2) ∷
    row (two_bits (1 ∷ 0 ∷ 3 ∷ 2 ∷ []) (change ∷ []) 1) (two_bits (0 ∷ 2 ∷ 1 ∷ 3 ∷ []) (exchange ∷ []) 1) 135 135
    (two_bits (2 ∷ 0 ∷ 3 ∷ 1 ∷ []) (change ∷ exchange ∷ []) 2) ∷
    -- an output that is one byte too short
    no file_d file_d 76 17 ∷
    -- five stages, whatever the room
    no (three 4) file_d 200 20 ∷
    no (three 2) (three 3) 0 20 ∷
    -- other shares, also where the stages are too many
    no file_d (four 1) 200 19 ∷
    no (four 1) file_d 200 19 ∷
    no file_d (two_bits (0 ∷ 2 ∷ 1 ∷ 3 ∷ []) (exchange ∷ []) 1) 200 19 ∷
    no (four 4) (three 4) 0 19 ∷
    -- a file that does not read, the first before the second, whatever the rest
    no (take 40 file_d) (file_d ++ (0 ∷ [])) 200 1 ∷
    no file_d (file_d ++ (0 ∷ [])) 0 7 ∷
    no (four 4) [] 0 1 ∷
    []
