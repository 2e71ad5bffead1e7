-- Rows of the verdict with its trials, of the forecast and of running: files, what they are given, and answers. And how often what a component reads
-- is met.
use Rattle.std.specs.Prelude.{ℕ, List, [], ◌∷◌}
use Rattle.records.specs.Design.{Stage}
use Rattle.records.specs.Encode.{encode}
use Rattle.design.specs.Bench.{file_d}
use Rattle.threshold.specs.Running.{Ran, refused_run}
use Rattle.checker.specs.Verdict.{Verdict, answer}
use Rattle.checker.specs.Trials.{Forecast, Judged, counted}

-- D with the box S, the table and the three lists of its stage replaced
abbrev pub variant_d : List ℕ → List ℕ → List ℕ → List ℕ → List ℕ → List ℕ
variant_d box table a b c = encode (record {
  m = 1;
  s = 3;
  k = 1;
  box = box;
  stages = record { table = table; lists = a ∷ b ∷ c ∷ [] } ∷ [];
})

-- D with another box
abbrev pub box_d : ℕ → ℕ → List ℕ
box_d a b = variant_d (a ∷ b ∷ []) (0 ∷ 1 ∷ []) (2 ∷ []) (4 ∷ []) (1 ∷ [])

-- D with another table
abbrev pub table_d : ℕ → ℕ → List ℕ
table_d a b = variant_d (0 ∷ 1 ∷ []) (a ∷ b ∷ []) (2 ∷ []) (4 ∷ []) (1 ∷ [])

-- D with other lists
abbrev pub lists_d : List ℕ → List ℕ → List ℕ → List ℕ
lists_d a b c = variant_d (0 ∷ 1 ∷ []) (0 ∷ 1 ∷ []) a b c

pub record VerdictRow : Type 0 where
  pub file : List ℕ
  pub workspace : ℕ
  pub answer : Judged

-- a file, a workspace, the verdict and its trials
abbrev row : List ℕ → ℕ → Verdict → ℕ → VerdictRow
row f n v t = record { file = f; workspace = n; answer = counted v t }

abbrev pub rows : List VerdictRow
rows =
    -- D is accepted with one byte of workspace, and with the program's
    row file_d 1 (answer 0 1 0) 16 ∷
    row file_d 32768 (answer 0 1 0) 16 ∷
    -- the last list empty
    row (lists_d (2 ∷ []) (4 ∷ []) []) 1 (answer 12 1 0) 2 ∷
    -- component j reading share j alone
    row (lists_d (1 ∷ []) (2 ∷ []) (4 ∷ [])) 1 (answer 0 1 0) 16 ∷
    -- component 1 reading every share
    row (lists_d (1 ∷ 2 ∷ 4 ∷ []) [] []) 1 (answer 13 1 1) 8 ∷
    -- correct and non-complete, and not uniform
    row (lists_d (2 ∷ 4 ∷ []) (1 ∷ []) []) 1 (answer 14 1 0) 13 ∷
    -- S is 1 0: not the chain of tables
    row (box_d 1 0) 1 (answer 10 0 0) 0 ∷
    -- G repeats an entry: nor is it then
    row (table_d 0 0) 1 (answer 10 0 0) 0 ∷
    -- S repeats an entry, also with an empty workspace
    row (box_d 0 0) 1 (answer 8 0 0) 0 ∷
    row (box_d 0 0) 0 (answer 8 0 0) 0 ∷
    -- D with an empty workspace
    row file_d 0 (answer 9 0 0) 0 ∷
    -- no file at all
    row [] 1 (answer 1 0 0) 0 ∷
    []

-- ---- the workspace, before and afterwards

pub record WorkspaceRow : Type 0 where
  pub file : List ℕ
  pub before : List ℕ
  pub after : List ℕ

abbrev leaves : List ℕ → List ℕ → List ℕ → WorkspaceRow
leaves f before after = record { file = f; before = before; after = after }

-- two bits in three shares, which ask for eight bytes
abbrev two_bits : List ℕ
two_bits = encode (record {
  m = 2;
  s = 3;
  k = 1;
  box = 0 ∷ 1 ∷ 2 ∷ 3 ∷ [];
  stages =
      record { table = 0 ∷ 1 ∷ 2 ∷ 3 ∷ []; lists = (1 ∷ []) ∷ (2 ∷ []) ∷ (4 ∷ []) ∷ (8 ∷ []) ∷ (16 ∷ []) ∷ (32 ∷ []) ∷ [] } ∷ [];
})

abbrev pub workspace_rows : List WorkspaceRow
workspace_rows =
    -- D is accepted: its one byte is zero, and the byte behind it as it was
    leaves file_d (255 ∷ 170 ∷ []) (0 ∷ 170 ∷ []) ∷
    -- with 10, 12, 13 and 14 too
    leaves (box_d 1 0) (255 ∷ 170 ∷ []) (0 ∷ 170 ∷ []) ∷
    leaves (lists_d (2 ∷ []) (4 ∷ []) []) (255 ∷ 170 ∷ []) (0 ∷ 170 ∷ []) ∷
    leaves (lists_d (1 ∷ 2 ∷ 4 ∷ []) [] []) (255 ∷ 170 ∷ []) (0 ∷ 170 ∷ []) ∷
    leaves (lists_d (2 ∷ 4 ∷ []) (1 ∷ []) []) (255 ∷ 170 ∷ []) (0 ∷ 170 ∷ []) ∷
    -- with 9, 8 and where the file does not read the workspace stays
    leaves two_bits (255 ∷ 170 ∷ 1 ∷ []) (255 ∷ 170 ∷ 1 ∷ []) ∷
    leaves (box_d 0 0) (255 ∷ 170 ∷ []) (255 ∷ 170 ∷ []) ∷
    leaves [] (255 ∷ 170 ∷ []) (255 ∷ 170 ∷ []) ∷
    []

-- ---- the forecast

pub record ForecastRow : Type 0 where
  pub file : List ℕ
  pub answer : Forecast

-- a file, and its reason, workspace and trials
abbrev foretold : List ℕ → ℕ → ℕ → ℕ → ForecastRow
foretold f r w t = record { file = f; answer = record { reason = r; workspace = w; trials = t } }

abbrev pub forecasts : List ForecastRow
forecasts =
    -- D
    foretold file_d 0 1 16 ∷
    -- a head of 4, 5, 1, alone and with a byte that follows
    foretold (3 ∷ 0 ∷ 1 ∷ 0 ∷ 4 ∷ 5 ∷ 1 ∷ []) 0 131072 2097152 ∷
    foretold (3 ∷ 0 ∷ 1 ∷ 0 ∷ 4 ∷ 5 ∷ 1 ∷ 255 ∷ []) 0 131072 2097152 ∷
    -- a head of 5, 5, 1
    foretold (3 ∷ 0 ∷ 1 ∷ 0 ∷ 5 ∷ 5 ∷ 1 ∷ []) 4 0 0 ∷
    -- no file at all, a kind that is not 1, a length that is not 3, six bytes of a head
    foretold [] 1 0 0 ∷
    foretold (3 ∷ 0 ∷ 2 ∷ 0 ∷ 1 ∷ []) 2 0 0 ∷
    foretold (4 ∷ 0 ∷ 1 ∷ 0 ∷ 1 ∷ 3 ∷ 1 ∷ 0 ∷ []) 3 0 0 ∷
    foretold (3 ∷ 0 ∷ 1 ∷ 0 ∷ 1 ∷ 3 ∷ []) 1 0 0 ∷
    []

-- ---- what component 1 reads, in one stage of one bit in three shares

pub record MeetingRow : Type 0 where
  pub stages : List Stage
  -- a sharing: what the component reads of it
  pub sharing : ℕ
  pub secret : ℕ
  -- with how many sharings of the secret the component reads the same
  pub times : ℕ

abbrev met : List ℕ → List ℕ → List ℕ → ℕ → ℕ → ℕ → MeetingRow
met a b c q x n = record { stages = record { table = 0 ∷ 1 ∷ []; lists = a ∷ b ∷ c ∷ [] } ∷ []; sharing = q; secret = x; times = n }

abbrev pub meeting_rows : List MeetingRow
meeting_rows =
    -- it reads share 1 alone
    met (1 ∷ []) (2 ∷ []) (4 ∷ []) 1 0 2 ∷
    met (1 ∷ []) (2 ∷ []) (4 ∷ []) 1 1 2 ∷
    -- shares 2 and 3
    met (2 ∷ 4 ∷ []) (1 ∷ []) [] 2 0 1 ∷
    met (2 ∷ 4 ∷ []) (1 ∷ []) [] 2 1 1 ∷
    -- no share
    met [] (1 ∷ 2 ∷ 4 ∷ []) [] 0 0 4 ∷
    met [] (1 ∷ 2 ∷ 4 ∷ []) [] 0 1 4 ∷
    -- every share: how often tells the secrets apart
    met (1 ∷ 2 ∷ 4 ∷ []) [] [] 0 0 1 ∷
    met (1 ∷ 2 ∷ 4 ∷ []) [] [] 0 1 0 ∷
    []

-- ---- running

pub record RunRow : Type 0 where
  pub file : List ℕ
  pub shares : List ℕ
  pub answer : Ran

abbrev pub runs : List RunRow
runs =
    -- D run on shares 1 0 0
    record { file = file_d; shares = 1 ∷ 0 ∷ 0 ∷ 0 ∷ 0 ∷ []; answer = record { reason = 0; shares = 0 ∷ 0 ∷ 1 ∷ 0 ∷ 0 ∷ [] } } ∷
    -- share 1 equal to 2, a share after s that is not 0, no file at all
    record { file = file_d; shares = 2 ∷ 0 ∷ 0 ∷ 0 ∷ 0 ∷ []; answer = refused_run 15 } ∷
    record { file = file_d; shares = 1 ∷ 0 ∷ 0 ∷ 1 ∷ 0 ∷ []; answer = refused_run 15 } ∷
    record { file = []; shares = 1 ∷ 0 ∷ 0 ∷ 0 ∷ 0 ∷ []; answer = refused_run 1 } ∷
    []
