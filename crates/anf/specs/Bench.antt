-- Rows of the transform (RULES 12): a table and its coefficient words, and each refusal with what it leaves.
use Rattle.std.specs.Prelude.{ℕ, List, [], ◌∷◌}

-- m variables, the input, the output before and afterwards, and the answer
pub record TransformRow : Type 0 where
  pub m : ℕ
  pub input : List ℕ
  pub output : List ℕ
  pub after : List ℕ
  pub answer : ℕ

-- a refusal, which leaves an output of one byte as it is
abbrev no : ℕ → List ℕ → ℕ → TransformRow
no m input r = record { m = m; input = input; output = 99 ∷ []; after = 99 ∷ []; answer = r }

-- 0 1 2 3 4 5 7 6 has coefficients 0 1 2 0 4 0 1 0, and they have that table. A ninth byte, 99, is not written.
abbrev pub rows : List TransformRow
rows =
    record {
      m = 3;
      input = 0 ∷ 1 ∷ 2 ∷ 3 ∷ 4 ∷ 5 ∷ 7 ∷ 6 ∷ [];
      output = 99 ∷ 99 ∷ 99 ∷ 99 ∷ 99 ∷ 99 ∷ 99 ∷ 99 ∷ 99 ∷ [];
      after = 0 ∷ 1 ∷ 2 ∷ 0 ∷ 4 ∷ 0 ∷ 1 ∷ 0 ∷ 99 ∷ [];
      answer = 0;
    }
    ∷ record {
      m = 3;
      input = 0 ∷ 1 ∷ 2 ∷ 0 ∷ 4 ∷ 0 ∷ 1 ∷ 0 ∷ [];
      output = 99 ∷ 99 ∷ 99 ∷ 99 ∷ 99 ∷ 99 ∷ 99 ∷ 99 ∷ 99 ∷ [];
      after = 0 ∷ 1 ∷ 2 ∷ 3 ∷ 4 ∷ 5 ∷ 7 ∷ 6 ∷ 99 ∷ [];
      answer = 0;
    }
    -- no variable, and seven; a table of three bytes; a word of 2; an output of one byte
    ∷ no 0 (0 ∷ []) 4
    ∷ no 7 [] 4
    ∷ no 1 (0 ∷ 1 ∷ 1 ∷ []) 3
    ∷ no 1 (0 ∷ 2 ∷ []) 5
    ∷ no 1 (0 ∷ 1 ∷ []) 17
    ∷ []
