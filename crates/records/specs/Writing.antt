-- Writing a file (RULES 10.2, 10.3): the answer and the output afterwards, over the first refusal, or 0, and the file that is asked for.
use Rattle.std.specs.Prelude.{ℕ, Result, Ok, Err, List, ◌++◌, eqb, length, drop}
use Rattle.reasons.specs.declared.Reason.{Reason}
use Rattle.reasons.specs.Numbers.{number}
use Rattle.finite.specs.Tests.{pick}

-- the number of a refusal, or 0, and the length of the file that was written
pub record Produced : Type 0 where
  pub reason : ℕ
  pub length : ℕ

-- a refusal has length 0
unfoldable pub writing_answer : ℕ → List ℕ → Produced
writing_answer reason file = record { reason = reason; length = pick (eqb reason 0) (length file) 0 }

-- a refusal leaves the output untouched, success the bytes past the file
unfoldable pub writing_after : ℕ → List ℕ → List ℕ → List ℕ
writing_after reason file out = pick (eqb reason 0) (file ++ drop (length file) out) out

-- the answer of an outcome: 0 and the length that was written, or the number of the refusal and length 0
abbrev pub produced_of : Result ℕ Reason → Produced
produced_of (Ok n) = record { reason = 0; length = n }
produced_of (Err r) = record { reason = number r; length = 0 }
