-- Producing (RULES 10): the answer, and the output afterwards.
use Rattle.std.specs.Prelude.{ℕ, ◌+◌, ◌*◌, ◌^◌, ◌≤◌, ◌<◌, Bool, not, List, [], ◌∷◌, length, eqb, ltb, leb}
use Rattle.std.specs.Int.Count.{ones}
use Rattle.reasons.specs.Numbers.{number}
use Rattle.reasons.specs.declared.Reason.TheVariants.{WrongLength, EntryTooLarge, BoxRepeats, DegreeTooHigh, OutputTooShort, BadPlacement}
use Rattle.finite.specs.Maps.{repeats}
use Rattle.finite.specs.Tests.{pick, total}
use Rattle.finite.specs.Faults.{first_fault}
use Rattle.anf.specs.Tables.{entry, entries_below}
use Rattle.anf.specs.NormalForm.{degree}
use Rattle.design.specs.Limits.{broken, checked, head_answer}
use Rattle.records.specs.Encode.{encode}
use Rattle.records.specs.Writing.{Produced, writing_answer, writing_after}
use Rattle.direct.specs.Direct.{loads, Loads, placed, direct_sharing, Box}

-- the file that is written, of the table t by the placement l
unfoldable pub produced : ℕ → ℕ → List ℕ → List ℕ → List ℕ
produced m s t l = encode (direct_sharing m s (placed s l) t)

-- the refusals in the published order
abbrev pub produced_faults : ℕ → ℕ → List ℕ → List ℕ → ℕ → List (Bool × ℕ)
produced_faults m s t l room =
    -- m or s breaks a limit: 4, the number of the head's answer
    (broken m s 1, (head_answer (checked m s 1)).0) ∷
    -- the table has not 2^m bytes
    (not (eqb (length t) (2 ^ m)), number WrongLength) ∷
    -- an entry is 2^m or more
    (not (entries_below t (2 ^ m)), number EntryTooLarge) ∷
    -- one repeats
    (repeats (2 ^ m) (entry t), number BoxRepeats) ∷
    -- the placement does not load
    (not (loads s l), number BadPlacement) ∷
    -- the degree is s or more
    (leb s (degree m (entry t)), number DegreeTooHigh) ∷
    -- the file does not fit the lent output
    (ltb room (length (produced m s t l)), number OutputTooShort) ∷
    []

-- the number of the refusal, or 0
unfoldable pub produced_reason : ℕ → ℕ → List ℕ → List ℕ → ℕ → ℕ
produced_reason m s t l room = first_fault (produced_faults m s t l room) 0

-- as propositions, what 0 says: a permutation table within the limits, a placement that loads, a degree below s, a file that fits
pub record Succeeds (m s : ℕ) (t l : List ℕ) (room : ℕ) : Type 0 where
  pub box : Box m s t
  pub loads : Loads s l
  pub low : degree m (entry t) < s
  pub fits : length (produced m s t l) ≤ room

-- the answer: a refusal has length 0
abbrev pub producing : ℕ → ℕ → List ℕ → List ℕ → ℕ → Produced
producing m s t l room = writing_answer (produced_reason m s t l room) (produced m s t l)

-- the output afterwards: untouched on a refusal, else the file and then what stood past it
abbrev pub output_after : ℕ → ℕ → List ℕ → List ℕ → List ℕ → List ℕ
output_after m s t l out = writing_after (produced_reason m s t l (length out)) (produced m s t l) out

-- ---- how long the file is

-- with the coefficient words: so many terms in all lists together, s^d for each term of d variables in each output bit that has it
unfoldable pub terms_count : ℕ → ℕ → (ℕ → ℕ) → ℕ
terms_count m s words = total (2 ^ m) (λ u. s ^ ones u * ones (words u))

-- the head, S, G, the heads of m × s lists, 4 bytes a term, the end
unfoldable pub produced_length : ℕ → ℕ → (ℕ → ℕ) → ℕ
produced_length m s words = 7 + (4 + 2 ^ m) + (4 + 2 ^ m) + (4 * (m * s) + 4 * terms_count m s words) + 4

-- at most so many products in the lists of one output bit: s^d for each term of d variables, d below s
unfoldable pub products_most : ℕ → ℕ → ℕ
products_most m s = total (2 ^ m) (λ u. pick (ltb (ones u) s) (s ^ ones u) 0)

-- so no file is longer
unfoldable pub produced_most : ℕ → ℕ → ℕ
produced_most m s = 7 + (4 + 2 ^ m) + (4 + 2 ^ m) + (4 * (m * s) + 4 * (m * products_most m s)) + 4
