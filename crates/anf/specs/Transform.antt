-- The transform (RULES 12): the answer, and the output afterwards. The sums over subsets of a table are its coefficient words, and of coefficient
-- words they are the table: one operation goes both ways.
use Rattle.std.specs.Prelude.{ℕ, ◌^◌, not, ◌||◌, Bool, List, ◌++◌, ◌∷◌, [], eqb, ltb, length, get_or, drop}
use Rattle.reasons.specs.Numbers.{number}
use Rattle.reasons.specs.declared.Reason.TheVariants.{WrongLength, LimitBroken, EntryTooLarge, OutputTooShort}
use Rattle.finite.specs.Tests.{pick, tabulate}
use Rattle.finite.specs.Faults.{first_fault}
use Rattle.anf.specs.NormalForm.{subset_sum}
use Rattle.anf.specs.Tables.{entries_below}

-- the greatest width of a table
abbrev pub greatest_width : ℕ
greatest_width = 6

-- the refusals in the published order
abbrev pub transform_faults : ℕ → List ℕ → ℕ → List (Bool × ℕ)
transform_faults m input room =
    -- m is not 1 to the greatest width
    (ltb m 1 || ltb greatest_width m, number LimitBroken) ∷
    -- the input has not 2^m bytes
    (not (eqb (length input) (2 ^ m)), number WrongLength) ∷
    -- a word is 2^m or more
    (not (entries_below input (2 ^ m)), number EntryTooLarge) ∷
    -- the output is shorter than 2^m bytes
    (ltb room (2 ^ m), number OutputTooShort) ∷
    []

-- the number of the refusal, or 0
unfoldable pub transform_reason : ℕ → List ℕ → ℕ → ℕ
transform_reason m input room = first_fault (transform_faults m input room) 0

-- the 2^m words that are the result
abbrev pub transformed : ℕ → List ℕ → List ℕ
transformed m input = tabulate (2 ^ m) (subset_sum m (λ v. get_or input v 0))

-- The output afterwards: on success its first 2^m bytes are the result, and the rest is untouched. On a refusal all of it is untouched.
unfoldable pub transform_after : ℕ → List ℕ → List ℕ → List ℕ
transform_after m input output =
    pick (eqb (transform_reason m input (length output)) 0) (transformed m input ++ drop (2 ^ m) output) output
