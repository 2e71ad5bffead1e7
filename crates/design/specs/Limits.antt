-- The limits (RULES 3): those of m, s and k, which are fixed with the head and belong to it, and that of a list.
use Rattle.std.specs.Prelude.{ℕ, ◌+◌, ◌*◌, ◌^◌, ◌≡◌, Bool, false, ◌||◌, List, [], ◌∷◌, ltb, Result, Ok, Err}
use Rattle.finite.specs.Tests.{pick}
use Rattle.anf.specs.Transform as transform
use Rattle.reasons.specs.Numbers.{number}
use Rattle.reasons.specs.declared.Reason.{Reason}
use Rattle.reasons.specs.declared.Reason.TheVariants.{LimitBroken}

abbrev pub greatest_width : ℕ
greatest_width = transform.greatest_width

abbrev pub least_shares : ℕ
least_shares = 3

abbrev pub greatest_shares : ℕ
greatest_shares = 5

abbrev pub greatest_share_bits : ℕ
greatest_share_bits = 20

abbrev pub greatest_stages : ℕ
greatest_stages = 4

-- what follows: the greatest number of entries of a table
abbrev pub greatest_points : ℕ
greatest_points = 2 ^ greatest_width

-- the greatest number of terms of a list
abbrev pub greatest_terms : ℕ
greatest_terms = 4096

-- what follows: the greatest number of records of a file, the head, the box, a table and a list for each share bit in each stage, the end
abbrev pub greatest_records : ℕ
greatest_records = 3 + greatest_stages * (1 + greatest_share_bits)

-- the head's three numbers: m bits, s shares, k stages
pub record Head : Type 0 where
  pub m : ℕ
  pub s : ℕ
  pub k : ℕ

-- whether a head number breaks a limit
unfoldable pub broken : ℕ → ℕ → ℕ → Bool
broken m s k =
    ltb m 1 || ltb greatest_width m || ltb s least_shares || ltb greatest_shares s || ltb greatest_share_bits (m * s) || ltb k 1 || ltb greatest_stages k

-- none of them does
abbrev pub WithinLimits : ℕ → ℕ → ℕ → Type 0
WithinLimits m s k = broken m s k ≡ false

-- the answer of the head's constructor
abbrev pub checked : ℕ → ℕ → ℕ → Result Head Reason
checked m s k = pick (broken m s k) (Err LimitBroken) (Ok (record { m = m; s = s; k = k }))

-- the number and the values of each of its cases: 4 where a head number breaks a limit
abbrev pub head_answer : Result Head Reason → ℕ × List ℕ
head_answer (Ok h) = (0, h.m ∷ h.s ∷ h.k ∷ [])
head_answer (Err r) = (number r, [])
