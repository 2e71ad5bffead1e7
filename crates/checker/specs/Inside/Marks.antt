-- Marks, by which the checker finds uniformity: one bit for each sharing, eight to a byte, lowest first.
use Rattle.std.specs.Prelude.{ℕ, ◌/◌, ◌%◌, ◌^◌, ◌<◌, ◌≤◌, ◌≡◌, List, Bool, false, length, get_or, set}
use Rattle.std.specs.Int.Bits.{bit_or}
use Rattle.finite.specs.Sets.{has}
use Rattle.records.specs.Design.{Design}
use Rattle.checker.specs.Verdict.{workspace_for, zeroed}

-- y is marked
unfoldable pub marked : List ℕ → ℕ → Bool
marked l y = has (get_or l (y / 8) 0) (y % 8)

-- the marks with y marked too
unfoldable pub mark : List ℕ → ℕ → List ℕ
mark l y = set l (y / 8) (bit_or (get_or l (y / 8) 0) (2 ^ (y % 8)))

-- no number below n is marked
abbrev pub Clear : ℕ → List ℕ → Type 0
Clear n l = (y : ℕ) → y < n → marked l y ≡ false

-- a workspace with room for a mark of each sharing of a design, all of them zero
abbrev pub Cleared : Design → List ℕ → Type 0
Cleared d ws = (workspace_for d.m d.s ≤ length ws) × (zeroed (workspace_for d.m d.s) ws ≡ ws)
