-- Sharings (RULES 1.5, 1.6). A sharing of width w in s shares is a number below 2^(w × s); share 0 is its lowest w bits, share 1 the next. In answers
-- shares and components are counted from 1.
use Rattle.std.specs.Prelude.{ℕ, ◌+◌, ◌*◌, ◌/◌, ◌%◌, ◌^◌, List, get_or}
use Rattle.finite.specs.Tests.{total}
use Rattle.finite.specs.Sums.{xor_below}

-- share j
unfoldable pub share : ℕ → ℕ → ℕ → ℕ
share w j σ = σ / 2 ^ (w * j) % 2 ^ w

-- the value that is shared: the sum of the s shares
unfoldable pub sum : ℕ → ℕ → ℕ → ℕ
sum w s σ = xor_below s (λ j. share w j σ)

-- The setting without share j: the values of all the others. Share j is taken out, and those above it move down.
unfoldable pub setting : ℕ → ℕ → ℕ → ℕ
setting w j σ = σ / 2 ^ (w * j) / 2 ^ w * 2 ^ (w * j) + σ % 2 ^ (w * j)

-- the sharing with this setting of the others and with v for share j
unfoldable pub put_share : ℕ → ℕ → ℕ → ℕ → ℕ
put_share w j v q = (q / 2 ^ (w * j) * 2 ^ w + v) * 2 ^ (w * j) + q % 2 ^ (w * j)

-- the sharing with share j changed to v, and no other
abbrev pub with_share : ℕ → ℕ → ℕ → ℕ → ℕ
with_share w j v σ = put_share w j v (setting w j σ)

-- the sharing whose s shares are the first elements of l
unfoldable pub packed : ℕ → ℕ → List ℕ → ℕ
packed w s l = total s (λ j. get_or l j 0 * 2 ^ (w * j))
