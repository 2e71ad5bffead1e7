-- Sums. "Sum" means XOR.
use Rattle.std.specs.Prelude.{ℕ, zero, suc}
use Rattle.std.specs.Int.Bits.{bit_xor}

-- the sum of f 0, f 1, .. f (n - 1)
unfoldable pub xor_below : ℕ → (ℕ → ℕ) → ℕ
xor_below zero f = 0
xor_below (suc n) f = bit_xor (xor_below n f) (f n)
