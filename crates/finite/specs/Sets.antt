-- Sets that are numbers: element i is bit i.
use Rattle.std.specs.Prelude.{ℕ, ◌/◌, ◌%◌, ◌^◌, Bool, eqb}
use Rattle.std.specs.Int.Bits.{bit_and}

-- the set x has the element i: bit i of x is 1
unfoldable pub has : ℕ → ℕ → Bool
has x i = eqb (x / 2 ^ i % 2) 1

-- the set v is a subset of the set u
unfoldable pub subset : ℕ → ℕ → Bool
subset v u = eqb (bit_and v u) v
