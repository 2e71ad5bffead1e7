-- `sum_of`: what is summed so far, with the sum of the shares that are left, is the sum of all.
use Rattle.std.proofs.Common.{◌≡◌, ◌-◌, ◌^◌}
use lib.Bits.{bit_and, bit_xor}
use Rattle.sharing.specs.Sharing.{sum}
use Rattle.threshold.proofs.engine.sum_of.Given as goal

abbrev pub invariant-loop : goal.invariant-loop
invariant-loop l = bit_xor (bit_and l.total (2 ^ l.m - 1)) (sum l.m (l.s - l.counter) l.rest) ≡ sum l.m l.s l.x
