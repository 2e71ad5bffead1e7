-- `value_of` meets its contract. The invariant: the value so far, with that of the terms that are left, is the value of all.
use Rattle.std.proofs.Common.{◌≡◌}
use Rattle.std.specs.Int.Bits.{bit_xor}
use Rattle.anf.specs.Terms.{value_at}
use Rattle.records.specs.Inside.Terms.{terms_of, left}
use Rattle.threshold.proofs.engine.value_of.Given as goal

abbrev pub invariant-loop-term : goal.invariant-loop-term
invariant-loop-term l = bit_xor l.value (value_at (left l.term-iterator) l.x) ≡ value_at (terms_of l.list) l.x
