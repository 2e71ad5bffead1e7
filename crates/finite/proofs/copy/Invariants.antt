-- `copy`: the bytes passed are written, and what follows is untouched.
use Rattle.finite.proofs.Copying.{CopiedTo}
use Rattle.finite.proofs.copy.Given as goal

abbrev pub invariant-loop-i : goal.invariant-loop-i
invariant-loop-i l = CopiedTo l.bytes l.initial.out l.out l.i
