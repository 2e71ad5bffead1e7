-- `add_terms`: what the terms that are left add to the words gives what all add to those of the start.
use Rattle.std.proofs.Common.{◌≡◌}
use Rattle.records.specs.Inside.Terms.{terms_of, left}
use Rattle.threshold.specs.Inside.Blocks.{terms_added}
use Rattle.threshold.proofs.blocks.add_terms.Given as goal

abbrev pub invariant-loop-term : goal.invariant-loop-term
invariant-loop-term l = terms_added l.high l.p (left l.term-iterator) l.words ≡ terms_added l.high l.p (terms_of l.list) l.initial.words
