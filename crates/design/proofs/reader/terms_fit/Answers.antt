use Rattle.std.proofs.Common.{◌∙◌}
use Rattle.design.proofs.Faults.{none_passed, all_passed, term_more}
use Rattle.design.proofs.reader.terms_fit.Goals as goal

pub loop-t-init : goal.loop-t-init
loop-t-init c = rw c.into_iter-t-iterator.ensures.into_iter_gives (none_passed _ _ _ (c.iter-t-items.ensures ∙ c.new.ensures.value))

pub loop-t-preserved : goal.loop-t-preserved
loop-t-preserved c = let e = c.in-Some.ensures.steps in search term_more

pub returns : goal.returns
returns c = let e = c.in-None.ensures.steps in search all_passed
