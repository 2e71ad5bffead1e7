-- `names_every` meets its contract.
use Rattle.std.proofs.Common.{ℕ, Bool, ◌∙◌, refl, rules, tests, arith}
use Rattle.std.proofs.lemmas.Iterator.{YieldsList-from_range}
use Rattle.std.proofs.lemmas.Iterator.Search.{all_from_yields_List}
use Rattle.anf.specs.Terms.{named}
use Rattle.sharing.specs.Inside.Variables.{variables, names_every}
use Rattle.finite.proofs.Lists.{all_range}
use Rattle.checker.proofs.stages.names_every.Goals as goal

pub returns : goal.returns
unfolding names_every
returns c =
    let s = c.args.head.s in
    let p : ℕ → Bool = λ j. named (variables c.args.head.m j) c.args.set in
    all_from_yields_List p _ _ _ c.all.ensures.ran (YieldsList-from_range 0 s s refl (omega arith)) (λ j b q k. (search rules, search (rules, tests)))
    ∙ all_range s p
