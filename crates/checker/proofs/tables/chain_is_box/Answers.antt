-- `chain_is_box` meets its contract.
use Rattle.std.proofs.Common.{ℕ, Bool, ◌∙◌, refl, rules, tests, arith, eqb}
use Rattle.std.proofs.lemmas.Iterator.{YieldsList-from_range}
use Rattle.std.proofs.lemmas.Iterator.Search.{all_from_yields_List}
use Rattle.anf.specs.Tables.{entry}
use Rattle.design.specs.Inside.Held.{design_of}
use Rattle.sharing.specs.Chain.{chained}
use Rattle.finite.proofs.Lists.{all_range}
use Rattle.checker.proofs.Chaining.{every_entry}
use Rattle.checker.proofs.tables.chain_is_box.Goals as goal

pub returns : goal.returns
returns c =
    let n = c.points.result in
    let d = design_of c.args.design.now in
    let p : ℕ → Bool = λ x. eqb (chained d.stages x) (entry d.box x) in
    all_from_yields_List p _ _ _ c.all.ensures.ran (YieldsList-from_range 0 n n refl (omega arith)) (λ j b q k. (search rules, search (rules, tests)))
    ∙ all_range n p
    ∙ every_entry d n (search rules)
