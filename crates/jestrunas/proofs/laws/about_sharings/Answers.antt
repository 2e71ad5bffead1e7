-- `jestrunas::laws::about_sharings`: each clause is a theorem of `Promises`.
use Rattle.jestrunas.proofs.Promises as promises
use Rattle.jestrunas.proofs.laws.about_sharings.Goals as goal

pub returns-clause-depends_exactly : goal.returns-clause-depends_exactly
returns-clause-depends_exactly c = promises.depends_exactly

pub returns-clause-uniform_counted : goal.returns-clause-uniform_counted
returns-clause-uniform_counted c = promises.uniform_counted

pub returns-clause-products : goal.returns-clause-products
returns-clause-products c = promises.products

pub returns-clause-shareable_exactly : goal.returns-clause-shareable_exactly
returns-clause-shareable_exactly c = promises.shareable_exactly
