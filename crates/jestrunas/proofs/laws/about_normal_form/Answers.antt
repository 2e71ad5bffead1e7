-- `jestrunas::laws::about_normal_form`: each clause is a theorem of `Promises`.
use Rattle.jestrunas.proofs.Promises as promises
use Rattle.jestrunas.proofs.laws.about_normal_form.Goals as goal

pub returns-clause-transform : goal.returns-clause-transform
returns-clause-transform c = promises.transform

pub returns-clause-transform_twice : goal.returns-clause-transform_twice
returns-clause-transform_twice c = promises.transform_twice

pub returns-clause-unique_lists : goal.returns-clause-unique_lists
returns-clause-unique_lists c = promises.unique_lists

pub returns-clause-dependence : goal.returns-clause-dependence
returns-clause-dependence c = promises.dependence

pub returns-clause-degree_limit : goal.returns-clause-degree_limit
returns-clause-degree_limit c = promises.degree_limit

pub returns-clause-transform_explained : goal.returns-clause-transform_explained
returns-clause-transform_explained c = promises.transform_explained
