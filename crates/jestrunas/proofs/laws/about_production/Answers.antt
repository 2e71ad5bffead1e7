-- `jestrunas::laws::about_production`: each clause is a theorem of `Promises`.
use Rattle.jestrunas.proofs.Promises as promises
use Rattle.jestrunas.proofs.laws.about_production.Goals as goal

pub returns-clause-produced_reads : goal.returns-clause-produced_reads
returns-clause-produced_reads c = promises.produced_reads

pub returns-clause-produced_usual : goal.returns-clause-produced_usual
returns-clause-produced_usual c = promises.produced_usual

pub returns-clause-produced_judged : goal.returns-clause-produced_judged
returns-clause-produced_judged c = promises.produced_judged

pub returns-clause-placement_exactly : goal.returns-clause-placement_exactly
returns-clause-placement_exactly c = promises.placement_exactly

pub returns-clause-old_placement : goal.returns-clause-old_placement
returns-clause-old_placement c = promises.old_placement

pub returns-clause-produced_size : goal.returns-clause-produced_size
returns-clause-produced_size c = promises.produced_size

pub returns-clause-produced_most : goal.returns-clause-produced_most
returns-clause-produced_most c = promises.produced_most_lem

pub returns-clause-most_met : goal.returns-clause-most_met
returns-clause-most_met c = promises.most_met

pub returns-clause-output_enough : goal.returns-clause-output_enough
returns-clause-output_enough c = promises.output_enough

pub returns-clause-product_xy : goal.returns-clause-product_xy
returns-clause-product_xy c = promises.product_xy

pub returns-clause-published_three : goal.returns-clause-published_three
returns-clause-published_three c = promises.published_three

pub returns-clause-published_four : goal.returns-clause-published_four
returns-clause-published_four c = promises.published_four

pub returns-clause-published_five : goal.returns-clause-published_five
returns-clause-published_five c = promises.published_five

pub returns-clause-produced_explained : goal.returns-clause-produced_explained
returns-clause-produced_explained c = promises.produced_explained
