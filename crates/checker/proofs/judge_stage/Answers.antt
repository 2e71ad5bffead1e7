-- `judge_stage` meets its contract: each way out is a law of `JudgingStages`, whose premises `search` finds among what is known there.
use Rattle.checker.proofs.JudgingStages.{answer_wrong, component_fits, answer_reads, both_fit, answer_twice, answer_fine}
use Rattle.checker.proofs.Passes.{below}
use Rattle.checker.proofs.judge_stage.Goals as goal

pub tries-once-requires : goal.tries-once-requires
tries-once-requires c = search below

pub returns-then-is_some-clause-value : goal.returns-then-is_some-clause-value
returns-then-is_some-clause-value c = search answer_wrong

pub overflow_add-result-in-Some-2 : goal.overflow_add-result-in-Some-2
overflow_add-result-in-Some-2 c = search component_fits

pub returns-in-Some-clause-value : goal.returns-in-Some-clause-value
returns-in-Some-clause-value c = search answer_reads

pub tries-requires : goal.tries-requires
tries-requires c = search below

pub overflow_add-both : goal.overflow_add-both
overflow_add-both c = search both_fit

pub returns-then-is_some-2-clause-value : goal.returns-then-is_some-2-clause-value
returns-then-is_some-2-clause-value c = search answer_twice

pub returns-clause-value : goal.returns-clause-value
returns-clause-value c = search answer_fine
