-- `jestrunas::jestrunas_judge` meets its contract: each clause from its theorem, as the answer is that of the definition.
use Rattle.std.proofs.Common.{ap, ◌∙◌}
use Rattle.jestrunas.specs.Published.{c_judged}
use Rattle.jestrunas.proofs.Clauses as clauses
use Rattle.jestrunas.proofs.jestrunas_judge.Goals as goal

pub returns-clause-accepted : goal.returns-clause-accepted
returns-clause-accepted c = clauses.judge_accepted _ _ _ (c.from.ensures ∙ ap c_judged c.judge.ensures.value)

pub returns-clause-explained : goal.returns-clause-explained
returns-clause-explained c = clauses.judge_explained _ _ _ (c.from.ensures ∙ ap c_judged c.judge.ensures.value)

pub returns-clause-assured : goal.returns-clause-assured
returns-clause-assured c = clauses.judge_assured _ _ _ (c.from.ensures ∙ ap c_judged c.judge.ensures.value)

pub returns-clause-foreseen : goal.returns-clause-foreseen
returns-clause-foreseen c = clauses.judge_foreseen _ _ _ (c.from.ensures ∙ ap c_judged c.judge.ensures.value)

pub returns-clause-untouched : goal.returns-clause-untouched
returns-clause-untouched c = clauses.judge_untouched _ _ _ (c.from.ensures ∙ ap c_judged c.judge.ensures.value) _ c.judge.ensures.workspace_after

pub returns-clause-zeroed : goal.returns-clause-zeroed
returns-clause-zeroed c = clauses.judge_zeroed _ _ _ (c.from.ensures ∙ ap c_judged c.judge.ensures.value) _ c.judge.ensures.workspace_after
