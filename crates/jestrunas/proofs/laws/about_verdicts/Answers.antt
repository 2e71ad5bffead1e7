-- `jestrunas::laws::about_verdicts`: each clause is a theorem of `Promises`.
use Rattle.jestrunas.proofs.Promises as promises
use Rattle.jestrunas.proofs.laws.about_verdicts.Goals as goal

pub returns-clause-accepted_exactly : goal.returns-clause-accepted_exactly
returns-clause-accepted_exactly c = promises.accepted_exactly

pub returns-clause-verdict_explained : goal.returns-clause-verdict_explained
returns-clause-verdict_explained c = promises.verdict_explained

pub returns-clause-chain_permutes : goal.returns-clause-chain_permutes
returns-clause-chain_permutes c = promises.chain_permutes

pub returns-clause-eleven_retired : goal.returns-clause-eleven_retired
returns-clause-eleven_retired c = promises.eleven_retired

pub returns-clause-eleven_not_given : goal.returns-clause-eleven_not_given
returns-clause-eleven_not_given c = promises.eleven_not_given

pub returns-clause-trials_accepted : goal.returns-clause-trials_accepted
returns-clause-trials_accepted c = promises.trials_accepted

pub returns-clause-trials_none : goal.returns-clause-trials_none
returns-clause-trials_none c = promises.trials_none

pub returns-clause-trials_outcome : goal.returns-clause-trials_outcome
returns-clause-trials_outcome c = promises.trials_outcome

pub returns-clause-sound_assured : goal.returns-clause-sound_assured
returns-clause-sound_assured c = promises.sound_assured

pub returns-clause-run_explained : goal.returns-clause-run_explained
returns-clause-run_explained c = promises.run_explained
