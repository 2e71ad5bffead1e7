-- `jestrunas::laws::about_joins`: each clause is a theorem of `Promises`.
use Rattle.jestrunas.proofs.Promises as promises
use Rattle.jestrunas.proofs.laws.about_joins.Goals as goal

pub returns-clause-joined_reads : goal.returns-clause-joined_reads
returns-clause-joined_reads c = promises.joined_reads

pub returns-clause-joined_box : goal.returns-clause-joined_box
returns-clause-joined_box c = promises.joined_box

pub returns-clause-joined_accepted : goal.returns-clause-joined_accepted
returns-clause-joined_accepted c = promises.joined_accepted

pub returns-clause-joined_runs : goal.returns-clause-joined_runs
returns-clause-joined_runs c = promises.joined_runs

pub returns-clause-joined_length : goal.returns-clause-joined_length
returns-clause-joined_length c = promises.joined_length

pub returns-clause-joined_room : goal.returns-clause-joined_room
returns-clause-joined_room c = promises.joined_room

pub returns-clause-joined_explained : goal.returns-clause-joined_explained
returns-clause-joined_explained c = promises.joined_explained
