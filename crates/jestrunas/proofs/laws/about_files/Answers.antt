-- `jestrunas::laws::about_files`: each clause is a theorem of `Promises`.
use Rattle.jestrunas.proofs.Promises as promises
use Rattle.jestrunas.proofs.laws.about_files.Goals as goal

pub returns-clause-file_exactly : goal.returns-clause-file_exactly
returns-clause-file_exactly c = promises.file_exactly

pub returns-clause-head_answer : goal.returns-clause-head_answer
returns-clause-head_answer c = promises.head_answer_lem

pub returns-clause-reason_range : goal.returns-clause-reason_range
returns-clause-reason_range c = promises.reason_range

pub returns-clause-reading_explained : goal.returns-clause-reading_explained
returns-clause-reading_explained c = promises.reading_explained

pub returns-clause-one_meaning_one_file : goal.returns-clause-one_meaning_one_file
returns-clause-one_meaning_one_file c = promises.one_meaning_one_file

pub returns-clause-reader : goal.returns-clause-reader
returns-clause-reader c = promises.reader
