-- `design::DesignFile::lists` meets its contract: the lists of a stage are a run.
use Rattle.design.proofs.Heading.{bits_some}
use Rattle.design.proofs.Runs.{stage_within, stage_stands, stage_lists, stage_lists_many, stage_bodies}
use Rattle.design.proofs.files.DesignFile.lists.Goals as goal

pub number-first-requires : goal.number-first-requires
number-first-requires c = search bits_some

pub slice_bounds-result-end : goal.slice_bounds-result-end
slice_bounds-result-end c = search stage_within

pub invariant_of-result : goal.invariant_of-result
invariant_of-result c = record { stands = search stage_stands }

pub returns : goal.returns
returns c = search (stage_lists, stage_lists_many, stage_bodies)
