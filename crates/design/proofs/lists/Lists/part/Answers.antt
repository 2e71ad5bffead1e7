-- `design::Lists::part` meets its contract: a part of a run is a run.
use Rattle.design.proofs.Runs.{end_fits, behind_fits, from_fits, part_within, part_stands, part_lists, part_bodies}
use Rattle.design.proofs.lists.Lists.part.Goals as goal

pub overflow_add-result : goal.overflow_add-result
overflow_add-result c = search end_fits

pub overflow_add-result-2 : goal.overflow_add-result-2
overflow_add-result-2 c = search behind_fits

pub offset_bounds-self-from : goal.offset_bounds-self-from
offset_bounds-self-from c = search from_fits

pub slice_bounds-result-end : goal.slice_bounds-result-end
slice_bounds-result-end c = search part_within

pub invariant_of-result : goal.invariant_of-result
invariant_of-result c = record { stands = search part_stands }

pub returns : goal.returns
returns c = search (part_lists, part_bodies)
