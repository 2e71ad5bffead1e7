-- `design::Lists::list` meets its contract: a list's body ends four bytes before the next one starts.
use Rattle.std.proofs.Common.{rules}
use Rattle.design.proofs.Runs.{index_fits, next_fits, next_number, index_there, next_there, head_before, body_ordered, list_held}
use Rattle.design.proofs.lists.Lists.list.Goals as goal

pub offset_bounds-self-i : goal.offset_bounds-self-i
offset_bounds-self-i c = search index_fits

pub bounds-self-i : goal.bounds-self-i
bounds-self-i c = search index_there

pub overflow_add-body : goal.overflow_add-body
overflow_add-body c = search next_number

pub offset_bounds-self-i-2 : goal.offset_bounds-self-i-2
offset_bounds-self-i-2 c = search next_fits

pub bounds-self-i-2 : goal.bounds-self-i-2
bounds-self-i-2 c = search next_there

pub overflow_sub-body : goal.overflow_sub-body
overflow_sub-body c = search head_before

pub slice_bounds-body-count : goal.slice_bounds-body-count
slice_bounds-body-count c = search body_ordered

pub slice_bounds-body-start : goal.slice_bounds-body-start
slice_bounds-body-start c = search body_ordered

pub returns-clause-bytes : goal.returns-clause-bytes
returns-clause-bytes c = search rules

pub returns-clause-value : goal.returns-clause-value
returns-clause-value c = search list_held
