use Rattle.design.proofs.Limits.{bits_fit}
use Rattle.producer.proofs.DirectFiles.{component_within, short_list, no_list, list_room, lists_more, lists_all}
use Rattle.producer.proofs.file.DirectFile.put_lists.Goals as goal

pub overflow_mul-i-end : goal.overflow_mul-i-end
overflow_mul-i-end c = search bits_fit

pub loop-i-init : goal.loop-i-init
loop-i-init c = search no_list

pub list-requires-clause-room : goal.list-requires-clause-room
list-requires-clause-room c = search list_room

pub list-requires-clause-short : goal.list-requires-clause-short
list-requires-clause-short c = search short_list

pub loop-i-preserved : goal.loop-i-preserved
loop-i-preserved c = search lists_more

pub returns : goal.returns
returns c = search lists_all

pub gather-requires-clause-component : goal.gather-requires-clause-component
gather-requires-clause-component c = search component_within
