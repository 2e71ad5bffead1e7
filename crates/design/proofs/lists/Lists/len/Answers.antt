-- `design::Lists::len` meets its contract.
use Rattle.design.proofs.Runs.{len_is}
use Rattle.design.proofs.lists.Lists.len.Goals as goal

pub returns : goal.returns
returns c = search len_is
