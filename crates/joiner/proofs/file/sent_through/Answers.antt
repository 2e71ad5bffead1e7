use Rattle.joiner.proofs.JoinedFile.{none_sent, all_sent}
use Rattle.joiner.proofs.file.sent_through.Goals as goal

pub loop-x-init : goal.loop-x-init
loop-x-init c = search none_sent

pub returns : goal.returns
returns c = search all_sent
