use Rattle.threshold.proofs.ChainRuns.{share_used, share_unused}
use Rattle.threshold.proofs.runs.share_fits.Goals as goal

pub returns-then-j-head : goal.returns-then-j-head
returns-then-j-head c = search share_used

pub returns-else-j-head : goal.returns-else-j-head
returns-else-j-head c = search share_unused
