-- `agrees`: the limits of the head bound the width.
use Rattle.design.proofs.Heading.{width_high}
use Rattle.checker.proofs.stages.agrees.Goals as goal

pub sum_of-secret-requires : goal.sum_of-secret-requires
sum_of-secret-requires c = search width_high

pub sum_of-requires : goal.sum_of-requires
sum_of-requires c = search width_high
