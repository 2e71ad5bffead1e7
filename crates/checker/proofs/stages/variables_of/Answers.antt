-- `variables_of` meets its contract: the shift loses no bit.
use Rattle.checker.proofs.EveryShare.{place_below_32, place_fits_32, place_fits_64, variables_shifted}
use Rattle.design.proofs.Heading.{width_high}
use Rattle.checker.proofs.stages.variables_of.Goals as goal

pub share_mask-requires : goal.share_mask-requires
share_mask-requires c = search width_high

pub overflow_mul-result : goal.overflow_mul-result
overflow_mul-result c = search place_fits_64

pub overflow_cast-result : goal.overflow_cast-result
overflow_cast-result c = search place_fits_32

pub overflow_shl-result : goal.overflow_shl-result
overflow_shl-result c = search place_below_32

pub returns : goal.returns
returns c = search variables_shifted
