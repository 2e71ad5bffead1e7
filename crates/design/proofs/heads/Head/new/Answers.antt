-- `design::Head::new` meets its contract: each way out is a law of `Heading`.
use Rattle.design.proofs.Heading.{no_width, too_wide, few_shares, many_shares, share_bits_fit, many_bits, no_stage, many_stages, within}
use Rattle.design.proofs.Limits.{unbroken}
use Rattle.design.proofs.heads.Head.new.Goals as goal
use Rattle.design.proofs.heads.Head.new.Goals.{then-m-lt1-via-then-m-lt1, then-m-lt1-via-else-m-lt1+then-m-gt-GREATEST_WIDTH}
use Rattle.design.proofs.heads.Head.new.Goals.{then-s-lt-LEAST_SHARES-via-then-s-lt-LEAST_SHARES, then-s-lt-LEAST_SHARES-via-else-s-lt-LEAST_SHARES+then-s-gt-GREATEST_SHARES}
use Rattle.design.proofs.heads.Head.new.Goals.{then-k-lt1-via-then-k-lt1, then-k-lt1-via-else-k-lt1+then-k-gt-GREATEST_STAGES}

pub returns-then-m-lt1 : goal.returns-then-m-lt1
returns-then-m-lt1 c = elim c.then-m-lt1.branch [
  | then-m-lt1-via-then-m-lt1 w ↦ search no_width
  | then-m-lt1-via-else-m-lt1+then-m-gt-GREATEST_WIDTH w ↦ search too_wide
]

pub returns-then-s-lt-LEAST_SHARES : goal.returns-then-s-lt-LEAST_SHARES
returns-then-s-lt-LEAST_SHARES c = elim c.then-s-lt-LEAST_SHARES.branch [
  | then-s-lt-LEAST_SHARES-via-then-s-lt-LEAST_SHARES w ↦ search few_shares
  | then-s-lt-LEAST_SHARES-via-else-s-lt-LEAST_SHARES+then-s-gt-GREATEST_SHARES w ↦ search many_shares
]

pub returns-then-m-s-gt-GREATEST_SHARE_BITS : goal.returns-then-m-s-gt-GREATEST_SHARE_BITS
returns-then-m-s-gt-GREATEST_SHARE_BITS c = search many_bits

pub returns-then-k-lt1 : goal.returns-then-k-lt1
returns-then-k-lt1 c = elim c.then-k-lt1.branch [
  | then-k-lt1-via-then-k-lt1 w ↦ search no_stage
  | then-k-lt1-via-else-k-lt1+then-k-gt-GREATEST_STAGES w ↦ search many_stages
]

pub invariant_of-result : goal.invariant_of-result
invariant_of-result c = record { limits = search unbroken }

pub overflow_mul-m : goal.overflow_mul-m
overflow_mul-m c = search share_bits_fit

pub returns : goal.returns
returns c = search within
