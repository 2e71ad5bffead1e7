-- Running a chain on five shares, the greatest number of them: bytes that travel together, unused ones zero (RULES 8).
use Rattle.std.specs.Prelude.{ℕ, ◌^◌, Bool, List, eqb, ltb, get_or, replicate}
use Rattle.reasons.specs.Numbers.{number}
use Rattle.reasons.specs.declared.Reason.TheVariants.{BadShare}
use Rattle.finite.specs.Tests.{pick, all, tabulate}
use Rattle.finite.specs.Sums.{xor_below}
use Rattle.design.specs.Limits.{greatest_shares}
use Rattle.records.specs.Design.{Design}
use Rattle.design.specs.Reading.{Reading, refused, means, reading}
use Rattle.sharing.specs.Sharing.{share, packed}
use Rattle.sharing.specs.Chain.{handed}

-- the five bytes of a sharing: its s shares, then zeros
unfoldable pub unpacked : ℕ → ℕ → ℕ → List ℕ
unpacked w s σ = tabulate greatest_shares (λ j. pick (ltb j s) (share w j σ) 0)

-- a run takes v as share j: a used share is below 2^w, and a share after s is 0
unfoldable pub share_fits : ℕ → ℕ → ℕ → ℕ → Bool
share_fits w s j v = pick (ltb j s) (ltb v (2 ^ w)) (eqb v 0)

unfoldable pub shares_fit : ℕ → ℕ → List ℕ → Bool
shares_fit w s l = all greatest_shares (λ j. share_fits w s j (get_or l j 0))

-- the sum of five shares
abbrev pub five_sum : List ℕ → ℕ
five_sum l = xor_below greatest_shares (λ j. get_or l j 0)

abbrev pub five_zeros : List ℕ
five_zeros = replicate greatest_shares 0

-- what a run answers: the number of a refusal, or 0, and five shares
pub record Ran : Type 0 where
  pub reason : ℕ
  pub shares : List ℕ

-- a refusal answers its number and five zeros
abbrev pub refused_run : ℕ → Ran
refused_run r = record { reason = r; shares = five_zeros }

-- the sharing of a design that five bytes are, and the five bytes of a sharing
abbrev pub as_number : Design → List ℕ → ℕ
as_number d l = packed d.m d.s l

abbrev pub as_bytes : Design → ℕ → List ℕ
as_bytes d σ = unpacked d.m d.s σ

-- the output shares that the last stage gives when the shares l are sent through, unused ones zero
abbrev pub output_shares : Design → List ℕ → List ℕ
output_shares d l = as_bytes d (handed d.stages d.k (as_number d l))

-- success answers 0 and the output shares
abbrev pub finished_run : Design → List ℕ → Ran
finished_run d l = record { reason = 0; shares = output_shares d l }

-- first the refusals of reading, then 15
unfoldable pub running_on : Reading → List ℕ → Ran
running_on (refused r place) l = refused_run r
running_on (means d) l = pick (shares_fit d.m d.s l) (finished_run d l) (refused_run (number BadShare))

-- the answer of running the chain of a file on five shares
unfoldable pub running : List ℕ → List ℕ → Ran
running file l = running_on (reading file) l
