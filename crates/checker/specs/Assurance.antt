-- The assurance: what follows where the verdict on a file has reason 0 (RULES 6.8 to 6.11). It counts over the definitions of sharings, stages and
-- runs.
use Rattle.std.specs.Prelude.{ℕ, ◌-◌, ◌*◌, ◌^◌, ◌<◌, ◌≡◌, Bool, true, List, eqb, length}
use Rattle.anf.specs.Tables.{entry}
use Rattle.design.specs.Limits.{greatest_shares}
use Rattle.records.specs.Design.{Design, stage_of}
use Rattle.design.specs.Reading.{means, reading}
use Rattle.sharing.specs.Sharing.{sum, setting}
use Rattle.sharing.specs.Stages.{component}
use Rattle.sharing.specs.Chain.{handed, times_passed, meetings, read_meetings}
use Rattle.threshold.specs.Running.{shares_fit, five_sum, as_number, as_bytes, output_shares, running}
use Rattle.checker.specs.Accepted.{IgnoresSomeAt}

-- five bytes are a sharing of x: used shares are below 2^m, unused ones zero, and they sum to x
pub record SharingOf (d : Design) (x : ℕ) (l : List ℕ) : Type 0 where
  pub five : length l ≡ greatest_shares
  pub fit : shares_fit d.m d.s l ≡ true
  pub sums : five_sum l ≡ x

-- The sharings that are counted are those that are run. Each sharing of x as five bytes is one number below 2^(m × s) that shares x, and the other way
-- round; and a run on the bytes of a number answers 0 and the bytes of what the last stage makes of that number.
pub record OneSharing (f : List ℕ) (d : Design) : Type 0 where
  pub number : (x : ℕ) (l : List ℕ) → SharingOf d x l
      → (as_number d l < 2 ^ (d.m * d.s)) × (sum d.m d.s (as_number d l) ≡ x) × (as_bytes d (as_number d l) ≡ l)
  pub bytes : (σ : ℕ) → σ < 2 ^ (d.m * d.s) → SharingOf d (sum d.m d.s σ) (as_bytes d σ) × (as_number d (as_bytes d σ) ≡ σ)
  pub run : (σ : ℕ) → σ < 2 ^ (d.m * d.s) → running f (as_bytes d σ) ≡ record { reason = 0; shares = as_bytes d (handed d.stages d.k σ) }

-- Of a design, in a file or not: every component j of every stage i ignores at least one share, and for every secret x below 2^m:
--   whichever share e is left out, and so for each share that a component ignores, the meetings of every setting q of the other s - 1 are exactly 1;
--   what component j of stage i reads of any sharing q, the values of the shares on which it depends, is met as often as for every other secret y.
pub record AssuredDesign (d : Design) : Type 0 where
  pub ignores : (i j : ℕ) → i < d.k → j < d.s → IgnoresSomeAt d i j
  pub met : (x : ℕ) → x < 2 ^ d.m → (i e q : ℕ) → i < d.k → e < d.s → q < 2 ^ (d.m * (d.s - 1)) → meetings d.m d.s d.stages x i e q ≡ 1
  pub equally : (x y : ℕ) → x < 2 ^ d.m → y < 2 ^ d.m → (i j q : ℕ) → i < d.k → j < d.s
      → read_meetings d.m d.s d.stages x i j q ≡ read_meetings d.m d.s d.stages y i j q

-- The file f reads as d, which has that assurance; and running f on any sharing of a secret x answers 0 and the output shares of the last stage, which sum
-- to S(x). The meetings count sharings that are numbers and a run takes five bytes: these are the same sharings.
pub record Assured (f : List ℕ) (d : Design) : Type 0 where
  pub reads : reading f ≡ means d
  pub design : AssuredDesign d
  pub runs : (x : ℕ) → x < 2 ^ d.m → (l : List ℕ) → SharingOf d x l
      → (running f l ≡ record { reason = 0; shares = output_shares d l }) × (five_sum (output_shares d l) ≡ entry d.box x)
  pub same : OneSharing f d

-- What follows of it: no test of a setting, whichever share e is left out, tells one secret from another, and nor does the value that a component gives.
pub record Blind (d : Design) : Type 0 where
  pub settings : (x y i e : ℕ) → x < 2 ^ d.m → y < 2 ^ d.m → i < d.k → e < d.s → (p : ℕ → Bool)
      → times_passed d.m d.s d.stages x i (λ τ. p (setting d.m e τ)) ≡ times_passed d.m d.s d.stages y i (λ τ. p (setting d.m e τ))
  pub values : (x y i j z : ℕ) → x < 2 ^ d.m → y < 2 ^ d.m → i < d.k → j < d.s
      → times_passed d.m d.s d.stages x i (λ τ. eqb (component d.m (stage_of d i).lists j τ) z)
      ≡ times_passed d.m d.s d.stages y i (λ τ. eqb (component d.m (stage_of d i).lists j τ) z)
