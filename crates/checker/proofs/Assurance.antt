-- From the verdict's reason 0 alone: every component ignores a share, every setting of all shares but one is met exactly once at every stage whatever the
-- secret, what a component reads is met equally often, every run answers what the definitions give, and the output shares sum to S of the secret.
-- Each accepted stage spreads the sharings of a secret equally, and so does their chain. Assumes nothing.
use mathlib.Core.Path.{◌≡◌, sym, ap, ◌∙◌}
use mathlib.Core.List.{List}
use Prim.Native.Nat.{ℕ, ◌^◌, ◌<◌, ◌≤◌}
use native.Mathlib.Omega.{arith}
use lib.ListN.{length}
use Rattle.design.specs.Limits.{greatest_shares}
use Rattle.anf.specs.Tables.{entry}
use Rattle.records.specs.Design.{Design, stage_of}
use Rattle.design.specs.WellFormed.{WellFormed}
use Rattle.design.specs.Reading.{means, reading}
use Rattle.design.proofs.Limits.{bounds}
use Rattle.design.proofs.Theorems.{read_formed}
use Rattle.sharing.specs.Sharing.{sum}
use Rattle.sharing.specs.Stages.{component}
use Rattle.sharing.specs.Chain.{handed, chained}
use Rattle.sharing.specs.Sharing.{packed}
use Rattle.threshold.specs.Running.{five_sum, output_shares, running}
use Rattle.sharing.proofs.Meetings.{AllSpread, stage_spreads, met_once, outcome, setting_independent, value_independent, reads_equally}
use Rattle.threshold.proofs.Packing.{share_fits_lem, packed_sum, packed_unpacked, unpacked_packed, unpacked_length, unpacked_fits, unpacked_sum}
use Rattle.sharing.proofs.Packing.{packed_lt}
use Rattle.threshold.proofs.Running.{running_success, running_sharing}
use Rattle.checker.specs.Verdict.{verdict}
use Rattle.checker.specs.Accepted.{Sound}
use Rattle.checker.specs.Assurance.{SharingOf, OneSharing, AssuredDesign, Assured, Blind}
use Rattle.checker.proofs.Exactly.{reason_zero}

module _ (d : Design) (wf : WellFormed d) (a : Sound d) where
  within : {t : ℕ} → t < length d.stages → t < d.k
  within l = let e = wf.count in omega arith

  -- each stage spreads the sharings of a secret equally over those of its value
  spread : AllSpread d.m d.s d.stages
  spread t l =
      let fits = wf.stage t (within l) in
      let good = a.stages t (within l) in
      stage_spreads d.m d.s (stage_of d t) fits.table fits.count good.correct good.uniform

  pub sound_assured : AssuredDesign d
  sound_assured =
      record {
        ignores = λ i j li lj. (a.stages i li).non_complete j lj;
        met = λ x lx i e q li le lq. met_once d.m d.s d.stages spread x i e q lx le lq;
        equally = λ x y lx ly i j q li lj. reads_equally d.m d.s d.stages spread x y i lx ly j q ((a.stages i li).non_complete j lj);
      }

  pub sound_blind : Blind d
  sound_blind =
      record {
        settings = λ x y i e lx ly li le p. setting_independent d.m d.s d.stages spread x y i lx ly e le p;
        values = λ x y i j z lx ly li lj.
            value_independent d.m d.s d.stages spread x y i lx ly (component d.m (stage_of d i).lists j) z ((a.stages i li).non_complete j lj);
      }

-- the file f reads as d, accepted or not
module _ (f : List ℕ) (d : Design) (reads : reading f ≡ means d) where
  shares_most : d.s ≤ greatest_shares
  shares_most = (bounds d.m d.s d.k (read_formed f d reads).limits).s_high

  pub same_sharings : OneSharing f d
  same_sharings =
      record {
        number = λ x l h. (
          packed_lt d.m d.s l (share_fits_lem d.m d.s l h.fit shares_most),
          packed_sum d.m d.s l shares_most h.five h.fit ∙ h.sums,
          unpacked_packed d.m d.s l shares_most h.five h.fit,
        );
        bytes = λ σ l. (
          record {
            five = unpacked_length d.m d.s σ;
            fit = unpacked_fits d.m d.s σ shares_most;
            sums = unpacked_sum d.m d.s σ shares_most;
          },
          packed_unpacked d.m d.s σ shares_most l,
        );
        run = running_sharing f d reads shares_most;
      }

  module _ (a : Sound d) where
    formed : WellFormed d
    formed = read_formed f d reads

    pub sound_runs : (x : ℕ) → x < 2 ^ d.m → (l : List ℕ) → SharingOf d x l
        → (running f l ≡ record { reason = 0; shares = output_shares d l }) × (five_sum (output_shares d l) ≡ entry d.box x)
    sound_runs x lx l h = (
      running_success f l d reads h.fit,
      let n = same_sharings.number x l h in
          unpacked_sum d.m d.s (handed d.stages d.k (packed d.m d.s l)) shares_most
          ∙ ap (λ (k : ℕ). sum d.m d.s (handed d.stages k (packed d.m d.s l))) (sym formed.count)
          ∙ outcome d.m d.s d.stages (spread d formed a) (packed d.m d.s l) n.0
          ∙ ap (chained d.stages) n.1
          ∙ a.chain x lx,
    )

    pub file_assured : Assured f d × Blind d
    file_assured = (record { reads = reads; design = sound_assured d formed a; runs = sound_runs; same = same_sharings }, sound_blind d formed a)

-- The one theorem: for every file and every workspace length, from the verdict's reason 0.
pub blind : (f : List ℕ) (n : ℕ) → (verdict f n).reason ≡ 0 → (d : Design) × Assured f d × Blind d
blind f n e = let r = reason_zero f n e in let a = file_assured f r.0 r.1.reads r.1.sound in (r.0, a.0, a.1)

pub assurance : (f : List ℕ) (n : ℕ) → (verdict f n).reason ≡ 0 → (d : Design) × Assured f d
assurance f n e = let b = blind f n e in (b.0, b.1)
