-- Through the seam: a run of the joined file is a run of the first and then a run of the second on what it gave, for every list of shares. The chain goes on
-- where the first chain ends, and the bytes that the first gives are those of a sharing. Assumes nothing.
use mathlib.Core.Path.{◌≡◌, sym, ap, ◌∙◌}
use mathlib.Core.Logic.{⊎_elim}
use mathlib.Core.Bool.{true, false}
use mathlib.Core.List.{List, ◌++◌}
use Prim.Native.Nat.{ℕ, ◌+◌, ◌*◌, ◌^◌, ◌≤◌, ◌<◌}
use native.Mathlib.Omega.{arith}
use lib.ListN.{length}
use Rattle.std.proofs.lemmas.Bool.{cases_Bool}
use Rattle.design.specs.Limits.{greatest_shares}
use Rattle.records.specs.Design.{Design}
use Rattle.design.specs.WellFormed.{WellFormed}
use Rattle.design.proofs.Limits.{bounds}
use Rattle.design.proofs.Theorems.{read_formed}
use Rattle.sharing.specs.Chain.{handed}
use Rattle.threshold.specs.Running.{shares_fit, as_number, as_bytes, running}
use Rattle.sharing.proofs.Stages.{handed_lt}
use Rattle.threshold.proofs.Packing.{share_fits_lem}
use Rattle.sharing.proofs.Packing.{packed_lt}
use Rattle.threshold.proofs.Running.{handed_append, running_unfit, running_success, running_sharing}
use Rattle.joiner.specs.Joining.{joined_design, joined, Joinable}
use Rattle.joiner.proofs.JoinedDesign.{joined_reads}
use Rattle.jestrunas.specs.JoinedRuns.{running_onward}

-- what the joined chain gives is what the second makes of what the first gives
handed_joined : (d e : Design) → length d.stages ≡ d.k → (σ : ℕ) → handed (d.stages ++ e.stages) (d.k + e.k) σ ≡ handed e.stages e.k (handed d.stages d.k σ)
handed_joined d e n σ = rw (← n) (handed_append d.stages e.stages e.k σ)

-- what a well-formed design gives is a sharing
module _ (d : Design) (v : WellFormed d) where
  shares_most : d.s ≤ greatest_shares
  shares_most = (bounds d.m d.s d.k v.limits).s_high

  given_lt : (l : List ℕ) → shares_fit d.m d.s l ≡ true → handed d.stages d.k (as_number d l) < 2 ^ (d.m * d.s)
  given_lt l u =
      handed_lt d.m d.s d.k d.stages (λ t h. (v.stage t (omega (arith, v.count))).count) (as_number d l)
      (packed_lt d.m d.s l (share_fits_lem d.m d.s l u shares_most))

module _ (f g : List ℕ) (d e : Design) (j : Joinable f g d e) where
  -- the second takes the bytes of every sharing of the first
  second_run : (σ : ℕ) → σ < 2 ^ (d.m * d.s) → running g (as_bytes d σ) ≡ record { reason = 0; shares = as_bytes d (handed e.stages e.k σ) }
  second_run σ h =
      rw (j.width, j.shares) (running_sharing g e j.second (shares_most e (read_formed g e j.second)) σ (rw (j.width, j.shares) at h))

module _ (f g : List ℕ) (d e : Design) (j : Joinable f g d e) (l : List ℕ) where
  first_formed : WellFormed d
  first_formed = read_formed f d j.first

  runs_fit : shares_fit d.m d.s l ≡ true → running (joined f g) l ≡ running_onward g (running f l)
  runs_fit u =
      running_success (joined f g) l (joined_design d e) (joined_reads f g d e j) u
      ∙ ap (λ (σ : ℕ). record { reason = 0; shares = as_bytes d σ }) (handed_joined d e first_formed.count (as_number d l))
      ∙ sym (second_run f g d e j (handed d.stages d.k (as_number d l)) (given_lt d first_formed l u))
      ∙ sym (ap (running_onward g) (running_success f l d j.first u))

  runs_unfit : shares_fit d.m d.s l ≡ false → running (joined f g) l ≡ running_onward g (running f l)
  runs_unfit u =
      running_unfit (joined f g) l (joined_design d e) (joined_reads f g d e j) u ∙ sym (ap (running_onward g) (running_unfit f l d j.first u))

  pub joined_runs : running (joined f g) l ≡ running_onward g (running f l)
  joined_runs = ⊎_elim runs_fit runs_unfit (cases_Bool (shares_fit d.m d.s l))
