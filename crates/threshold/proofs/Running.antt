-- A run on the five bytes of a sharing is the chain sent through. Assumes nothing.
use mathlib.Core.Path.{◌≡◌, refl, sym, ap, ◌∙◌, subst}
use mathlib.Core.Bool.{true, false}
use mathlib.Core.List.{List, [], ◌∷◌, ◌++◌}
use Prim.Native.Nat.{ℕ, zero, suc, ◌+◌, ◌*◌, ◌^◌, ◌≤◌, ◌<◌}
use native.Mathlib.Nat.{not-suc-le-zero, le_of_suc-le-suc, zero-add, suc-add}
use native.Mathlib.Numerals.{add-one}
use lib.ListN.{length, get_or}
use Rattle.finite.proofs.Testing.{pick_true, pick_false}
use Rattle.design.specs.Limits.{greatest_shares}
use Rattle.records.specs.Design.{Stage, Design, no_stage}
use Rattle.design.specs.Reading.{Reading, refused, means, reading}
use Rattle.sharing.specs.Stages.{output}
use Rattle.sharing.specs.Chain.{handed}
use Rattle.sharing.specs.Sharing.{packed}
use Rattle.threshold.specs.Running.{unpacked, shares_fit, as_bytes, refused_run, finished_run, running_on, running}
use Rattle.sharing.proofs.Stages.{stage_output_lt}
use Rattle.sharing.proofs.Packing.{packed_lt}
use Rattle.threshold.proofs.Packing.{packed_unpacked, unpacked_packed, unpacked_fits, share_fits_lem}

-- ---- the chain

handed_suc : (gs : List Stage) (t σ : ℕ) → t < length gs → handed gs (suc t) σ ≡ output (get_or gs t no_stage).lists (handed gs t σ)
unfolding handed
handed_suc [] t σ h = absurd (not-suc-le-zero h)
handed_suc (g ∷ gs) zero σ h = refl
handed_suc (g ∷ gs) (suc t) σ h = handed_suc gs t (output g.lists σ) (le_of_suc-le-suc h)

-- one stage more
pub handed_next : (gs : List Stage) (t σ : ℕ) → t < length gs → handed gs (t + 1) σ ≡ output (get_or gs t no_stage).lists (handed gs t σ)
handed_next gs t σ h = ap (λ (k : ℕ). handed gs k σ) (add-one t) ∙ handed_suc gs t σ h

pub handed_none : (gs : List Stage) (σ : ℕ) → handed gs 0 σ ≡ σ
unfolding handed
handed_none gs σ = refl

-- one chain behind another: past the first, the second is handed what the first gives
pub handed_append : (a b : List Stage) (i σ : ℕ) → handed (a ++ b) (length a + i) σ ≡ handed b i (handed a (length a) σ)
unfolding handed
handed_append [] b i σ = rw zero-add refl
handed_append (g ∷ a) b i σ = rw suc-add (handed_append a b i (output g.lists σ))

-- the five bytes `at` are what the chain makes of the five bytes l up to stage t
pub record Sent (w s : ℕ) (gs : List Stage) (l at : List ℕ) (t : ℕ) : Type 0 where
  pub shares : at ≡ unpacked w s (handed gs t (packed w s l))
  pub small : handed gs t (packed w s l) < 2 ^ (w * s)

module _ (w s : ℕ) (gs : List Stage) (l : List ℕ) (hs : s ≤ greatest_shares) where
  pub sent_start : length l ≡ greatest_shares → shares_fit w s l ≡ true → Sent w s gs l l 0
  sent_start n e =
      record {
        shares = sym (ap (unpacked w s) (handed_none gs (packed w s l)) ∙ unpacked_packed w s l hs n e);
        small = rw handed_none (packed_lt w s l (share_fits_lem w s l e hs));
      }

  module _ (at : List ℕ) (t : ℕ) (h : Sent w s gs l at t) where
    pub sent_fits : shares_fit w s at ≡ true
    sent_fits = rw h.shares (unpacked_fits w s (handed gs t (packed w s l)) hs)

    pub sent_next : (next : List ℕ) → t < length gs → length (get_or gs t no_stage).lists ≡ w * s
        → next ≡ unpacked w s (output (get_or gs t no_stage).lists (packed w s at)) → Sent w s gs l next (t + 1)
    sent_next next u n e =
        let q : packed w s at ≡ handed gs t (packed w s l) = ap (packed w s) h.shares ∙ packed_unpacked w s (handed gs t (packed w s l)) hs h.small in
        let r : output (get_or gs t no_stage).lists (packed w s at) ≡ handed gs (t + 1) (packed w s l) =
        ap (output (get_or gs t no_stage).lists) q ∙ sym (handed_next gs t (packed w s l) u) in
        record {
          shares = e ∙ ap (unpacked w s) r;
          small = subst (λ (x : ℕ). x < 2 ^ (w * s)) r (stage_output_lt w s (get_or gs t no_stage) n (packed w s at));
        }

-- ---- what a run answers

pub running_as : (f l : List ℕ) (r : Reading) → reading f ≡ r → running f l ≡ running_on r l
unfolding running
running_as f l r e = ap (λ (x : Reading). running_on x l) e

pub running_refused : (f l : List ℕ) (r p : ℕ) → reading f ≡ refused r p → running f l ≡ refused_run r
unfolding running_on
running_refused f l r p e = running_as f l (refused r p) e

pub unfit_run : (d : Design) (l : List ℕ) → shares_fit d.m d.s l ≡ false → running_on (means d) l ≡ refused_run 15
unfolding running_on
unfit_run d l u = pick_false (shares_fit d.m d.s l) (finished_run d l) (refused_run 15) u

pub fit_run : (d : Design) (l : List ℕ) → shares_fit d.m d.s l ≡ true → running_on (means d) l ≡ finished_run d l
unfolding running_on
fit_run d l u = pick_true (shares_fit d.m d.s l) (finished_run d l) (refused_run 15) u

pub running_unfit : (f l : List ℕ) (d : Design) → reading f ≡ means d → shares_fit d.m d.s l ≡ false → running f l ≡ refused_run 15
running_unfit f l d e u = running_as f l (means d) e ∙ unfit_run d l u

pub running_success : (f l : List ℕ) (d : Design) → reading f ≡ means d → shares_fit d.m d.s l ≡ true → running f l ≡ finished_run d l
running_success f l d e u = running_as f l (means d) e ∙ fit_run d l u

-- the run on the five bytes of a sharing answers 0 and the five bytes of what the last stage gives
pub running_sharing : (f : List ℕ) (d : Design) → reading f ≡ means d → d.s ≤ greatest_shares → (σ : ℕ) → σ < 2 ^ (d.m * d.s)
    → running f (as_bytes d σ) ≡ record { reason = 0; shares = as_bytes d (handed d.stages d.k σ) }
running_sharing f d e hs σ l =
    running_success f (as_bytes d σ) d e (unpacked_fits d.m d.s σ hs)
    ∙ ap (λ (x : ℕ). record { reason = 0; shares = as_bytes d (handed d.stages d.k x) }) (packed_unpacked d.m d.s σ hs l)
