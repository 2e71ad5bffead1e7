-- The functions of `runs` at each way out and for a turn, over plain values: l is the shares, w the width, s their number.
-- Assumes nothing.
use mathlib.Core.Path.{◌≡◌, refl, sym, ap, ap₂, ◌∙◌}
use mathlib.Core.Bool.{Bool, true, false, not}
use mathlib.Core.List.{List, ◌++◌}
use Prim.Native.Nat.{ℕ, ◌+◌, ◌*◌, ◌%◌, ◌^◌, ◌≤◌, ◌<◌}
use native.Mathlib.Nat.{mul-le-mul_left}
use native.Mathlib.Omega.{arith}
use lib.Dec.{eqb, ltb}
use lib.Pow.{pow_mono, shl_exact}
use lib.ListN.{length, get_or, set, drop}
use borrow.Author.Tests.{lt-ltb, le-ltb, not-true, not-false}
use mir.Syntax.{w8, w32, w64}
use mir.Val.{Fits}
use Rattle.finite.specs.Tests.{tabulate}
use Rattle.finite.proofs.Testing.{all_intro, all_fails, tabulate_more}
use Rattle.reasons.specs.Numbers.{number}
use Rattle.reasons.specs.declared.Reason.{Reason}
use Rattle.design.specs.Limits.{greatest_width, greatest_shares, broken}
use Rattle.records.specs.Design.{Stage, Design, no_stage}
use Rattle.design.specs.WellFormed.{WellFormed}
use Rattle.design.specs.Reading.{refused, means, reading}
use Rattle.design.proofs.Limits.{bounds}
use Rattle.sharing.specs.Stages.{output, component}
use Rattle.sharing.specs.Chain.{handed}
use Rattle.threshold.specs.Outcome.{finished}
use Rattle.sharing.specs.Sharing.{packed}
use Rattle.threshold.specs.Running.{Ran, unpacked, share_fits, shares_fit, five_zeros, refused_run, running_on, running}
use Rattle.threshold.proofs.Packing.{share_fits_lem, packed_small, unpacked_filled}
use Rattle.sharing.proofs.Packing.{packed_none, packed_next, packed_lt}
use Rattle.threshold.proofs.Running.{Sent, sent_start, sent_fits, sent_next, running_as, running_refused, unfit_run, fit_run}

-- ---- `share_fits`: v is share j

module _ (w s j v : ℕ) where
  pub share_used : j < s → (x p : ℕ) → x ≡ v → p ≡ 2 ^ w → ltb x p ≡ share_fits w s j v
  unfolding share_fits
  share_used h x p ex ep = rw (lt-ltb j s h) (ap₂ ltb ex ep)

  pub share_unused : s ≤ j → eqb v 0 ≡ share_fits w s j v
  unfolding share_fits
  share_unused h = rw (le-ltb j s h) refl

-- ---- `shares_fit`: r is whether each share fits

pub shares_fit_is : (w s : ℕ) (l : List ℕ) (r : Bool) → (r ≡ true → (j : ℕ) → j < greatest_shares → share_fits w s j (get_or l j 0) ≡ true)
    → (r ≡ false → (j : ℕ) × (j < greatest_shares) × (share_fits w s j (get_or l j 0) ≡ false)) → r ≡ shares_fit w s l
unfolding shares_fit
shares_fit_is w s l true fit unfit = sym (all_intro greatest_shares _ (fit refl))
shares_fit_is w s l false fit unfit = let (j, h, e) = unfit refl in sym (all_fails greatest_shares _ j h e)

-- ---- `pack`: x is the sharing of the shares below j, v the next

pub pack_start : (w : ℕ) (l : List ℕ) → 0 ≡ packed w 0 l
pack_start w l = sym (packed_none w l)

module _ (m s k : ℕ) (limits : broken m s k ≡ false) where
  few : s ≤ greatest_shares
  few = (bounds m s k limits).s_high

  module _ (j : ℕ) (h : j < s) where
    pub place_of_five : j < greatest_shares
    place_of_five = omega (arith, few)

    low : m * j ≤ m * s
    low = mul-le-mul_left m (omega arith)

    pub shift_small : m * j < 32
    shift_small = omega (arith, low, (bounds m s k limits).bits)

    pub shift_number : Fits w64 (m * j)
    shift_number = record { fits = omega (arith, shift_small) }

    pub shift_fits : Fits w32 (m * j)
    shift_fits = record { fits = omega (arith, shift_small) }

  module _ (j : ℕ) (h : j < s) (x v : ℕ) (l : List ℕ) (byte : Fits w8 (get_or l j 0)) (ex : x ≡ packed m j l) (ev : v ≡ get_or l j 0) where
    -- the shift loses no bit
    placed : v * 2 ^ (m * j) % 2 ^ 32 ≡ get_or l j 0 * 2 ^ (m * j)
    placed =
        let q : m * j ≤ m * s = mul-le-mul_left m (omega arith) in
        rw ev (shl_exact 8 (m * j) 32 (omega (arith, byte.fits)) (omega (arith, (bounds m s k limits).bits)))

    pub pack_more : x + v * 2 ^ (m * j) % 2 ^ 32 ≡ packed m (j + 1) l
    pack_more = ap₂ ◌+◌ ex placed ∙ sym (packed_next m j l)

    pub pack_fits : shares_fit m s l ≡ true → Fits w32 (x + v * 2 ^ (m * j) % 2 ^ 32)
    pack_fits e = record { fits = omega (arith, packed_small m s l (bounds m s k limits).bits few e (j + 1) (omega arith), pack_more) }

  module _ (x j : ℕ) (l : List ℕ) (a : j ≤ s) (b : s ≤ j) (e : x ≡ packed m j l) where
    pub pack_end : x ≡ packed m s l
    pack_end = let z : j ≡ s = omega arith in rw z at e

    pub pack_small : shares_fit m s l ≡ true → x < 2 ^ (m * s)
    pack_small u = rw pack_end (packed_lt m s l (share_fits_lem m s l u few))

-- ---- `run_stage`: the places of `out` below j hold what the components give, the others 0

pub record FilledBelow (w : ℕ) (ls : List (List ℕ)) (x j : ℕ) (out : List ℕ) : Type 0 where
  pub is : out ≡ tabulate j (λ i. component w ls i x) ++ drop j five_zeros

pub out_start : (w : ℕ) (ls : List (List ℕ)) (x : ℕ) → FilledBelow w ls x 0 five_zeros
unfolding tabulate
out_start w ls x = record { is = refl }

module _ (m s k : ℕ) (limits : broken m s k ≡ false) where
  pub share_byte : (v : ℕ) → v < 2 ^ m → Fits w8 v
  share_byte v h = record { fits = let q : 2 ^ m ≤ 2 ^ greatest_width = pow_mono (bounds m s k limits).m_high in omega arith }

  module _ (j : ℕ) (h : j < s) where
    pub out_more : (ls : List (List ℕ)) (x v : ℕ) (out : List ℕ) → FilledBelow m ls x j out → v ≡ component m ls j x → FilledBelow m ls x (j + 1) (set out j v)
    out_more ls x v out g e =
        record { is = ap₂ (λ (o : List ℕ) (z : ℕ). set o j z) g.is e ∙ tabulate_more j (λ i. component m ls i x) five_zeros (place_of_five m s k limits j h) }

  pub out_end : (ls : List (List ℕ)) (x j : ℕ) (out l : List ℕ) → FilledBelow m ls x j out → j ≤ s → s ≤ j → x ≡ packed m s l
      → out ≡ unpacked m s (output ls (packed m s l))
  out_end ls x j out l g a b e =
      let z : j ≡ s = omega arith in
      g.is ∙ ap (λ (i : ℕ). tabulate i (λ c. component m ls c x) ++ drop i five_zeros) z
      ∙ unpacked_filled m s (output ls x) (bounds m s k limits).s_high ∙ ap (λ (q : ℕ). unpacked m s (output ls q)) e

-- ---- `run_chain`: b is whether the shares l fit; `at` is what the chain makes of them, up to stage t

module _ (m s k : ℕ) (limits : broken m s k ≡ false) (stages : List Stage) (l : List ℕ) where
  pub run_start : (b : Bool) → b ≡ shares_fit m s l → not b ≡ false → length l ≡ greatest_shares → Sent m s stages l l 0
  run_start b eb h n = sent_start _ _ _ l (bounds m s k limits).s_high n (sym eb ∙ not-false b h)

  pub run_fits : (at : List ℕ) (t : ℕ) → Sent m s stages l at t → shares_fit m s at ≡ true
  run_fits at t p = sent_fits _ _ _ _ (bounds m s k limits).s_high _ _ p

pub run_more : (m s k : ℕ) (box : List ℕ) (stages : List Stage) → WellFormed (record { m = m; s = s; k = k; box = box; stages = stages }) → (l at : List ℕ) (t : ℕ)
    → Sent m s stages l at t → t < k → (next : List ℕ) → next ≡ unpacked m s (output (get_or stages t no_stage).lists (packed m s at)) → Sent m s stages l next (t + 1)
run_more m s k box stages wf l at t p h next e =
    sent_next _ _ _ _ (bounds m s k wf.limits).s_high _ t p next (omega (arith, wf.count)) (wf.stage t h).count e

module _ (d : Design) (l : List ℕ) (b : Bool) (eb : b ≡ shares_fit d.m d.s l) where
  pub unfit : not b ≡ true → refused_run 15 ≡ running_on (means d) l
  unfit h = sym (unfit_run d l (sym eb ∙ not-true b h))

  pub run_end : not b ≡ false → (at : List ℕ) (t : ℕ) → Sent d.m d.s d.stages l at t → t ≤ d.k → d.k ≤ t → finished at ≡ running_on (means d) l
  run_end h at t p u v =
      let z : t ≡ d.k = omega arith in
      ap finished (p.shares ∙ ap (λ (k : ℕ). unpacked d.m d.s (handed d.stages k (packed d.m d.s l))) z) ∙ sym (fit_run d l (sym eb ∙ not-false b h))

-- ---- `run`: the file f does not read, or reads as d

pub unread : (f l : List ℕ) (r : Reason) (p : ℕ) → refused (number r) p ≡ reading f → refused_run (number r) ≡ running f l
unread f l r p e = sym (running_refused f l _ _ (sym e))

pub read_run : (f l : List ℕ) (d : Design) → means d ≡ reading f → (v : Ran) → v ≡ running_on (means d) l → v ≡ running f l
read_run f l d e v q = q ∙ sym (running_as f l (means d) (sym e))
