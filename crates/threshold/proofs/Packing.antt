-- Five bytes and the sharing that they are: each is told by the other. Assumes nothing.
use mathlib.Core.Path.{◌≡◌, refl, sym, ap, ◌∙◌, subst}
use mathlib.Core.Bool.{true}
use mathlib.Core.List.{List, ◌++◌}
use Prim.Native.Nat.{ℕ, zero, suc, ◌+◌, ◌-◌, ◌*◌, ◌^◌, ◌≤◌, ◌<◌}
use native.Mathlib.Nat.{mul-le-mul_left, lt_of_lt_of_le}
use native.Mathlib.Decide.{dec_lt}
use native.Mathlib.Omega.{arith}
use lib.Pow.{pow_mono}
use lib.Bits.{bit_xor, xor_zero_r}
use lib.Dec.{eqb, ltb}
use lib.ListN.{length, get_or, drop}
use lib.Seq.{ext_get_or}
use borrow.Author.Tests.{eqb-true, ltb-true, lt-ltb, le-ltb}
use Rattle.finite.specs.Tests.{pick, tabulate}
use Rattle.finite.specs.Sums.{xor_below}
use Rattle.finite.proofs.Testing.{all_at, all_intro, pick_true, pick_false, tabulate_at, tabulate_length}
use Rattle.finite.proofs.Sums.{xor_below_none, xor_below_add, xor_below_ext}
use Rattle.design.specs.Limits.{greatest_shares, greatest_share_bits}
use Rattle.sharing.specs.Sharing.{share, sum, packed}
use Rattle.threshold.specs.Running.{unpacked, share_fits, shares_fit, five_sum, five_zeros}
use Rattle.sharing.proofs.Sharing.{share_lt, sum_shares, shares_eq}
use Rattle.sharing.proofs.Packing.{packed_lt, share_packed}

-- ---- which shares a run takes

fit_used : (w s j v : ℕ) → share_fits w s j v ≡ true → j < s → v < 2 ^ w
unfolding share_fits
fit_used w s j v e h = ltb-true v (2 ^ w) (sym (pick_true (ltb j s) (ltb v (2 ^ w)) (eqb v 0) (lt-ltb j s h)) ∙ e)

fit_unused : (w s j v : ℕ) → share_fits w s j v ≡ true → s ≤ j → v ≡ 0
unfolding share_fits
fit_unused w s j v e h = eqb-true v 0 (sym (pick_false (ltb j s) (ltb v (2 ^ w)) (eqb v 0) (le-ltb j s h)) ∙ e)

used_fit : (w s j v : ℕ) → j < s → v < 2 ^ w → share_fits w s j v ≡ true
unfolding share_fits
used_fit w s j v h l = pick_true (ltb j s) (ltb v (2 ^ w)) (eqb v 0) (lt-ltb j s h) ∙ lt-ltb v (2 ^ w) l

unused_fit : (w s j : ℕ) → s ≤ j → share_fits w s j 0 ≡ true
unfolding share_fits
unused_fit w s j h = pick_false (ltb j s) (ltb 0 (2 ^ w)) (eqb 0 0) (le-ltb j s h)

pub fit_at : (w s : ℕ) (l : List ℕ) → shares_fit w s l ≡ true → (j : ℕ) → j < greatest_shares → share_fits w s j (get_or l j 0) ≡ true
unfolding shares_fit
fit_at w s l e j h = all_at greatest_shares (λ i. share_fits w s i (get_or l i 0)) e j h

pub share_fits_lem : (w s : ℕ) (l : List ℕ) → shares_fit w s l ≡ true → s ≤ greatest_shares → (j : ℕ) → j < s → get_or l j 0 < 2 ^ w
share_fits_lem w s l e hs j h = fit_used w s j (get_or l j 0) (fit_at w s l e j (omega arith)) h

-- ---- five bytes as a sharing

-- what code has packed so far fits the greatest share bits
pub packed_small : (w s : ℕ) (l : List ℕ) → w * s ≤ greatest_share_bits → s ≤ greatest_shares → shares_fit w s l ≡ true → (j : ℕ) → j ≤ s → packed w j l < 2 ^ greatest_share_bits
packed_small w s l b hs e j h =
    let q = mul-le-mul_left w h in
    lt_of_lt_of_le (packed_lt w j l (λ i k. share_fits_lem w s l e hs i (omega arith))) (pow_mono {j = greatest_share_bits} (omega arith))

-- ---- a sharing as five bytes

pub unpacked_at : (w s σ j : ℕ) → j < greatest_shares → get_or (unpacked w s σ) j 0 ≡ pick (ltb j s) (share w j σ) 0
unfolding unpacked
unpacked_at w s σ j h = tabulate_at greatest_shares (λ i. pick (ltb i s) (share w i σ) 0) j 0 h

pub unpacked_length : (w s σ : ℕ) → length (unpacked w s σ) ≡ greatest_shares
unfolding unpacked
unpacked_length w s σ = tabulate_length greatest_shares (λ i. pick (ltb i s) (share w i σ) 0)

pub unpacked_used : (w s σ j : ℕ) → s ≤ greatest_shares → j < s → get_or (unpacked w s σ) j 0 ≡ share w j σ
unpacked_used w s σ j hs h = unpacked_at w s σ j (omega arith) ∙ pick_true (ltb j s) (share w j σ) 0 (lt-ltb j s h)

pub unpacked_unused : (w s σ j : ℕ) → s ≤ j → j < greatest_shares → get_or (unpacked w s σ) j 0 ≡ 0
unpacked_unused w s σ j h k = unpacked_at w s σ j k ∙ pick_false (ltb j s) (share w j σ) 0 (le-ltb j s h)

pub unpacked_fits : (w s σ : ℕ) → s ≤ greatest_shares → shares_fit w s (unpacked w s σ) ≡ true
unfolding shares_fit
unpacked_fits w s σ hs = all_intro greatest_shares (λ j. share_fits w s j (get_or (unpacked w s σ) j 0)) (λ j k. go j k (dec_lt j s))
  where
    go : (j : ℕ) → j < greatest_shares → Dec (j < s) → share_fits w s j (get_or (unpacked w s σ) j 0) ≡ true
    go j k (yes h) = rw (unpacked_used w s σ j hs h) (used_fit w s j (share w j σ) h (share_lt w j σ))
    go j k (no h) = let g : s ≤ j = omega arith in rw (unpacked_unused w s σ j g k) (unused_fit w s j g)

pub packed_unpacked : (w s σ : ℕ) → s ≤ greatest_shares → σ < 2 ^ (w * s) → packed w s (unpacked w s σ) ≡ σ
packed_unpacked w s σ hs l =
    let small : (j : ℕ) → j < s → get_or (unpacked w s σ) j 0 < 2 ^ w = λ j h. rw (unpacked_used w s σ j hs h) (share_lt w j σ) in
    shares_eq w s (packed w s (unpacked w s σ)) σ (packed_lt w s (unpacked w s σ) small) l
    (λ j h. share_packed w s (unpacked w s σ) small j h ∙ unpacked_used w s σ j hs h)

pub unpacked_packed : (w s : ℕ) (l : List ℕ) → s ≤ greatest_shares → length l ≡ greatest_shares → shares_fit w s l ≡ true → unpacked w s (packed w s l) ≡ l
unpacked_packed w s l hs n e =
    ext_get_or 0 (unpacked w s (packed w s l)) l (unpacked_length w s (packed w s l) ∙ sym n)
    (λ j h. go j (subst (λ (k : ℕ). j < k) (unpacked_length w s (packed w s l)) h) (dec_lt j s))
  where
    go : (j : ℕ) → j < greatest_shares → Dec (j < s) → get_or (unpacked w s (packed w s l)) j 0 ≡ get_or l j 0
    go j k (yes h) = unpacked_used w s (packed w s l) j hs h ∙ share_packed w s l (share_fits_lem w s l e hs) j h
    go j k (no h) =
        let g : s ≤ j = omega arith in
        unpacked_unused w s (packed w s l) j g k ∙ sym (fit_unused w s j (get_or l j 0) (fit_at w s l e j k) g)

-- the sum of the five bytes is the value that is shared
pub unpacked_sum : (w s σ : ℕ) → s ≤ greatest_shares → five_sum (unpacked w s σ) ≡ sum w s σ
unpacked_sum w s σ hs =
    let f : ℕ → ℕ = λ j. get_or (unpacked w s σ) j 0 in
    let e : s + (greatest_shares - s) ≡ greatest_shares = omega arith in
    let rest = xor_below_none (greatest_shares - s) (λ i. f (s + i)) (λ i l. unpacked_unused w s σ (s + i) (omega arith) (omega arith)) in
    ap (λ (k : ℕ). xor_below k f) (sym e) ∙ xor_below_add s (greatest_shares - s) f ∙ ap (bit_xor (xor_below s f)) rest ∙ xor_zero_r (xor_below s f)
    ∙ xor_below_ext s f (λ j. share w j σ) (λ j l. unpacked_used w s σ j hs l) ∙ sym (sum_shares w s σ)

pub packed_sum : (w s : ℕ) (l : List ℕ) → s ≤ greatest_shares → length l ≡ greatest_shares → shares_fit w s l ≡ true → sum w s (packed w s l) ≡ five_sum l
packed_sum w s l hs n e =
    sym (unpacked_sum w s (packed w s l) hs) ∙ ap five_sum (unpacked_packed w s l hs n e)

-- filled a place at a time, over zeros
pub unpacked_filled : (w s σ : ℕ) → s ≤ greatest_shares → tabulate s (λ j. share w j σ) ++ drop s five_zeros ≡ unpacked w s σ
unfolding tabulate unpacked
unpacked_filled w s σ hs = go s hs
  where
    go : (k : ℕ) → k ≤ greatest_shares → tabulate k (λ j. share w j σ) ++ drop k five_zeros ≡ unpacked w k σ
    go zero h = refl
    go (suc zero) h = refl
    go (suc (suc zero)) h = refl
    go (suc (suc (suc zero))) h = refl
    go (suc (suc (suc (suc zero)))) h = refl
    go (suc (suc (suc (suc (suc zero))))) h = refl
    go (suc (suc (suc (suc (suc (suc k)))))) h = absurd (omega arith)
