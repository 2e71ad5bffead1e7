-- A sharing is its share j and its setting without share j, and its sum is the xor of that share and the sum of the setting.
-- Shares stand at the places of powers of 2; only the sum over the shares needs induction. Assumes nothing.
use mathlib.Core.Path.{◌≡◌, refl, sym, ap, ap₂, ◌∙◌, subst}
use mathlib.Core.Logic.{◌≢◌}
use mathlib.Core.Bool.{◌&&◌}
use Prim.Native.Nat.{ℕ, zero, suc, ◌+◌, ◌-◌, ◌*◌, ◌/◌, ◌%◌, ◌^◌, ◌≤◌, ◌<◌}
use native.Mathlib.Nat.{add-zero, add_comm, add_assoc, mul-zero, mul-one, mul-suc, mul_comm, mul_assoc, mul-add, add-mul, add-sub_of_le, mul-le-mul_left}
use native.Mathlib.Nat.{le_of_suc-le-suc, not-suc-le-zero, div-one, div-add-mod', div-div-eq-div-mul, div-lt_iff_lt-mul, mod-one, mod-lt, mod-eq_of_lt}
use native.Mathlib.Decide.{dec_lt}
use native.Mathlib.Omega.{arith}
use lib.Arith.{digits_lt, digits_div, digits_mod, mod-mul, lt-one}
use lib.Pow.{pow_pos, pow-add, field, mod-mod-pow, shr-shr, low}
use native.Mathlib.Numerals.{sub-one}
use lib.Bits.{bit_and, bit_xor, and_mask, xor_zero_r, xor_lt, xor_self}
use lib.Dec.{eqb}
use borrow.Author.Tests.{eqb-true, eq-eqb}
use Rattle.finite.specs.Tests.{count}
use Rattle.finite.specs.Sums.{xor_below}
use Rattle.finite.specs.Sets.{has}
use Rattle.std.proofs.lemmas.Bool.{and_from, and_parts}
use Rattle.finite.proofs.Counting.{count_one}
use Rattle.std.specs.Int.Bits.{xor_assoc}
use Rattle.finite.proofs.Xor.{xor_left_comm}
use Rattle.finite.proofs.Sums.{xor_below_ext, xor_below_first, xor_below_lt}
use Rattle.finite.proofs.Elements.{has_congr}
use Rattle.sharing.specs.Sharing.{share, sum, setting, put_share, with_share}

-- ---- the places of shares

pub pow_step : (w j : ℕ) → 2 ^ (w * suc j) ≡ 2 ^ (w * j) * 2 ^ w
pow_step w j = ap (λ (x : ℕ). 2 ^ x) (mul-suc w j) ∙ pow-add 2 (w * j) w

pub pow_zeroth : (w : ℕ) → 2 ^ (w * 0) ≡ 1
pow_zeroth w = ap (λ (x : ℕ). 2 ^ x) (mul-zero w)

-- share 0 is the low part; the others are the shares of the rest
pub share_zero : (w σ : ℕ) → share w 0 σ ≡ σ % 2 ^ w
unfolding share
share_zero w σ = ap (λ (x : ℕ). σ / x % 2 ^ w) (pow_zeroth w) ∙ ap (λ (x : ℕ). x % 2 ^ w) (div-one σ)

div_step : (w j σ : ℕ) → σ / 2 ^ (w * suc j) ≡ σ / 2 ^ w / 2 ^ (w * j)
div_step w j σ =
    ap (λ (x : ℕ). σ / x) (pow_step w j ∙ mul_comm (2 ^ (w * j)) (2 ^ w)) ∙ sym (div-div-eq-div-mul σ (2 ^ w) (2 ^ (w * j)))

mod_step : (w j σ : ℕ) → σ % 2 ^ (w * suc j) ≡ σ / 2 ^ w % 2 ^ (w * j) * 2 ^ w + σ % 2 ^ w
mod_step w j σ = ap (λ (x : ℕ). σ % x) (pow_step w j) ∙ mod-mul σ (pow_pos (w * j)) (pow_pos w)

pub share_suc : (w j σ : ℕ) → share w (suc j) σ ≡ share w j (σ / 2 ^ w)
unfolding share
share_suc w j σ = ap (λ (x : ℕ). x % 2 ^ w) (div_step w j σ)

pub share_lt : (w j σ : ℕ) → share w j σ < 2 ^ w
unfolding share
share_lt w j σ = mod-lt (σ / 2 ^ (w * j)) (pow_pos w)

-- a number made of the shares r below place s and a at it
pub share_low : (w s j a r : ℕ) → j < s → r < 2 ^ (w * s) → share w j (a * 2 ^ (w * s) + r) ≡ share w j r
unfolding share
share_low w s j a r h l =
    let d : (w * s - (w + w * j)) + (w + w * j) ≡ w * s = (let e = mul-le-mul_left w h in let q = mul-suc w j in omega arith) in
    let n = a * 2 ^ (w * s) + r in
    let t : n % 2 ^ (w + w * j) ≡ r % 2 ^ (w + w * j) =
    sym (mod-mod-pow n (w * s - (w + w * j)) (w + w * j)) ∙ ap (λ (x : ℕ). n % 2 ^ x % 2 ^ (w + w * j)) d
    ∙ ap (λ (x : ℕ). x % 2 ^ (w + w * j)) (low a (w * s) l) in
    sym (field n w (w * j)) ∙ ap (λ (x : ℕ). x / 2 ^ (w * j)) t ∙ field r w (w * j)

pub share_top : (w s a r : ℕ) → a < 2 ^ w → r < 2 ^ (w * s) → share w s (a * 2 ^ (w * s) + r) ≡ a
unfolding share
share_top w s a r h l = ap (λ (x : ℕ). x % 2 ^ w) (digits_div a l) ∙ mod-eq_of_lt h

setting_zero : (w σ : ℕ) → setting w 0 σ ≡ σ / 2 ^ w
unfolding setting
setting_zero w σ = simp (pow_zeroth, div-one, mod-one, mul-one, add-zero)

setting_suc : (w j σ : ℕ) → setting w (suc j) σ ≡ setting w j (σ / 2 ^ w) * 2 ^ w + σ % 2 ^ w
unfolding setting
setting_suc w j σ = simp (div_step, mod_step) (simp (pow_step, add-mul, mul_assoc, add_assoc))

setting_next : (w j i σ : ℕ) → share w (suc i) (setting w (suc j) σ) ≡ share w i (setting w j (σ / 2 ^ w))
setting_next w j i σ =
    ap (share w (suc i)) (setting_suc w j σ) ∙ share_suc w i _ ∙ ap (share w i) (digits_div (setting w j (σ / 2 ^ w)) (mod-lt σ (pow_pos w)))

-- the shares of a setting: those below share j, then those above it
pub share_setting_below : (w j i σ : ℕ) → i < j → share w i (setting w j σ) ≡ share w i σ
share_setting_below w zero i σ h = absurd (not-suc-le-zero h)
share_setting_below w (suc j) zero σ h =
    ap (share w 0) (setting_suc w j σ) ∙ share_zero w _ ∙ digits_mod (setting w j (σ / 2 ^ w)) (mod-lt σ (pow_pos w)) ∙ sym (share_zero w σ)
share_setting_below w (suc j) (suc i) σ h = setting_next w j i σ ∙ share_setting_below w j i (σ / 2 ^ w) (le_of_suc-le-suc h) ∙ sym (share_suc w i σ)

pub share_setting_above : (w j i σ : ℕ) → j ≤ i → share w i (setting w j σ) ≡ share w (suc i) σ
share_setting_above w zero i σ h = ap (share w i) (setting_zero w σ) ∙ sym (share_suc w i σ)
share_setting_above w (suc j) zero σ h = absurd (not-suc-le-zero h)
share_setting_above w (suc j) (suc i) σ h = setting_next w j i σ ∙ share_setting_above w j i (σ / 2 ^ w) (le_of_suc-le-suc h) ∙ sym (share_suc w (suc i) σ)

-- ---- the sum

-- the lowest share, and the sum of the others
pub sum_suc : (w s σ : ℕ) → sum w (suc s) σ ≡ bit_xor (σ % 2 ^ w) (sum w s (σ / 2 ^ w))
unfolding sum
sum_suc w s σ =
    xor_below_first s (λ j. share w j σ)
    ∙ ap₂ bit_xor (share_zero w σ) (xor_below_ext s (λ j. share w (suc j) σ) (λ j. share w j (σ / 2 ^ w)) (λ j l. share_suc w j σ))

pub sum_lt : (w s σ : ℕ) → sum w s σ < 2 ^ w
unfolding sum
sum_lt w s σ = xor_below_lt s w (λ j. share w j σ) (λ j l. share_lt w j σ)

-- the sum of what components give is the sum of the output, whose shares those are
pub sum_shares : (w s σ : ℕ) → sum w s σ ≡ xor_below s (λ j. share w j σ)
unfolding sum
sum_shares w s σ = refl

-- the sum is share j and the sum of the setting
pub sum_setting : (w s j σ : ℕ) → j ≤ s → sum w (suc s) σ ≡ bit_xor (share w j σ) (sum w s (setting w j σ))
sum_setting w s zero σ h = sum_suc w s σ ∙ sym (ap₂ bit_xor (share_zero w σ) (ap (sum w s) (setting_zero w σ)))
sum_setting w zero (suc j) σ h = absurd (not-suc-le-zero h)
sum_setting w (suc s) (suc j) σ h =
    let l = mod-lt σ (pow_pos w) in
    let d = setting w j (σ / 2 ^ w) in
    sum_suc w (suc s) σ
    ∙ ap (bit_xor (σ % 2 ^ w)) (sum_setting w s j (σ / 2 ^ w) (le_of_suc-le-suc h))
    ∙ xor_left_comm (σ % 2 ^ w) (share w j (σ / 2 ^ w)) (sum w s d)
    ∙ sym (ap₂ bit_xor (share_suc w j σ)
    (ap (sum w (suc s)) (setting_suc w j σ) ∙ sum_suc w s (d * 2 ^ w + σ % 2 ^ w)
    ∙ ap₂ (λ (x y : ℕ). bit_xor x (sum w s y)) (digits_mod d l) (digits_div d l)))

-- ---- a sharing is its share j and its setting

module _ (w j : ℕ) where
  part_div : (a r : ℕ) → (a * 2 ^ (w * j) + r % 2 ^ (w * j)) / 2 ^ (w * j) ≡ a
  part_div a r = digits_div a (mod-lt r (pow_pos (w * j)))

  part_mod : (a r : ℕ) → (a * 2 ^ (w * j) + r % 2 ^ (w * j)) % 2 ^ (w * j) ≡ r % 2 ^ (w * j)
  part_mod a r = digits_mod a (mod-lt r (pow_pos (w * j)))

  pub share_put : (v q : ℕ) → v < 2 ^ w → share w j (put_share w j v q) ≡ v
  unfolding share put_share
  share_put v q h = rw part_div (digits_mod (q / 2 ^ (w * j)) h)

  pub setting_put : (v q : ℕ) → v < 2 ^ w → setting w j (put_share w j v q) ≡ q
  unfolding setting put_share
  setting_put v q h = rw (part_div, part_mod, digits_div (q / 2 ^ (w * j)) h) (div-add-mod' q (2 ^ (w * j)))

  pub put_share_setting : (σ : ℕ) → put_share w j (share w j σ) (setting w j σ) ≡ σ
  unfolding share setting put_share
  put_share_setting σ =
      rw (part_div, part_mod, div-add-mod' (σ / 2 ^ (w * j)) (2 ^ w)) (div-add-mod' σ (2 ^ (w * j)))

  -- a change of share j alone
  pub setting_with : (v σ : ℕ) → v < 2 ^ w → setting w j (with_share w j v σ) ≡ setting w j σ
  setting_with v σ h = setting_put v (setting w j σ) h

  -- no other share changes
  pub share_with : (i v σ : ℕ) → i ≢ j → v < 2 ^ w → share w i (with_share w j v σ) ≡ share w i σ
  share_with i v σ n h = go (dec_lt i j) i refl
    where
      e : setting w j (with_share w j v σ) ≡ setting w j σ
      e = setting_with v σ h

      go : Dec (i < j) → (k : ℕ) → i ≡ k → share w i (with_share w j v σ) ≡ share w i σ
      go (yes l) k q = sym (share_setting_below w j i (with_share w j v σ) l) ∙ ap (share w i) e ∙ share_setting_below w j i σ l
      go (no l) zero q = absurd (n (omega arith))
      go (no l) (suc k) q =
          let a : j ≤ k = omega arith in
          rw q (sym (share_setting_above w j k (with_share w j v σ) a) ∙ ap (share w k) e ∙ share_setting_above w j k σ a)

  pub with_own : (σ : ℕ) → with_share w j (share w j σ) σ ≡ σ
  with_own σ = put_share_setting σ

  -- two sharings with one setting differ by a change of share j alone
  pub with_other : (σ τ : ℕ) → setting w j σ ≡ setting w j τ → with_share w j (share w j τ) σ ≡ τ
  with_other σ τ e = ap (put_share w j (share w j τ)) e ∙ put_share_setting τ

-- the shares above place j, and those below it
pow_split : (w s j : ℕ) → j ≤ s → 2 ^ (w * s) ≡ 2 ^ (w * (s - j)) * 2 ^ (w * j)
pow_split w s j h =
    ap (λ (x : ℕ). 2 ^ (w * x)) (sym (add-sub_of_le h) ∙ add_comm j (s - j)) ∙ ap (λ (x : ℕ). 2 ^ x) (mul-add w (s - j) j)
    ∙ pow-add 2 (w * (s - j)) (w * j)

pow_parts : (w s j : ℕ) → j ≤ s → 2 ^ (w * suc s) ≡ 2 ^ (w * (s - j)) * 2 ^ w * 2 ^ (w * j)
pow_parts w s j h =
    sym (mul_assoc (2 ^ (w * (s - j))) (2 ^ w) (2 ^ (w * j)) ∙ ap (λ (x : ℕ). 2 ^ (w * (s - j)) * x) (mul_comm (2 ^ w) (2 ^ (w * j)))
    ∙ sym (mul_assoc (2 ^ (w * (s - j))) (2 ^ (w * j)) (2 ^ w)) ∙ ap (λ (x : ℕ). x * 2 ^ w) (sym (pow_split w s j h)) ∙ sym (pow_step w s))

pub put_lt : (w s j v q : ℕ) → j ≤ s → v < 2 ^ w → q < 2 ^ (w * s) → put_share w j v q < 2 ^ (w * suc s)
unfolding put_share
put_lt w s j v q h hv hq =
    subst (λ (x : ℕ). put_share w j v q < x) (sym (pow_parts w s j h))
    (digits_lt (digits_lt ((div-lt_iff_lt-mul (pow_pos (w * j))).1 (subst (λ (x : ℕ). q < x) (pow_split w s j h) hq)) hv) (mod-lt q (pow_pos (w * j))))

pub setting_lt : (w s j σ : ℕ) → j ≤ s → σ < 2 ^ (w * suc s) → setting w j σ < 2 ^ (w * s)
unfolding setting
setting_lt w s j σ h l =
    subst (λ (x : ℕ). setting w j σ < x) (sym (pow_split w s j h))
    (digits_lt
    ((div-lt_iff_lt-mul (pow_pos w)).1 ((div-lt_iff_lt-mul (pow_pos (w * j))).1 (subst (λ (x : ℕ). σ < x) (pow_parts w s j h) l)))
    (mod-lt σ (pow_pos (w * j))))

pub with_lt : (w s j v σ : ℕ) → j < s → v < 2 ^ w → σ < 2 ^ (w * s) → with_share w j v σ < 2 ^ (w * s)
with_lt w zero j v σ h hv l = absurd (not-suc-le-zero h)
with_lt w (suc s) j v σ h hv l =
    put_lt w s j v (setting w j σ) (le_of_suc-le-suc h) hv (setting_lt w s j σ (le_of_suc-le-suc h) l)

-- a sharing is told by its shares
pub shares_eq : (w s σ τ : ℕ) → σ < 2 ^ (w * s) → τ < 2 ^ (w * s) → ((j : ℕ) → j < s → share w j σ ≡ share w j τ) → σ ≡ τ
shares_eq w zero σ τ lσ lτ h =
    lt-one (subst (λ (x : ℕ). σ < x) (pow_zeroth w) lσ) ∙ sym (lt-one (subst (λ (x : ℕ). τ < x) (pow_zeroth w) lτ))
shares_eq w (suc s) σ τ lσ lτ h =
    let half : (ρ : ℕ) → ρ < 2 ^ (w * suc s) → ρ / 2 ^ w < 2 ^ (w * s) =
    λ ρ l. (div-lt_iff_lt-mul (pow_pos w)).1 (subst (λ (x : ℕ). ρ < x) (pow_step w s) l) in
    let low : σ % 2 ^ w ≡ τ % 2 ^ w = sym (share_zero w σ) ∙ h 0 (omega arith) ∙ share_zero w τ in
    let high : σ / 2 ^ w ≡ τ / 2 ^ w =
    shares_eq w s (σ / 2 ^ w) (τ / 2 ^ w) (half σ lσ) (half τ lτ)
    (λ j l. sym (share_suc w j σ) ∙ h (suc j) (omega arith) ∙ share_suc w j τ) in
    sym (div-add-mod' σ (2 ^ w)) ∙ ap₂ (λ (a b : ℕ). a * 2 ^ w + b) high low ∙ div-add-mod' τ (2 ^ w)

-- ---- a value x and a setting q: exactly one sharing has both

xor_back : (a r : ℕ) → bit_xor (bit_xor a r) r ≡ a
xor_back a r = xor_assoc a r r ∙ ap (bit_xor a) (xor_self r) ∙ xor_zero_r a

pub one_sharing : (w s j x q : ℕ) → j ≤ s → x < 2 ^ w → q < 2 ^ (w * s)
    → count (2 ^ (w * suc s)) (λ σ. eqb (sum w (suc s) σ) x && eqb (setting w j σ) q) ≡ 1
one_sharing w s j x q h hx hq =
    let r = sum w s q in
    let v = bit_xor x r in
    let hv = xor_lt w x r hx (sum_lt w s q) in
    let k = put_share w j v q in
    let dk = setting_put w j v q hv in
    count_one (2 ^ (w * suc s)) (λ σ. eqb (sum w (suc s) σ) x && eqb (setting w j σ) q) k (put_lt w s j v q h hv hq)
    (and_from _ _
    (eq-eqb _ _ (sum_setting w s j k h ∙ ap₂ (λ (a b : ℕ). bit_xor a (sum w s b)) (share_put w j v q hv) dk ∙ xor_back x r))
    (eq-eqb _ _ dk))
    (λ σ l e.
    let eσ = eqb-true (sum w (suc s) σ) x (and_parts (eqb (sum w (suc s) σ) x) (eqb (setting w j σ) q) e).0 in
    let dσ = eqb-true (setting w j σ) q (and_parts (eqb (sum w (suc s) σ) x) (eqb (setting w j σ) q) e).1 in
    let vσ : share w j σ ≡ v =
    sym (xor_back (share w j σ) r) ∙ ap (λ (a : ℕ). bit_xor a r) (ap (λ (b : ℕ). bit_xor (share w j σ) (sum w s b)) (sym dσ) ∙ sym (sum_setting w s j σ h) ∙ eσ) in
    sym (put_share_setting w j σ) ∙ ap₂ (put_share w j) vσ dσ)

-- ---- the sum as code makes it, a share at a time from the lowest

pub sum_none : (w σ : ℕ) → sum w 0 σ ≡ 0
unfolding sum xor_below
sum_none w σ = refl

pub sum_step : (w left total rest t : ℕ) → 0 < left → bit_xor total (sum w left rest) ≡ t
    → bit_xor (bit_xor total (bit_and rest (2 ^ w - 1))) (sum w (left - 1) (rest / 2 ^ w)) ≡ t
sum_step w (suc left) total rest t p e =
    rw (and_mask rest w, sub-one (suc left)) (xor_assoc total (rest % 2 ^ w) (sum w left (rest / 2 ^ w)) ∙ ap (bit_xor total) (sym (sum_suc w left rest)) ∙ e)
sum_step w zero total rest t p e = absurd (not-suc-le-zero p)

-- ---- the bits of shares: bit b of share j stands at w × j + b

pub place_lt : (w s j b : ℕ) → j < s → b < w → w * j + b < w * s
place_lt w s j b hj hb = omega (arith, mul-suc w j, mul-le-mul_left w hj)

-- the place tells the share and the bit
pub place_div : (w j b : ℕ) → b < w → (w * j + b) / w ≡ j
place_div w j b h = ap (λ (x : ℕ). (x + b) / w) (mul_comm w j) ∙ digits_div j h

pub place_mod : (w j b : ℕ) → b < w → (w * j + b) % w ≡ b
place_mod w j b h = ap (λ (x : ℕ). (x + b) % w) (mul_comm w j) ∙ digits_mod j h

pub place_eq : (w i a j b : ℕ) → a < w → b < w → w * i + a ≡ w * j + b → (i ≡ j) × (a ≡ b)
place_eq w i a j b ha hb e = (
  sym (place_div w i a ha) ∙ ap (λ (x : ℕ). x / w) e ∙ place_div w j b hb,
  sym (place_mod w i a ha) ∙ ap (λ (x : ℕ). x % w) e ∙ place_mod w j b hb,
)

pub share_bit : (w j σ b : ℕ) → b < w → share w j σ / 2 ^ b % 2 ≡ σ / 2 ^ (w * j + b) % 2
unfolding share
share_bit w j σ b h =
    let d : w ≡ w - suc b + 1 + b = omega arith in
    ap (λ (y : ℕ). σ / 2 ^ (w * j) % 2 ^ y / 2 ^ b % 2) d
    ∙ ap (λ (y : ℕ). y % 2) (field (σ / 2 ^ (w * j)) (w - suc b + 1) b)
    ∙ mod-mod-pow (σ / 2 ^ (w * j) / 2 ^ b) (w - suc b) 1
    ∙ ap (λ (y : ℕ). y % 2) (shr-shr σ (w * j) b)

pub share_has : (w j σ b : ℕ) → b < w → has (share w j σ) b ≡ has σ (w * j + b)
share_has w j σ b h = has_congr (share w j σ) σ b (w * j + b) (share_bit w j σ b h)
