-- What a head within the limits says: the limits as inequalities, one by one, and what follows for products.
use Prim.Native.Nat.{ℕ, ◌+◌, ◌*◌, ◌≤◌, ◌<◌}
use mathlib.Core.Path.{◌≡◌, refl, ap}
use mathlib.Core.Bool.{Bool, true, false}
use native.Mathlib.Omega.{arith}
use native.Mathlib.Nat.{mul-le-mul}
use borrow.Author.Tests.{ltb-false, le-ltb}
use mir.Syntax.{w64}
use mir.Val.{Fits}
use mathlib.Core.List.{[], ◌∷◌}
use Rattle.finite.specs.Tests.{pick}
use Rattle.std.proofs.lemmas.Bool.{or_parts}
use Rattle.design.specs.Limits.{greatest_width, least_shares, greatest_shares, greatest_share_bits, greatest_stages, Head, broken, checked, head_answer}
use Rattle.std.specs.Prelude.{Result, Ok, Err}
use Rattle.reasons.specs.Numbers.{reason_of}
use Rattle.reasons.specs.declared.Reason.{Reason}
use Rattle.reasons.proofs.Numbers.{number_some}
use Rattle.reasons.specs.declared.Reason.TheVariants.{LimitBroken}

pub record Bounds (m s k : ℕ) : Type 0 where
  pub m_low : 1 ≤ m
  pub m_high : m ≤ greatest_width
  pub s_low : least_shares ≤ s
  pub s_high : s ≤ greatest_shares
  pub bits_low : least_shares ≤ m * s
  pub bits : m * s ≤ greatest_share_bits
  pub k_low : 1 ≤ k
  pub k_high : k ≤ greatest_stages

pub product : {m s : ℕ} → m ≤ greatest_width → s ≤ greatest_shares → m * s ≤ greatest_width * greatest_shares
product p q = mul-le-mul p q

-- k stages of a table and b lists each
pub records : {k b : ℕ} → k ≤ greatest_stages → b ≤ greatest_share_bits → k * (1 + b) ≤ greatest_stages * (1 + greatest_share_bits)
records {k} {b} p q = mul-le-mul {n₁ = k} {m₁ = 1 + b} {n₂ = greatest_stages} {m₂ = 1 + greatest_share_bits} p (omega arith)

pub bounds : (m s k : ℕ) → broken m s k ≡ false → Bounds m s k
unfolding broken
bounds m s k e =
    let a = or_parts _ _ e in
    let b = or_parts _ _ a.0 in
    let c = or_parts _ _ b.0 in
    let d = or_parts _ _ c.0 in
    let f = or_parts _ _ d.0 in
    let g = or_parts _ _ f.0 in
    let m_low = ltb-false _ _ g.0 in
    let s_low = ltb-false _ _ f.1 in
    record {
      m_low = m_low;
      m_high = ltb-false _ _ g.1;
      s_low = s_low;
      s_high = ltb-false _ _ d.1;
      bits_low = mul-le-mul {n₁ = 1} {m₁ = least_shares} {n₂ = m} {m₂ = s} m_low s_low;
      bits = ltb-false _ _ c.1;
      k_low = ltb-false _ _ b.1;
      k_high = ltb-false _ _ a.1;
    }

-- and the other way: numbers within the limits break none
pub unbroken : (m s k : ℕ) → 1 ≤ m → m ≤ greatest_width → least_shares ≤ s → s ≤ greatest_shares → m * s ≤ greatest_share_bits → 1 ≤ k → k ≤ greatest_stages
    → broken m s k ≡ false
unfolding broken
unbroken m s k a b c d e f g = simp (le-ltb _ _ a, le-ltb _ _ b, le-ltb _ _ c, le-ltb _ _ d, le-ltb _ _ e, le-ltb _ _ f, le-ltb _ _ g)

-- ---- the numbers of a head within the limits fit a byte of a file each, and their product a word

module _ (m s k : ℕ) (limits : broken m s k ≡ false) where
  pub width_byte : m < 256
  width_byte = omega (arith, (bounds m s k limits).m_high)

  pub shares_byte : s < 256
  shares_byte = omega (arith, (bounds m s k limits).s_high)

  pub bits_fit : Fits w64 (m * s)
  bits_fit = record { fits = omega (arith, (bounds m s k limits).bits) }

-- with fewer stages too
pub one_stage : (m s k : ℕ) → broken m s k ≡ false → broken m s 1 ≡ false
one_stage m s k e = let b = bounds m s k e in unbroken m s 1 b.m_low b.m_high b.s_low b.s_high b.bits (omega arith) (omega arith)

-- ---- the answer of the head's constructor

module _ (m s k : ℕ) where
  pub head_refused : (r : Reason) → ◌≡◌ {A = Result Head Reason} (Err r) (checked m s k) → (r ≡ LimitBroken) × (broken m s k ≡ true)
  head_refused r e = at (broken m s k) refl e
    where
      at : (b : Bool) → broken m s k ≡ b → ◌≡◌ {A = Result Head Reason} (Err r) (pick b (Err LimitBroken) (Ok (record { m = m; s = s; k = k })))
          → (r ≡ LimitBroken) × (broken m s k ≡ true)
      at true q z = (cc, q)
      at false q z = let o : reason_of {T = Head} (Err r) ≡ 0 = ap reason_of z in absurd (number_some r o)

  pub head_made : (h : Head) → ◌≡◌ {A = Result Head Reason} (Ok h) (checked m s k) → h ≡ record { m = m; s = s; k = k }
  head_made h e = at (broken m s k) e
    where
      at : (b : Bool) → ◌≡◌ {A = Result Head Reason} (Ok h) (pick b (Err LimitBroken) (Ok (record { m = m; s = s; k = k }))) → h ≡ record { m = m; s = s; k = k }
      at true z = let o : ◌≡◌ {A = ℕ} 0 4 = ap reason_of z in absurd (omega arith)
      at false z = cc

-- ---- and in numbers

module _ (m s k : ℕ) where
  pub head_answer_lem : head_answer (checked m s k) ≡ pick (broken m s k) (4, []) (0, m ∷ s ∷ k ∷ [])
  head_answer_lem = go (broken m s k)
    where
      go : (b : Bool) → head_answer (pick b (Err LimitBroken) (Ok (record { m = m; s = s; k = k }))) ≡ pick b (4, []) (0, m ∷ s ∷ k ∷ [])
      go true = refl
      go false = refl

  pub head_number : (head_answer (checked m s k)).0 ≡ pick (broken m s k) 4 0
  head_number = go (broken m s k)
    where
      go : (b : Bool) → (head_answer (pick b (Err LimitBroken) (Ok (record { m = m; s = s; k = k })))).0 ≡ pick b 4 0
      go true = refl
      go false = refl
