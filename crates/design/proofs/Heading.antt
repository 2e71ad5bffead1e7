-- The ways out of `Head::new`, `last`, `kind_due`, `size_due` and `number` over plain values, and that their numbers fit.
-- Assumes nothing.
use Prim.Native.Nat.{ℕ, ◌+◌, ◌*◌, ◌-◌, ◌%◌, ◌^◌, ◌≤◌, ◌<◌}
use mathlib.Core.Path.{◌≡◌, refl, ◌∙◌, sym}
use mathlib.Core.Bool.{false}
use native.Mathlib.Omega.{arith}
use lib.Arith.{digits_lt}
use borrow.Author.Tests.{lt-ltb, le-ltb, eq-eqb, ne_eqb}
use mir.Syntax.{w64}
use mir.Val.{Fits}
use Rattle.design.specs.Limits.{greatest_width, least_shares, greatest_shares, greatest_share_bits, greatest_stages, greatest_terms, greatest_records, broken, checked}
use Rattle.records.specs.Kinds.{code}
use Rattle.records.specs.declared.kind.Kind.{Kind}
use Rattle.records.specs.declared.kind.Kind.TheVariants as kinds
use Rattle.design.specs.Heads.{numbers}
use Rattle.design.specs.declared.heads.Head as heads
use Rattle.design.specs.Reading.{last_of, number_of, kind_due, size_due}
use Rattle.design.specs.Limits.{Head}
use Rattle.std.specs.Prelude.{Ok, Err}
use Rattle.reasons.specs.declared.Reason.TheVariants.{LimitBroken}
use Rattle.design.proofs.Limits.{bounds, product, records}

-- ---- `Head::new`: the limit that is broken first

pub share_bits_fit : (m s : ℕ) → m ≤ greatest_width → s ≤ greatest_shares → Fits w64 (m * s)
share_bits_fit m s a b = record { fits = omega (arith, product a b) }

module _ (m s k : ℕ) where
  pub no_width : m < 1 → Err LimitBroken ≡ checked m s k
  unfolding broken
  no_width h = simp (lt-ltb _ _ h)

  module _ (a : 1 ≤ m) where
    pub too_wide : greatest_width < m → Err LimitBroken ≡ checked m s k
    unfolding broken
    too_wide h = simp (le-ltb _ _ a, lt-ltb _ _ h)

    module _ (b : m ≤ greatest_width) where
      pub few_shares : s < least_shares → Err LimitBroken ≡ checked m s k
      unfolding broken
      few_shares h = simp (le-ltb _ _ a, le-ltb _ _ b, lt-ltb _ _ h)

      module _ (c : least_shares ≤ s) where
        pub many_shares : greatest_shares < s → Err LimitBroken ≡ checked m s k
        unfolding broken
        many_shares h = simp (le-ltb _ _ a, le-ltb _ _ b, le-ltb _ _ c, lt-ltb _ _ h)

        module _ (d : s ≤ greatest_shares) where
          pub many_bits : greatest_share_bits < m * s → Err LimitBroken ≡ checked m s k
          unfolding broken
          many_bits h = simp (le-ltb _ _ a, le-ltb _ _ b, le-ltb _ _ c, le-ltb _ _ d, lt-ltb _ _ h)

          module _ (e : m * s ≤ greatest_share_bits) where
            pub no_stage : k < 1 → Err LimitBroken ≡ checked m s k
            unfolding broken
            no_stage h = simp (le-ltb _ _ a, le-ltb _ _ b, le-ltb _ _ c, le-ltb _ _ d, le-ltb _ _ e, lt-ltb _ _ h)

            module _ (f : 1 ≤ k) where
              pub many_stages : greatest_stages < k → Err LimitBroken ≡ checked m s k
              unfolding broken
              many_stages h = simp (le-ltb _ _ a, le-ltb _ _ b, le-ltb _ _ c, le-ltb _ _ d, le-ltb _ _ e, le-ltb _ _ f, lt-ltb _ _ h)

              pub within : k ≤ greatest_stages → Ok (record { m = m; s = s; k = k }) ≡ checked m s k
              unfolding broken
              within h = simp (le-ltb _ _ a, le-ltb _ _ b, le-ltb _ _ c, le-ltb _ _ d, le-ltb _ _ e, le-ltb _ _ f, le-ltb _ _ h)

-- ---- numbers of a head within the limits

module _ (m s k : ℕ) (l : broken m s k ≡ false) where
  pub stage_fits : Fits w64 (1 + m * s)
  stage_fits = record { fits = omega (arith, (bounds m s k l).bits) }

  pub stages_fit : Fits w64 (k * (1 + m * s))
  stages_fit = let b = bounds m s k l in record { fits = omega (arith, records b.k_high b.bits) }

  pub last_fits : Fits w64 (2 + k * (1 + m * s))
  last_fits = let b = bounds m s k l in record { fits = omega (arith, records b.k_high b.bits) }

  pub last_low : 2 + k * (1 + m * s) < greatest_records
  last_low = let b = bounds m s k l in omega (arith, records b.k_high b.bits)

  pub width_high : m ≤ greatest_width
  width_high = (bounds m s k l).m_high

  pub width_small : (n : ℕ) → 32 ≤ n → m < n
  width_small n h = omega (arith, width_high)

  pub bits_low : m * s ≤ greatest_share_bits
  bits_low = (bounds m s k l).bits

  pub bits_some : 1 ≤ m * s
  bits_some = omega (arith, (bounds m s k l).bits_low)

  -- record l of stage t
  module _ (t r : ℕ) (a : t < k) (b : r ≤ m * s) where
    low : 2 + t * (1 + m * s) + r < 2 + k * (1 + m * s)
    low = let d = digits_lt {r = r} {c = 1 + m * s} a (omega arith) in omega arith

    pub before_fits : Fits w64 (t * (1 + m * s))
    before_fits = let d = low in let e = last_low in record { fits = omega arith }

    pub table_fits : (x : ℕ) → x ≤ 2 → Fits w64 (x + t * (1 + m * s))
    table_fits x h = let d = low in let e = last_low in record { fits = omega arith }

    pub number_fits : (x : ℕ) → x ≤ 2 → Fits w64 (x + t * (1 + m * s) + r)
    number_fits x h = let d = low in let e = last_low in record { fits = omega arith }

    pub number_known : 2 + t * (1 + m * s) + r < greatest_records
    number_known = let d = low in let e = last_low in omega arith

pub last_is : (h : heads.Head) → 2 + h.k * (1 + h.m * h.s) ≡ last_of (numbers h)
unfolding last_of
last_is h = refl

pub number_is : (h : heads.Head) (t l : ℕ) → 2 + t * (1 + h.m * h.s) + l ≡ number_of (numbers h) t l
unfolding number_of
number_is h t l = refl

pub number_before : (h : heads.Head) (t l : ℕ) → broken h.m h.s h.k ≡ false → t < h.k → l ≤ h.m * h.s → 2 + t * (1 + h.m * h.s) + l < last_of (numbers h)
unfolding last_of
number_before h t l b a c = low h.m h.s h.k b t l a c

-- ---- `kind_due` at record i; n is the number of the last

module _ (h : Head) (i : ℕ) where
  pub kind_head : i ≡ 0 → 1 ≡ kind_due h i
  unfolding kind_due
  kind_head e = simp (eq-eqb _ _ e)

  module _ (a : i ≡ 0 → ⊥) where
    pub kind_box : i ≡ 1 → 2 ≡ kind_due h i
    unfolding kind_due
    kind_box e = simp (ne_eqb _ _ a, eq-eqb _ _ e)

    module _ (b : i ≡ 1 → ⊥) (n : ℕ) (en : n ≡ last_of h) where
      pub kind_end : i ≡ n → 4 ≡ kind_due h i
      unfolding kind_due
      kind_end e = simp (ne_eqb _ _ a, ne_eqb _ _ b, eq-eqb _ _ (e ∙ en))

      module _ (c : i ≡ n → ⊥) where
        pub kind_table : (i - 2) % (1 + h.m * h.s) ≡ 0 → 2 ≡ kind_due h i
        unfolding kind_due
        kind_table e = simp (ne_eqb _ _ a, ne_eqb _ _ b, ne_eqb _ _ (λ q. c (q ∙ sym en)), eq-eqb _ _ e)

        pub kind_list : ((i - 2) % (1 + h.m * h.s) ≡ 0 → ⊥) → 3 ≡ kind_due h i
        unfolding kind_due
        kind_list e = simp (ne_eqb _ _ a, ne_eqb _ _ b, ne_eqb _ _ (λ q. c (q ∙ sym en)), ne_eqb _ _ e)

-- ---- `size_due` of a kind

module _ (h : Head) (kind : Kind) where
  pub size_head : kind ≡ kinds.Head → 3 ≡ size_due h (code kind)
  unfolding size_due
  size_head e = rw e refl

  pub size_table : kind ≡ kinds.Table → (r : ℕ) → r ≡ 2 ^ h.m → r ≡ size_due h (code kind)
  unfolding size_due
  size_table e r q = rw e q

  pub size_list : kind ≡ kinds.List → 4 * greatest_terms ≡ size_due h (code kind)
  unfolding size_due
  size_list e = rw e refl

  pub size_end : kind ≡ kinds.End → 0 ≡ size_due h (code kind)
  unfolding size_due
  size_end e = rw e refl
