-- A map of sharings of width n to sharings of width w, over plain functions: h moves the sharings, g the values that they share, and each sharing of g x
-- comes from exactly K sharings of x. What is counted after h is counted before it K times, so each setting of all shares but one is met K times, whatever
-- the secret is. Such maps compose, and then K multiplies. No g need be a permutation.
-- Assumes nothing.
use mathlib.Core.Path.{◌≡◌, refl, sym, ap, ◌∙◌, subst}
use mathlib.Core.Bool.{Bool, true, ◌&&◌}
use Prim.Native.Nat.{ℕ, zero, suc, ◌-◌, ◌*◌, ◌^◌, ◌<◌}
use native.Mathlib.Nat.{not-suc-le-zero, le_of_suc-le-suc, mul-one}
use native.Mathlib.Numerals.{sub-one}
use native.Mathlib.Omega.{arith}
use lib.Dec.{eqb}
use lib.Pow.{pow_pos}
use borrow.Author.Tests.{eqb-true, eq-eqb}
use Rattle.finite.specs.Tests.{count}
use Rattle.std.proofs.lemmas.Bool.{and_from, and_parts}
use Rattle.finite.proofs.Counting.{count_congr, count_one, by_part_once}
use Rattle.finite.proofs.Parts.{count_parts}
use Rattle.sharing.specs.Sharing.{sum, setting, put_share, with_share}
use Rattle.sharing.proofs.Sharing.{setting_lt, one_sharing}

-- ---- sharings of width n in s shares: the values and the settings of one secret

module _ (n s x : ℕ) (some_share : 0 < s) (lx : x < 2 ^ n) where
  -- a secret and a setting of all shares but one have one sharing
  setting_once : (e q : ℕ) → e < s → q < 2 ^ (n * (s - 1)) → count (2 ^ (n * s)) (λ σ. eqb (sum n s σ) x && eqb (setting n e σ) q) ≡ 1
  setting_once = go s some_share
    where
      go : (s : ℕ) → 0 < s → (e q : ℕ) → e < s → q < 2 ^ (n * (s - 1)) → count (2 ^ (n * s)) (λ σ. eqb (sum n s σ) x && eqb (setting n e σ) q) ≡ 1
      go zero p e q le lq = absurd (not-suc-le-zero p)
      go (suc s) p e q le lq = one_sharing n s e x q (le_of_suc-le-suc le) lx (subst (λ (k : ℕ). q < 2 ^ (n * k)) (sub-one (suc s)) lq)

  setting_below : (e : ℕ) → e < s → (σ : ℕ) → σ < 2 ^ (n * s) → setting n e σ < 2 ^ (n * (s - 1))
  setting_below = go s some_share
    where
      go : (s : ℕ) → 0 < s → (e : ℕ) → e < s → (σ : ℕ) → σ < 2 ^ (n * s) → setting n e σ < 2 ^ (n * (s - 1))
      go zero p e le σ l = absurd (not-suc-le-zero p)
      go (suc s) p e le σ l = subst (λ (k : ℕ). setting n e σ < 2 ^ (n * k)) (sym (sub-one (suc s))) (setting_lt n s e σ (le_of_suc-le-suc le) l)

  -- as many sharings of x pass a test of the setting as settings pass it
  pub settings_passed : (e : ℕ) → e < s → (p : ℕ → Bool)
      → count (2 ^ (n * s)) (λ σ. eqb (sum n s σ) x && p (setting n e σ)) ≡ count (2 ^ (n * (s - 1))) p
  settings_passed e le p =
      by_part_once (2 ^ (n * s)) (2 ^ (n * (s - 1))) (λ σ. eqb (sum n s σ) x) (setting n e) p (setting_below e le) (λ q lq. setting_once e q le lq)

-- ---- h takes sharings to sharings, and does to the sum of each what g does to it

pub record Maps (s n w : ℕ) (h g : ℕ → ℕ) : Type 0 where
  pub into : (σ : ℕ) → σ < 2 ^ (n * s) → h σ < 2 ^ (w * s)
  pub sums : (σ : ℕ) → σ < 2 ^ (n * s) → sum w s (h σ) ≡ g (sum n s σ)
  pub g_into : (x : ℕ) → x < 2 ^ n → g x < 2 ^ w

-- for each x, each sharing of g x comes from exactly K sharings of x
abbrev pub Each : (s n w K : ℕ) (h g : ℕ → ℕ) → Type 0
Each s n w K h g =
    (x : ℕ) → x < 2 ^ n → (τ : ℕ) → τ < 2 ^ (w * s) → sum w s τ ≡ g x → count (2 ^ (n * s)) (λ σ. eqb (sum n s σ) x && eqb (h σ) τ) ≡ K

pub record Spreads (s n w K : ℕ) (h g : ℕ → ℕ) : Type 0 where
  pub maps : Maps s n w h g
  pub each : Each s n w K h g

module _ (s n w K : ℕ) (h g : ℕ → ℕ) where
  module _ (c : Maps s n w h g) (x : ℕ) where
    pub sum_right : (σ : ℕ) → σ < 2 ^ (n * s) → eqb (sum n s σ) x ≡ true → eqb (sum w s (h σ)) (g x) ≡ true
    sum_right σ l e = eq-eqb (sum w s (h σ)) (g x) (c.sums σ l ∙ ap g (eqb-true (sum n s σ) x e))

  module _ (c : Spreads s n w K h g) (x : ℕ) (lx : x < 2 ^ n) where
    -- a test of what h gives passes K times as often among the sharings of x as the test itself among those of g x
    pub count_spread : (p : ℕ → Bool)
        → count (2 ^ (n * s)) (λ σ. eqb (sum n s σ) x && p (h σ)) ≡ K * count (2 ^ (w * s)) (λ τ. eqb (sum w s τ) (g x) && p τ)
    count_spread =
        count_parts (2 ^ (n * s)) (2 ^ (w * s)) K (λ σ. eqb (sum n s σ) x) h (λ τ. eqb (sum w s τ) (g x)) c.maps.into (sum_right c.maps x)
        (λ q l b. c.each x lx q l (eqb-true (sum w s q) (g x) b))

    -- ---- what h gives, without share e

    module _ (e : ℕ) (le : e < s) where
      some_share : 0 < s
      some_share = omega arith

      gx : g x < 2 ^ w
      gx = c.maps.g_into x lx

      -- each setting is met exactly K times
      pub setting_met : (q : ℕ) → q < 2 ^ (w * (s - 1)) → count (2 ^ (n * s)) (λ σ. eqb (sum n s σ) x && eqb (setting w e (h σ)) q) ≡ K
      setting_met q lq =
          count_spread (λ τ. eqb (setting w e τ) q) ∙ ap (λ (k : ℕ). K * k) (setting_once w s (g x) some_share gx e q le lq) ∙ mul-one K

      -- a test of the setting passes K times as often as settings pass it, which does not depend on x
      pub setting_passed : (p : ℕ → Bool) → count (2 ^ (n * s)) (λ σ. eqb (sum n s σ) x && p (setting w e (h σ))) ≡ K * count (2 ^ (w * (s - 1))) p
      setting_passed p = count_spread (λ τ. p (setting w e τ)) ∙ ap (λ (k : ℕ). K * k) (settings_passed w s (g x) some_share gx e le p)

      -- nor does it for a test that ignores share e: that is a test of the setting
      pub blind_passed : (p : ℕ → Bool) → ((τ : ℕ) → τ < 2 ^ (w * s) → (u : ℕ) → u < 2 ^ w → p (with_share w e u τ) ≡ p τ)
          → count (2 ^ (n * s)) (λ σ. eqb (sum n s σ) x && p (h σ)) ≡ K * count (2 ^ (w * (s - 1))) (λ q. p (put_share w e 0 q))
      blind_passed p blind =
          count_congr (2 ^ (n * s)) (λ σ. eqb (sum n s σ) x && p (h σ)) (λ σ. eqb (sum n s σ) x && p (with_share w e 0 (h σ)))
          (λ σ l. ap (λ (b : Bool). eqb (sum n s σ) x && b) (sym (blind (h σ) (c.maps.into σ l) 0 (pow_pos w))))
          ∙ setting_passed (λ q. p (put_share w e 0 q))

-- ---- nothing done, and one thing after another

pub spreads_none : (s n : ℕ) → Spreads s n n 1 (λ σ. σ) (λ x. x)
spreads_none s n =
    record {
      maps = record { into = λ σ l. l; sums = λ σ l. refl; g_into = λ x l. l };
      each = λ x lx τ lτ e.
          count_one (2 ^ (n * s)) (λ σ. eqb (sum n s σ) x && eqb σ τ) τ lτ (and_from _ _ (eq-eqb _ _ e) (eq-eqb τ τ refl))
          (λ σ l t. eqb-true σ τ (and_parts (eqb (sum n s σ) x) (eqb σ τ) t).1);
    }

pub spreads_then : (s n w v K L : ℕ) (h g h' g' : ℕ → ℕ) → Spreads s n w K h g → Spreads s w v L h' g' → Spreads s n v (K * L) (λ σ. h' (h σ)) (λ x. g' (g x))
spreads_then s n w v K L h g h' g' c d =
    record {
      maps = record {
        into = λ σ l. d.maps.into (h σ) (c.maps.into σ l);
        sums = λ σ l. d.maps.sums (h σ) (c.maps.into σ l) ∙ ap g' (c.maps.sums σ l);
        g_into = λ x l. d.maps.g_into (g x) (c.maps.g_into x l);
      };
      each = λ x lx τ lτ e.
          count_spread s n w K h g c x lx (λ ρ. eqb (h' ρ) τ) ∙ ap (λ (k : ℕ). K * k) (d.each (g x) (c.maps.g_into x lx) τ lτ e);
    }
