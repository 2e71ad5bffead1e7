-- What a map gives that spreads the sharings of each secret equally: no test of it that ignores a share tells one secret from another.
-- Assumes nothing.
use mathlib.Core.Path.{◌≡◌, refl, sym, ap, ◌∙◌}
use mathlib.Core.Bool.{Bool, false, ◌&&◌}
use Prim.Native.Nat.{ℕ, ◌*◌, ◌^◌, ◌<◌}
use native.Mathlib.Decide.{ℕ_discrete}
use lib.Dec.{eqb}
use Rattle.finite.specs.Tests.{all, count, implies}
use Rattle.finite.proofs.Testing.{all_congr}
use Rattle.sharing.specs.Sharing.{share, sum, setting, with_share}
use Rattle.sharing.specs.Stages.{IgnoresSome}
use Rattle.sharing.proofs.Sharing.{share_with}
use Rattle.sharing.proofs.Spreads.{Spreads, setting_passed, blind_passed}

-- what is read of a sharing by who depends on the shares that pass dep: it is the same of two sharings that differ in another share
reads_blind : (n s : ℕ) (dep : ℕ → Bool) (e q : ℕ) → dep e ≡ false → (σ u : ℕ) → u < 2 ^ n
    → all s (λ i. implies (dep i) (eqb (share n i (with_share n e u σ)) (share n i q))) ≡ all s (λ i. implies (dep i) (eqb (share n i σ) (share n i q)))
reads_blind n s dep e q none σ u lu = all_congr s _ _ (λ i l. at i (ℕ_discrete i e))
  where
    at : (i : ℕ) → Dec (i ≡ e) → implies (dep i) (eqb (share n i (with_share n e u σ)) (share n i q)) ≡ implies (dep i) (eqb (share n i σ) (share n i q))
    at i (yes z) = rw (z, none) refl
    at i (no d) = ap (λ (x : ℕ). implies (dep i) (eqb x (share n i q))) (share_with n e i u σ d lu)

-- how many sharings of x pass a test of what h gives
abbrev pub passed : ℕ → ℕ → (ℕ → ℕ) → ℕ → (ℕ → Bool) → ℕ
passed s n h x p = count (2 ^ (n * s)) (λ σ. eqb (sum n s σ) x && p (h σ))

module _ (s n w K : ℕ) (h g : ℕ → ℕ) (c : Spreads s n w K h g) (x y : ℕ) (lx : x < 2 ^ n) (ly : y < 2 ^ n) where
  -- tests of the setting without share e,
  pub same_settings : (e : ℕ) → e < s → (p : ℕ → Bool) → passed s n h x (λ τ. p (setting w e τ)) ≡ passed s n h y (λ τ. p (setting w e τ))
  same_settings e le p = setting_passed s n w K h g c x lx e le p ∙ sym (setting_passed s n w K h g c y ly e le p)

  -- any test that ignores share e,
  pub same_blind : (e : ℕ) → e < s → (p : ℕ → Bool) → ((τ : ℕ) → τ < 2 ^ (w * s) → (u : ℕ) → u < 2 ^ w → p (with_share w e u τ) ≡ p τ)
      → passed s n h x p ≡ passed s n h y p
  same_blind e le p blind = blind_passed s n w K h g c x lx e le p blind ∙ sym (blind_passed s n w K h g c y ly e le p blind)

  -- whether a function that ignores a share gives the value z,
  pub same_values : (f : ℕ → ℕ) (z : ℕ) → IgnoresSome w s f → passed s n h x (λ τ. eqb (f τ) z) ≡ passed s n h y (λ τ. eqb (f τ) z)
  same_values f z some = same_blind some.0 some.1 (λ τ. eqb (f τ) z) (λ τ l u lu. ap (λ (r : ℕ). eqb r z) (some.2 τ l u lu))

  -- and whether one that depends on some shares, and not on share e, reads the same as of q
  pub same_reads : (dep : ℕ → Bool) (e q : ℕ) → e < s → dep e ≡ false
      → passed s n h x (λ τ. all s (λ i. implies (dep i) (eqb (share w i τ) (share w i q))))
      ≡ passed s n h y (λ τ. all s (λ i. implies (dep i) (eqb (share w i τ) (share w i q))))
  same_reads dep e q le none =
      same_blind e le (λ τ. all s (λ i. implies (dep i) (eqb (share w i τ) (share w i q)))) (λ τ l u lu. reads_blind w s dep e q none τ u lu)
