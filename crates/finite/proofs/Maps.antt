-- What `repeats` says: where no value repeats, the map is injective, and the other way round. Assumes nothing.
use mathlib.Core.Path.{◌≡◌, sym}
use mathlib.Core.Bool.{true, false}
use Prim.Native.Nat.{ℕ, ◌<◌}
use native.Mathlib.Decide.{dec_lt}
use native.Mathlib.Omega.{arith}
use lib.Dec.{eqb}
use borrow.Author.Tests.{eqb-true, eq-eqb}
use Rattle.finite.specs.Maps.{Injective, met_before, repeats}
use Rattle.finite.proofs.Testing.{any_at, any_some, clash}
use Rattle.std.proofs.lemmas.Bool.{false_from_ne_true}

-- one injective map after another
pub injective_then : (N : ℕ) (h h' : ℕ → ℕ) → ((x : ℕ) → x < N → h x < N) → Injective N h → Injective N h' → Injective N (λ x. h' (h x))
injective_then N h h' into i i' a b la lb e = i a b la lb (i' (h a) (h b) (into a la) (into b lb) e)

module _ (n : ℕ) (f : ℕ → ℕ) where
  -- equal values at two places repeat
  pub equal_repeats : (i j : ℕ) → j < i → i < n → f j ≡ f i → repeats n f ≡ true
  unfolding repeats met_before
  equal_repeats i j l h e = any_at n _ i h (any_at i (λ k. eqb (f k) (f i)) j l (eq-eqb _ _ e))

  -- where one repeats, there are two such places
  pub repeats_equal : repeats n f ≡ true → (i j : ℕ) × (j < i) × (i < n) × (f j ≡ f i)
  unfolding repeats met_before
  repeats_equal e =
      let a = any_some n (met_before f) e in
      let b = any_some a.0 (λ j. eqb (f j) (f a.0)) a.2 in
      (a.0, b.0, b.1, a.1, eqb-true _ _ b.2)

  -- where none repeats, f is injective
  pub repeats→injective : repeats n f ≡ false → Injective n f
  repeats→injective h i j li lj e = go (dec_lt i j) (dec_lt j i)
    where
      go : Dec (i < j) → Dec (j < i) → i ≡ j
      go (yes l) q = absurd (clash (equal_repeats j i l lj e) h)
      go (no p) (yes l) = absurd (clash (equal_repeats i j l li (sym e)) h)
      go (no p) (no q) = omega arith

  pub injective→repeats : Injective n f → repeats n f ≡ false
  injective→repeats inj =
      false_from_ne_true (repeats n f)
      (λ h. let w = repeats_equal h in let e = inj w.1 w.0 (omega (arith, w.2, w.3)) w.3 w.4 in omega (arith, w.2, e))

  pub repeats_clash : repeats n f ≡ true → Injective n f → ⊥
  repeats_clash e inj = clash e (injective→repeats inj)
