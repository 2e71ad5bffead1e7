-- A function that ignores no share depends on each: for each share some change of that share alone changes its value. Assumes nothing.
use mathlib.Core.Path.{◌≡◌}
use mathlib.Core.Logic.{◌↔◌}
use mathlib.Core.Bool.{Bool, true, false, not}
use Prim.Native.Nat.{ℕ, ◌*◌, ◌^◌}
use lib.Dec.{eqb}
use borrow.Author.Tests.{eqb-true, eqb-false, not-true, not-false}
use Rattle.std.proofs.lemmas.Bool.{true_from_ne_false}
use Rattle.finite.specs.Tests.{any}
use Rattle.finite.proofs.Testing.{any_some, any_none}
use Rattle.sharing.specs.Sharing.{with_share}
use Rattle.sharing.specs.Stages.{Ignores, IgnoresSome, DependsOn, DependsOnAll}

module _ (w s : ℕ) (f : ℕ → ℕ) where
  -- some change of share e changes the value
  changes : ℕ → Bool
  changes e = any (2 ^ (w * s)) (λ σ. any (2 ^ w) (λ v. not (eqb (f (with_share w e v σ)) (f σ))))

  unchanged : (e : ℕ) → changes e ≡ false → Ignores w s e f
  unfolding changes
  unchanged e t σ l v k = eqb-true _ _ (not-false _ (any_none (2 ^ w) _ (any_none (2 ^ (w * s)) _ t σ l) v k))

  changed : (e : ℕ) → changes e ≡ true → DependsOn w s e f
  unfolding changes
  changed e t =
      let a = any_some (2 ^ (w * s)) _ t in
      let b = any_some (2 ^ w) _ a.2 in
      (a.0, a.1, b.0, b.1, eqb-false _ _ (not-true _ b.2))

  pub depends_exactly : (¬ IgnoresSome w s f) ↔ DependsOnAll w s f
  depends_exactly = (
    λ n e l. changed e (true_from_ne_false _ (λ t. n (e, l, unchanged e t))),
    λ h g. let d = h g.0 g.1 in d.4 (g.2 d.0 d.1 d.2 d.3),
  )
