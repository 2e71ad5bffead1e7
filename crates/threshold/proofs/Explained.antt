-- A run answers exactly what is explained. Assumes nothing.
use mathlib.Core.Path.{◌≡◌, refl, sym, ◌∙◌, subst}
use mathlib.Core.Logic.{◌↔◌}
use mathlib.Core.Bool.{Bool, true, false}
use mathlib.Core.List.{List}
use Prim.Native.Nat.{ℕ, ◌≤◌}
use native.Mathlib.Omega.{arith}
use lib.Dec.{ltb}
use borrow.Author.Tests.{lt-ltb, le-ltb, ltb-true, ltb-false, eq-eqb, eqb-true}
use Rattle.std.proofs.lemmas.Bool.{cases_Bool, false_from_ne_true}
use mathlib.Core.Logic.{⊎_elim}
use Rattle.finite.specs.Tests.{pick}
use Rattle.finite.proofs.Testing.{all_at, all_intro, clash, pick_true, pick_false}
use Rattle.design.specs.Limits.{greatest_shares}
use Rattle.records.specs.Design.{Design}
use Rattle.design.specs.Reading.{Reading, refused, means, reading}
use Rattle.design.proofs.Limits.{bounds}
use Rattle.design.proofs.Theorems.{read_formed}
use Rattle.threshold.specs.Running.{share_fits, shares_fit, Ran, refused_run, finished_run, running_on, running}
use Rattle.threshold.specs.Explained.{SharesFit, RunningExplained, file_refused, shares_wrong, runs}

-- the test of the shares, as a proposition
module _ (d : Design) (l : List ℕ) (few : d.s ≤ greatest_shares) where
  fits : shares_fit d.m d.s l ≡ true → SharesFit d l
  unfolding shares_fit share_fits
  fits e = record {
    used = λ j h. ltb-true _ _ (sym (pick_true (ltb j d.s) _ _ (lt-ltb _ _ h)) ∙ all_at greatest_shares _ e j (omega (arith, few, h)));
    unused = λ j h k. eqb-true _ _ (sym (pick_false (ltb j d.s) _ _ (le-ltb _ _ h)) ∙ all_at greatest_shares _ e j k);
  }

  passes : SharesFit d l → shares_fit d.m d.s l ≡ true
  unfolding shares_fit share_fits
  passes w =
      all_intro greatest_shares _
      (λ j k. ⊎_elim
      (λ (e : ltb j d.s ≡ true). pick_true (ltb j d.s) _ _ e ∙ lt-ltb _ _ (w.used j (ltb-true _ _ e)))
      (λ (e : ltb j d.s ≡ false). pick_false (ltb j d.s) _ _ e ∙ eq-eqb _ _ (w.unused j (ltb-false _ _ e) k))
      (cases_Bool (ltb j d.s)))

module _ (f l : List ℕ) where
  few_shares : (d : Design) → reading f ≡ means d → d.s ≤ greatest_shares
  few_shares d e = (bounds d.m d.s d.k (read_formed f d e).limits).s_high

  explained : RunningExplained f l (running f l)
  unfolding running running_on
  explained = go (reading f) refl
    where
      of_design : (d : Design) → reading f ≡ means d → (b : Bool) → shares_fit d.m d.s l ≡ b
          → RunningExplained f l (pick b (finished_run d l) (refused_run 15))
      of_design d e true q = runs d e (fits d l (few_shares d e) q)
      of_design d e false q = shares_wrong d e (λ w. clash (passes d l (few_shares d e) w) q)

      go : (r : Reading) → reading f ≡ r → RunningExplained f l (running_on r l)
      go (refused r p) e = file_refused r p e
      go (means d) e = of_design d e (shares_fit d.m d.s l) refl

  answered : (v : Ran) → RunningExplained f l v → running f l ≡ v
  unfolding running running_on
  answered v (file_refused r p e) = rw e refl
  answered v (shares_wrong d e h) = rw e (pick_false _ _ _ (false_from_ne_true _ (λ q. h (fits d l (few_shares d e) q))))
  answered v (runs d e w) = rw e (pick_true _ _ _ (passes d l (few_shares d e) w))

-- an answer is given exactly when it is explained
pub running_exactly : (f l : List ℕ) (v : Ran) → (running f l ≡ v) ↔ RunningExplained f l v
running_exactly f l v = (λ e. subst (RunningExplained f l) e (explained f l), answered f l v)
