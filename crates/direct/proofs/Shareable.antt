-- A table can be shared correctly and non-completely with s shares exactly when its degree is below s: the degree bound, for component functions of a
-- sharing as one number, and the direct stage.
use mathlib.Core.Path.{ap, ◌∙◌}
use mathlib.Core.Logic.{◌↔◌}
use mathlib.Core.List.{List}
use Prim.Native.Nat.{ℕ, ◌*◌, ◌^◌, ◌≤◌, ◌<◌}
use native.Mathlib.Decide.{dec_lt}
use native.Mathlib.Omega.{arith}
use Rattle.finite.proofs.Sums.{xor_below_ext}
use Rattle.anf.specs.NormalForm.{degree}
use Rattle.anf.specs.Points.{Points}
use Rattle.anf.specs.Tables.{entry}
use Rattle.anf.proofs.Degree.{degree_bound}
use Rattle.anf.specs.Tables.{TableFits}
use Rattle.sharing.specs.Stages.{component}
use Rattle.sharing.specs.Sharing.{packed}
use Rattle.sharing.proofs.Sharing.{sum_shares}
use Rattle.sharing.proofs.Packing.{packed_lt, packed_set, share_packed}
use Rattle.direct.specs.Direct.{component_for, direct_stage, Shareable}
use Rattle.direct.proofs.Placement.{rule_outside}
use Rattle.direct.proofs.Stage.{direct_correct, direct_non_complete}

module _ (m s : ℕ) (t : List ℕ) (some : 1 ≤ s) where
  pub shareable_low : Shareable m s t → degree m (entry t) < s
  shareable_low F = at (dec_lt (degree m (entry t)) s)
    where
      small : (xs : List ℕ) → Points m s xs → packed m s xs < 2 ^ (m * s)
      small xs p = packed_lt m s xs p.below

      at : Dec (degree m (entry t) < s) → degree m (entry t) < s
      at (yes l) = l
      at (no n) =
          absurd (degree_bound m s (entry t) (λ j xs. F.F j (packed m s xs)) some
          (λ j l. let w = F.non_complete j l in
          (w.0, w.1, λ xs p v k. ap (F.F j) (packed_set m s xs p.size p.below w.0 v w.1 k) ∙ w.2 (packed m s xs) (small xs p) v k))
          (λ xs p. F.correct (packed m s xs) (small xs p)
          ∙ ap (entry t) (sum_shares m s (packed m s xs) ∙ xor_below_ext s _ _ (share_packed m s xs p.below)))
          (omega arith))

  pub low_shareable : TableFits m t → degree m (entry t) < s → Shareable m s t
  low_shareable fits low = record {
    F = component m (direct_stage m s (component_for s) t).lists;
    correct = direct_correct m s (component_for s) (rule_outside s) t fits low;
    non_complete = direct_non_complete m s (component_for s) (rule_outside s) t;
  }

  pub shareable_exactly : TableFits m t → Shareable m s t ↔ degree m (entry t) < s
  shareable_exactly fits = (shareable_low, low_shareable fits)
