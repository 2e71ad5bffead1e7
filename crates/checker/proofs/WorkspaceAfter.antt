-- The workspace after a verdict, by its reason: as it was with 1 to 9, else zero where the design asked for it. Assumes nothing.
use mathlib.Core.Path.{◌≡◌, ap, ◌∙◌}
use mathlib.Core.Logic.{◌⊎◌}
use mathlib.Core.List.{List}
use Prim.Native.Nat.{ℕ, ◌≤◌}
use lib.ListN.{length, take, drop, replicate, length-replicate}
use lib.Seq.{take_at, drop_at}
use Rattle.records.specs.Design.{Design}
use Rattle.design.specs.Reading.{means, meaning, reading}
use Rattle.design.proofs.Meaning.{read_means}
use Rattle.checker.specs.Verdict.{workspace_for, zeroed, workspace_after, verdict}
use Rattle.checker.proofs.Workspace.{untouched, cleared}

module _ (f ws : List ℕ) where
  pub workspace_untouched : 1 ≤ (verdict f (length ws)).reason → (verdict f (length ws)).reason ≤ 9 → workspace_after f ws ≡ ws
  unfolding workspace_after
  workspace_untouched l h = untouched (meaning f) (verdict f (length ws)).reason ws l h

  module _ (d : Design) (e : reading f ≡ means d) (r : ((verdict f (length ws)).reason ≡ 0) ⊎ (10 ≤ (verdict f (length ws)).reason)) where
    left : workspace_after f ws ≡ zeroed (workspace_for d.m d.s) ws
    unfolding workspace_after
    left = rw (read_means f d e) (cleared (meaning f) (verdict f (length ws)).reason ws r)

    pub workspace_zeroed : (take (workspace_for d.m d.s) (workspace_after f ws) ≡ replicate (workspace_for d.m d.s) 0)
        × (drop (workspace_for d.m d.s) (workspace_after f ws) ≡ drop (workspace_for d.m d.s) ws)
    workspace_zeroed = (
      ap (take (workspace_for d.m d.s)) left ∙ take_at (replicate (workspace_for d.m d.s) 0) _ _ (length-replicate {A = ℕ} _ 0),
      ap (drop (workspace_for d.m d.s)) left ∙ drop_at (replicate (workspace_for d.m d.s) 0) _ _ (length-replicate {A = ℕ} _ 0),
    )
