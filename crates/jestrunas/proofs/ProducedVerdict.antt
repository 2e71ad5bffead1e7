-- What the producer writes, judged: accepted or 14, never another number, as its stage is correct and non-complete.
-- Assumes nothing.
use mathlib.Core.Path.{◌≡◌, refl, ap}
use mathlib.Core.Logic.{◌⊎◌, inl, inr}
use mathlib.Core.List.{List}
use Prim.Native.Nat.{ℕ, ◌+◌, ◌≤◌, ◌<◌}
use native.Mathlib.Omega.{arith}
use Rattle.anf.specs.NormalForm.{degree}
use Rattle.anf.specs.Tables.{entry}
use Rattle.records.specs.Design.{Design}
use Rattle.design.proofs.Theorems.{read_formed}
use Rattle.checker.specs.Verdict.{Verdict, answer, workspace_for, judged, verdict}
use Rattle.checker.specs.Accepted.{ExplainedDesign, fault_8, fault_9, fault_10, fault_12, fault_13, fault_14, accepted}
use Rattle.checker.proofs.Exactly.{judged_explained, verdict_reads}
use Rattle.direct.specs.Direct.{Loads, placed, direct_stage, direct_sharing, Box}
use Rattle.producer.specs.Producing.{produced}
use Rattle.producer.proofs.Theorems.{ProducedSound, produced_sound}

module _ (m s n : ℕ) (t l : List ℕ) (b : Box m s t) (a : Loads s l) (low : degree m (entry t) < s) (room : workspace_for m s ≤ n) where
  sound : ProducedSound m s t l
  sound = produced_sound m s t l b a low

  abbrev d : Design
  d = direct_sharing m s (placed s l) t

  -- there is one stage
  outcome : (v : Verdict) → ExplainedDesign n d v → (v ≡ answer 0 1 0) ⊎ (v ≡ answer 14 1 0)
  unfolding direct_sharing direct_stage
  outcome v (fault_8 h) = absurd (h (λ x y lx ly q. b.injective x y lx ly q))
  outcome v (fault_9 p h) = absurd (omega arith)
  outcome v (fault_10 p r h) = absurd (h (λ x lx. sound.chain x))
  outcome v (fault_12 i r p q h) = let z : i ≡ 0 = omega arith in absurd (rw z at h sound.correctly)
  outcome v (fault_13 i j r p q c k o h) = let z : i ≡ 0 = omega arith in absurd (rw z at h (sound.non_completely j k))
  outcome v (fault_14 i r p q c o h) = let z : i ≡ 0 = omega arith in inr (ap (λ (x : ℕ). answer 14 (x + 1) 0) z)
  outcome v (accepted r p) = inl refl

  pub produced_verdict : (verdict (produced m s t l) n ≡ answer 0 1 0) ⊎ (verdict (produced m s t l) n ≡ answer 14 1 0)
  produced_verdict =
      rw (verdict_reads (produced m s t l) n d sound.reads)
      (outcome (judged d n) (judged_explained n d (read_formed (produced m s t l) d sound.reads)))
