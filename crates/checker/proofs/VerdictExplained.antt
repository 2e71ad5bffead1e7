-- The verdict in both directions: it is given exactly when it is explained. `Exactly` explains what is given; here what is explained is given.
-- Assumes nothing.
use mathlib.Core.Path.{◌≡◌, refl, sym, ap, ◌∙◌, subst}
use mathlib.Core.Logic.{◌↔◌}
use mathlib.Core.List.{List, ◌∷◌}
use mathlib.Core.Bool.{Bool, true, false, not}
use Prim.Native.Nat.{ℕ, zero, suc, ◌+◌, ◌^◌, ◌≤◌, ◌<◌}
use native.Mathlib.Omega.{arith}
use borrow.Author.Tests.{lt-ltb, le-ltb}
use lib.Dec.{ltb}
use Rattle.std.proofs.lemmas.Bool.{true_from_ne_false, false_from_ne_true}
use Rattle.finite.specs.Tests.{first}
use Rattle.finite.specs.Faults.{first_fault}
use Rattle.finite.proofs.Testing.{first_found, none_any, any_at}
use Rattle.finite.proofs.Faults.{fault_here, fault_past, fault_none}
use Rattle.finite.proofs.Maps.{repeats→injective, injective→repeats}
use Rattle.anf.specs.Tables.{entry, Permutation}
use Rattle.records.specs.Design.{Stage, Design, stage_of}
use Rattle.design.specs.WellFormed.{WellFormed}
use Rattle.design.proofs.Theorems.{read_formed}
use Rattle.sharing.specs.Stages.{correct, depends_on_all, non_complete}
use Rattle.sharing.proofs.Tests.{correct↔, ignores_some↔, non_complete↔, uniform↔, not_non_complete}
use Rattle.checker.specs.Verdict.{Verdict, answer, workspace_for, chain_is_box, stages_faults, judged, judged_reading, verdict}
use Rattle.checker.specs.Accepted.{CorrectAt, IgnoresSomeAt, NonCompleteAt, UniformAt, SoundAt, SoundBefore, HasRoom, ExplainedDesign, Explained}
use Rattle.checker.specs.Accepted.{fault_8, fault_9, fault_10, fault_12, fault_13, fault_14, accepted, refusal, of_design}
use Rattle.checker.proofs.StageVerdicts.{stage_then, stages_from, stages_next, stages_end}
use Rattle.checker.proofs.Chaining.{chain↔}
use Rattle.checker.proofs.Exactly.{explained, verdict_reads}

-- ---- one stage, where those after it answer `onward`

module _ (d : Design) (t : ℕ) (onward : Verdict) where
  abbrev stage : Stage
  stage = stage_of d t

  not_correct : ¬ CorrectAt d t → stage_then d t onward ≡ answer 12 (t + 1) 0
  not_correct n = fault_here _ _ _ _ (ap not (false_from_ne_true _ (λ e. n ((correct↔ d.m d.s stage).0 e))))

  module _ (right : CorrectAt d t) where
    past_correct : not (correct d.m d.s stage) ≡ false
    past_correct = ap not ((correct↔ d.m d.s stage).1 right)

    not_alone : (j : ℕ) → j < d.s → ((i : ℕ) → i < j → IgnoresSomeAt d t i) → ¬ IgnoresSomeAt d t j → stage_then d t onward ≡ answer 13 (t + 1) (j + 1)
    not_alone j l before n =
        let p = depends_on_all d.m d.s stage in
        let here : p j ≡ true = true_from_ne_false _ (λ e. n ((ignores_some↔ d.m d.s stage j).0 e)) in
        let lowest : first d.s p ≡ j = first_found d.s p j l (none_any j p (λ i k. (ignores_some↔ d.m d.s stage i).1 (before i k))) here in
        fault_past _ _ _ _ past_correct ∙ fault_here _ _ _ _ (not_non_complete d.m d.s stage ∙ any_at d.s p j l here)
        ∙ ap (λ (x : ℕ). answer 13 (t + 1) (x + 1)) lowest

    module _ (alone : NonCompleteAt d t) where
      past_alone : not (non_complete d.m d.s stage) ≡ false
      past_alone = ap not ((non_complete↔ d.m d.s stage).1 alone)

      not_even : ¬ UniformAt d t → stage_then d t onward ≡ answer 14 (t + 1) 0
      not_even n =
          fault_past _ _ _ _ past_correct ∙ fault_past _ _ _ _ past_alone
          ∙ fault_here _ _ _ _ (ap not (false_from_ne_true _ (λ e. n ((uniform↔ d.m d.s stage).0 e))))

  stage_sound : SoundAt d t → stage_then d t onward ≡ onward
  stage_sound s =
      fault_past _ _ _ _ (past_correct s.correct) ∙ fault_past _ _ _ _ (past_alone s.correct s.non_complete)
      ∙ fault_past _ _ _ _ (ap not ((uniform↔ d.m d.s stage).1 s.uniform)) ∙ fault_none onward

-- ---- a design

module _ (n : ℕ) (d : Design) (wf : WellFormed d) where
  -- the stages from t on, where those before it are sound
  reached : (t : ℕ) → t ≤ d.k → ((i : ℕ) → i < t → SoundAt d i) → stages_from d 0 ≡ stages_from d t
  reached zero l b = refl
  reached (suc t) l b =
      reached t (omega (arith, l)) (λ i k. b i (omega (arith, k)))
      ∙ stages_next d t (omega (arith, wf.count, l)) ∙ stage_sound d t _ (b t (omega arith)) ∙ ap (stages_from d) (omega arith)

  abbrev chain_faults : List (Bool × Verdict)
  chain_faults = (not (chain_is_box d), answer 10 0 0) ∷ stages_faults d 1 d.stages

  past_box : Permutation d.m d.box → judged d n ≡ first_fault ((ltb n (workspace_for d.m d.s), answer 9 0 0) ∷ chain_faults) (answer 0 d.k 0)
  unfolding judged
  past_box box = fault_past _ _ _ _ (injective→repeats _ _ box)

  past_room : Permutation d.m d.box → HasRoom n d → judged d n ≡ first_fault chain_faults (answer 0 d.k 0)
  past_room box room = past_box box ∙ fault_past _ _ _ _ (le-ltb _ _ room)

  at_stage : (t : ℕ) → t ≤ d.k → HasRoom n d → SoundBefore d t → judged d n ≡ stages_from d t
  at_stage t l room p = past_room p.box room ∙ fault_past _ _ _ _ (ap not ((chain↔ d).1 p.chain)) ∙ reached t l p.stages

  -- what is to be answered of stage t
  of_stage : (t : ℕ) → t < d.k → HasRoom n d → SoundBefore d t → judged d n ≡ stage_then d t (stages_from d (t + 1))
  of_stage t l room p = at_stage t (omega (arith, l)) room p ∙ stages_next d t (omega (arith, wf.count, l))

  pub explained_judged : (v : Verdict) → ExplainedDesign n d v → judged d n ≡ v
  explained_judged v (fault_8 h) = unfold judged in fault_here _ _ _ _ (true_from_ne_false _ (λ e. h (repeats→injective (2 ^ d.m) (entry d.box) e)))
  explained_judged v (fault_9 b l) = past_box b ∙ fault_here _ _ _ _ (lt-ltb _ _ l)
  explained_judged v (fault_10 b r h) = past_room b r ∙ fault_here _ _ _ _ (ap not (false_from_ne_true _ (λ e. h ((chain↔ d).0 e))))
  explained_judged v (fault_12 t r p l h) = of_stage t l r p ∙ not_correct d t _ h
  explained_judged v (fault_13 t j r p l c k b h) = of_stage t l r p ∙ not_alone d t _ c j k b h
  explained_judged v (fault_14 t r p l c o h) = of_stage t l r p ∙ not_even d t _ c o h
  explained_judged v (accepted r p) = at_stage d.k (omega arith) r p ∙ stages_end d d.k (sym wf.count)

-- ---- a file

explained_given : (f : List ℕ) (n : ℕ) (v : Verdict) → Explained f n v → verdict f n ≡ v
explained_given f n v (refusal r p e w) = unfold verdict judged_reading in rw e refl
explained_given f n v (of_design d e w x) = verdict_reads f n d e ∙ explained_judged n d (read_formed f d e) v x

-- a verdict is given exactly when it is explained
pub verdict_exactly : (f : List ℕ) (n : ℕ) (v : Verdict) → (verdict f n ≡ v) ↔ Explained f n v
verdict_exactly f n v = (λ e. subst (Explained f n) e (explained f n), explained_given f n v)
