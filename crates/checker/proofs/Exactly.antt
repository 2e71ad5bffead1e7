-- The verdict explained: the fault that it names is there and none before it in the published order is; and a file is accepted exactly when it has none.
-- Each test is one case, and means its fact by the law of the test. Assumes nothing.
use mathlib.Core.Path.{◌≡◌, refl, sym, ap, ◌∙◌, subst}
use mathlib.Core.Logic.{◌↔◌, ◌≢◌}
use mathlib.Core.List.{List, ◌∷◌}
use mathlib.Core.Bool.{Bool, true, false, not}
use Prim.Native.Nat.{ℕ, zero, suc, ◌+◌, ◌^◌, ◌<◌}
use native.Mathlib.Nat.{not-suc-le-zero}
use native.Mathlib.Omega.{arith}
use borrow.Author.Count.{below_more}
use lib.Dec.{ltb}
use borrow.Author.Tests.{ltb-true, ltb-false, not-true, not-false}
use Rattle.finite.specs.Tests.{first}
use Rattle.finite.specs.Maps.{repeats}
use Rattle.finite.specs.Faults.{first_fault}
use Rattle.finite.proofs.Testing.{any_none, first_is, clash}
use Rattle.finite.proofs.Faults.{fault_either, fault_none}
use Rattle.finite.proofs.Maps.{repeats_clash, repeats→injective}
use Rattle.anf.specs.Tables.{entry}
use Rattle.records.specs.Design.{Design, stage_of}
use Rattle.design.specs.WellFormed.{WellFormed}
use Rattle.design.specs.Reading.{Reading, refused, means, reading}
use Rattle.design.proofs.Theorems.{read_formed}
use Rattle.design.proofs.Reasons.{refused_for, reason_range}
use Rattle.sharing.specs.Stages.{correct, depends_on_all, non_complete, uniform}
use Rattle.sharing.proofs.Tests.{correct↔, ignores_some↔, non_complete↔, not_non_complete, uniform↔}
use Rattle.checker.specs.Verdict.{Verdict, answer, workspace_for, chain_is_box, judged, judged_reading, verdict}
use Rattle.checker.specs.Accepted.{CorrectAt, SoundAt, SoundBefore, Sound, HasRoom, Accepted, ExplainedDesign, Explained}
use Rattle.checker.specs.Accepted.{fault_8, fault_9, fault_10, fault_12, fault_13, fault_14, accepted, refusal, of_design}
use Rattle.checker.proofs.StageVerdicts.{stage_then, stages_from, stages_next, stages_end}
use Rattle.checker.proofs.Chaining.{chain↔}

-- ---- explained

module _ (n : ℕ) (d : Design) (wf : WellFormed d) where
  sound_more : (t : ℕ) → SoundBefore d t → SoundAt d t → SoundBefore d (t + 1)
  sound_more t p s = record { box = p.box; chain = p.chain; stages = below_more _ t p.stages s }

  -- a test and those after it
  either : (b : Bool) (a : Verdict) (fs : List (Bool × Verdict)) (good : Verdict) → (b ≡ true → ExplainedDesign n d a)
      → (b ≡ false → ExplainedDesign n d (first_fault fs good)) → ExplainedDesign n d (first_fault ((b, a) ∷ fs) good)
  either = fault_either (ExplainedDesign n d)

  module _ (room : HasRoom n d) where
    module _ (t : ℕ) (l : t < d.k) (p : SoundBefore d t) where
      abbrev depends_fully : ℕ → Bool
      depends_fully = depends_on_all d.m d.s (stage_of d t)

      offends : not (non_complete d.m d.s (stage_of d t)) ≡ true → CorrectAt d t → ExplainedDesign n d (answer 13 (t + 1) (first d.s depends_fully + 1))
      offends e right =
          let r = first_is d.s depends_fully (sym (not_non_complete d.m d.s (stage_of d t)) ∙ e) in
          fault_13 t (first d.s depends_fully) room p l right r.0
          (λ i k. (ignores_some↔ d.m d.s (stage_of d t) i).0 (any_none (first d.s depends_fully) depends_fully r.2 i k))
          (λ h. clash r.1 ((ignores_some↔ d.m d.s (stage_of d t) (first d.s depends_fully)).1 h))

      stage_explained : (onward : Verdict) → (SoundAt d t → ExplainedDesign n d onward) → ExplainedDesign n d (stage_then d t onward)
      stage_explained onward next =
          let g = stage_of d t in
          either (not (correct d.m d.s g)) _ _ _
          (λ c. fault_12 t room p l (λ h. clash ((correct↔ d.m d.s g).1 h) (not-true _ c)))
          (λ c. let right = (correct↔ d.m d.s g).0 (not-false _ c) in
          either (not (non_complete d.m d.s g)) _ _ _
          (λ a. offends a right)
          (λ a. let alone = (non_complete↔ d.m d.s g).0 (not-false _ a) in
          either (not (uniform d.m d.s g)) _ _ _
          (λ u. fault_14 t room p l right alone (λ h. clash ((uniform↔ d.m d.s g).1 h) (not-true _ u)))
          (λ u. rw (fault_none onward) (next (record { correct = right; non_complete = alone; uniform = (uniform↔ d.m d.s g).0 (not-false _ u) })))))

    -- the stages from t on, where those before it are sound
    stages_explained : (left t : ℕ) → t + left ≡ d.k → SoundBefore d t → ExplainedDesign n d (stages_from d t)
    stages_explained zero t e p =
        let q : t ≡ d.k = omega arith in
        rw (stages_end d t (q ∙ sym wf.count)) (accepted room (subst (SoundBefore d) q p))
    stages_explained (suc left) t e p =
        let onward = stages_explained left (t + 1) (omega arith) in
        rw (stages_next d t (omega (arith, wf.count))) (stage_explained t (omega arith) p _ (λ s. onward (sound_more t p s)))

  -- the verdict on a design, in a file or not
  pub judged_explained : ExplainedDesign n d (judged d n)
  unfolding judged
  judged_explained =
      either (repeats (2 ^ d.m) (entry d.box)) _ _ _
      (λ e. fault_8 (repeats_clash (2 ^ d.m) (entry d.box) e))
      (λ e. let box = repeats→injective (2 ^ d.m) (entry d.box) e in
      either (ltb n (workspace_for d.m d.s)) _ _ _
      (λ l. fault_9 box (ltb-true _ _ l))
      (λ l. let room : HasRoom n d = ltb-false _ _ l in
      either (not (chain_is_box d)) _ _ _
      (λ c. fault_10 box room (λ h. clash ((chain↔ d).1 h) (not-true _ c)))
      (λ c. stages_explained room d.k 0 (omega arith)
      (record { box = box; chain = (chain↔ d).0 (not-false _ c); stages = λ i k. absurd (not-suc-le-zero k) }))))

pub verdict_reads : (f : List ℕ) (n : ℕ) (d : Design) → reading f ≡ means d → verdict f n ≡ judged d n
unfolding verdict judged_reading
verdict_reads f n d e = rw e refl

-- of every file and every workspace
pub explained : (f : List ℕ) (n : ℕ) → Explained f n (verdict f n)
unfolding verdict judged_reading
explained f n = go (reading f) refl
  where
    go : (r : Reading) → reading f ≡ r → Explained f n (judged_reading r n)
    go (refused r p) e = refusal r p e (refused_for f r p e)
    go (means d) e = of_design d e _ (judged_explained n d (read_formed f d e))

-- ---- accepted exactly without fault

module _ (n : ℕ) (d : Design) where
  accepts : (v : Verdict) → ExplainedDesign n d v → v.reason ≡ 0 → (v ≡ answer 0 d.k 0) × HasRoom n d × Sound d
  accepts v (fault_8 h) z = absurd (omega arith)
  accepts v (fault_9 b h) z = absurd (omega arith)
  accepts v (fault_10 b r h) z = absurd (omega arith)
  accepts v (fault_12 t r p l h) z = absurd (omega arith)
  accepts v (fault_13 t j r p l c k b h) z = absurd (omega arith)
  accepts v (fault_14 t r p l c o h) z = absurd (omega arith)
  accepts v (accepted r p) z = (refl, r, p)

  accepted_answer : HasRoom n d → Sound d → (v : Verdict) → ExplainedDesign n d v → v ≡ answer 0 d.k 0
  accepted_answer room s v (fault_8 h) = absurd (h s.box)
  accepted_answer room s v (fault_9 b h) = absurd (omega arith)
  accepted_answer room s v (fault_10 b r h) = absurd (h s.chain)
  accepted_answer room s v (fault_12 t r p l h) = absurd (h (s.stages t l).correct)
  accepted_answer room s v (fault_13 t j r p l c k b h) = absurd (h ((s.stages t l).non_complete j k))
  accepted_answer room s v (fault_14 t r p l c o h) = absurd (h (s.stages t l).uniform)
  accepted_answer room s v (accepted r p) = refl

-- the verdict on a design is 0 exactly where the workspace is enough and no fault is there
module _ (n : ℕ) (d : Design) (wf : WellFormed d) where
  pub judged_sound : (judged d n).reason ≡ 0 → HasRoom n d × Sound d
  judged_sound z = let a = accepts n d (judged d n) (judged_explained n d wf) z in (a.1, a.2)

  pub sound_judged : HasRoom n d → Sound d → judged d n ≡ answer 0 d.k 0
  sound_judged room s = accepted_answer n d room s (judged d n) (judged_explained n d wf)

accepts_file : (f : List ℕ) (n : ℕ) (v : Verdict) → Explained f n v → v.reason ≡ 0 → (d : Design) × (v ≡ answer 0 d.k 0) × Accepted f n d
accepts_file f n v (refusal r p e w) z = absurd (omega (arith, reason_range f r p e))
accepts_file f n v (of_design d e w x) z = let a = accepts n d v x z in (d, a.0, record { reads = e; room = a.1; sound = a.2 })

-- For every file and every workspace length: the reason is 0 exactly when the file reads, S is a permutation, the workspace is enough, the chain of
-- tables is S, and every stage is correct, non-complete and uniform.
pub accepted_exactly : (f : List ℕ) (n k : ℕ) → verdict f n ≡ answer 0 k 0 ↔ ((d : Design) × (d.k ≡ k) × Accepted f n d)
accepted_exactly f n k = (
  λ e. let r = accepts_file f n (verdict f n) (explained f n) (ap (λ (v : Verdict). v.reason) e) in
      (r.0, ap (λ (v : Verdict). v.place) (sym r.1 ∙ e), r.2),
  λ r. let a = r.2 in
      verdict_reads f n r.0 a.reads ∙ sound_judged n r.0 (read_formed f r.0 a.reads) a.room a.sound ∙ ap (λ (x : ℕ). answer 0 x 0) r.1,
)

-- 11 is retired: no verdict answers it
pub eleven_retired : (f : List ℕ) (n : ℕ) → (verdict f n).reason ≢ 11
eleven_retired f n = never_read (verdict f n) (explained f n)
  where
    never : (d : Design) (v : Verdict) → ExplainedDesign n d v → v.reason ≢ 11
    never d v (fault_8 h) z = omega arith
    never d v (fault_9 b h) z = omega arith
    never d v (fault_10 b r h) z = omega arith
    never d v (fault_12 t r p l h) z = omega arith
    never d v (fault_13 t j r p l c k b h) z = omega arith
    never d v (fault_14 t r p l c o h) z = omega arith
    never d v (accepted r p) z = omega arith

    never_read : (v : Verdict) → Explained f n v → v.reason ≢ 11
    never_read v (refusal r p e w) z = omega (arith, reason_range f r p e)
    never_read v (of_design d e w x) z = never d v x z

-- reason 0 alone
pub reason_zero : (f : List ℕ) (n : ℕ) → (verdict f n).reason ≡ 0 → (d : Design) × Accepted f n d
reason_zero f n e = let r = accepts_file f n (verdict f n) (explained f n) e in (r.0, r.2)

-- of a design that is known
pub reason_sound : (f : List ℕ) (n : ℕ) (d : Design) → reading f ≡ means d → (verdict f n).reason ≡ 0 → HasRoom n d × Sound d
reason_sound f n d r e = judged_sound n d (read_formed f d r) (sym (ap (λ (v : Verdict). v.reason) (verdict_reads f n d r)) ∙ e)
