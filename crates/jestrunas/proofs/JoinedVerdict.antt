-- The verdict on a joined file: where both files are accepted, it is accepted with the workspace that served the first, and has the assurance. S of the second
-- after S of the first is a permutation, the tables of the second go on where those of the first end, and each stage is one of the two files' own.
-- Assumes nothing.
use mathlib.Core.Path.{◌≡◌, refl, sym, ap, ◌∙◌}
use mathlib.Core.List.{List}
use Prim.Native.Nat.{ℕ, ◌+◌, ◌^◌, ◌<◌}
use Rattle.finite.proofs.Maps.{injective_then}
use Rattle.anf.specs.Tables.{Permutation, entry}
use Rattle.records.specs.Design.{Design}
use Rattle.design.specs.WellFormed.{WellFormed}
use Rattle.design.proofs.Theorems.{read_formed}
use Rattle.sharing.specs.Stages.{component, output, Correct, NonComplete, Uniform}
use Rattle.sharing.specs.Chain.{chained}
use Rattle.sharing.proofs.Tables.{chained_append}
use Rattle.checker.specs.Verdict.{answer, verdict}
use Rattle.checker.specs.Accepted.{ChainIsBox, SoundAt, Sound}
use Rattle.checker.specs.Assurance.{Assured, Blind}
use Rattle.checker.proofs.Exactly.{accepted_exactly, reason_sound}
use Rattle.checker.proofs.Assurance.{file_assured}
use Rattle.joiner.specs.Joining.{joined_design, joined, Joinable}
use Rattle.joiner.proofs.JoinedDesign.{through_at, either_stage, joined_reads}

module _ (d e : Design) (v : WellFormed d) (em : d.m ≡ e.m) where
  abbrev S₁ : ℕ → ℕ
  S₁ = entry d.box

  through : (x : ℕ) → x < 2 ^ d.m → entry (joined_design d e).box x ≡ entry e.box (S₁ x)
  through = through_at d.m d.box e.box v.box

  joined_permutes : Permutation d.m d.box → Permutation e.m e.box → Permutation d.m (joined_design d e).box
  joined_permutes p q x y lx ly h =
      injective_then (2 ^ d.m) S₁ (entry e.box) v.box.below p (rw em q) x y lx ly (sym (through x lx) ∙ h ∙ through y ly)

  joined_chain : ChainIsBox d → ChainIsBox e → ChainIsBox (joined_design d e)
  joined_chain p q x l =
      chained_append d.stages e.stages x ∙ ap (chained e.stages) (p x l) ∙ q (S₁ x) (rw em at (v.box.below x l)) ∙ sym (through x l)

  stages_sound : d.s ≡ e.s → ((t : ℕ) → t < d.k → SoundAt d t) → ((t : ℕ) → t < e.k → SoundAt e t) → (t : ℕ) → t < d.k + e.k → SoundAt (joined_design d e) t
  stages_sound es p q t l = record {
    correct =
        either_stage (λ x. Correct d.m d.s (component d.m x.lists) x.table) d e v.count (λ i h. (p i h).correct) (λ i h. rw (em, es) (q i h).correct) t l;
    non_complete =
        either_stage (λ x. NonComplete d.m d.s (component d.m x.lists)) d e v.count (λ i h. (p i h).non_complete) (λ i h. rw (em, es) (q i h).non_complete) t l;
    uniform =
        either_stage (λ x. Uniform d.m d.s (output x.lists) x.table) d e v.count (λ i h. (p i h).uniform) (λ i h. rw (em, es) (q i h).uniform) t l;
  }

  -- of two designs, in files or not
  pub joined_sound : d.s ≡ e.s → Sound d → Sound e → Sound (joined_design d e)
  joined_sound es a b =
      record { box = joined_permutes a.box b.box; chain = joined_chain a.chain b.chain; stages = stages_sound es a.stages b.stages }

pub joined_accepted : (f g : List ℕ) (d e : Design) (n n' : ℕ) → Joinable f g d e → (verdict f n).reason ≡ 0 → (verdict g n').reason ≡ 0
    → (verdict (joined f g) n ≡ answer 0 (d.k + e.k) 0) × Assured (joined f g) (joined_design d e) × Blind (joined_design d e)
joined_accepted f g d e n n' j za zb =
    let a = reason_sound f n d j.first za in
    let b = reason_sound g n' e j.second zb in
    let reads = joined_reads f g d e j in
    let sound = joined_sound d e (read_formed f d j.first) j.width j.shares a.1 b.1 in
    let w = file_assured (joined f g) (joined_design d e) reads sound in (
      (accepted_exactly (joined f g) n (d.k + e.k)).1 (joined_design d e, refl, record { reads = reads; room = a.0; sound = sound }),
      w.0,
      w.1,
    )
