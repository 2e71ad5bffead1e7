-- What is answered and left at each way out of `judge` and `judge_design`, over plain values: d is the design, ws the workspace that came in, v the refusal,
-- j the verdict with its trials. A premise is a test as the code has it, or what a call's contract says of its result.
-- Assumes nothing.
use mathlib.Core.Path.{◌≡◌, sym, ap, ap₂, ◌∙◌}
use mathlib.Core.Logic.{◌⊎◌, inr}
use mathlib.Core.List.{List}
use Rattle.reasons.specs.Numbers.{number}
use Rattle.records.specs.Design.{Design}
use Rattle.design.specs.WellFormed.{WellFormed}
use mathlib.Core.Bool.{Bool, true, false, not}
use Prim.Native.Nat.{ℕ, ◌^◌, ◌<◌, ◌≤◌}
use native.Mathlib.Omega.{arith}
use lib.ListN.{length}
use lib.Dec.{ltb}
use borrow.Author.Tests.{lt-ltb, le-ltb, not-false}
use Rattle.finite.specs.Maps.{repeats}
use Rattle.finite.proofs.Faults.{fault_here, fault_past}
use Rattle.finite.proofs.Maps.{repeats→injective}
use Rattle.anf.specs.Tables.{entry}
use Rattle.design.specs.Reading.{Reading, refused, means, reading, meaning}
use Rattle.design.proofs.Meaning.{read_means}
use Rattle.design.proofs.Reasons.{reason_range}
use Rattle.checker.specs.Verdict.{Verdict, answer, workspace_for, chain_is_box, judged, judged_reading, verdict, zeroed, workspace_left, workspace_after}
use Rattle.checker.specs.Trials.{Judged, counted, trials_of, trials, judging}
use Rattle.checker.specs.Outcome as outcome
use Rattle.checker.specs.Inside.Parts.{TablesPermute, with_trials, stages_judged}
use Rattle.design.specs.Errors.{fault_reason}
use Rattle.design.specs.declared.errors.ReadError.{ReadError}
use Rattle.checker.specs.declared.refusals.Refusal.TheVariants as refusals
use Rattle.checker.proofs.Passes.{untried}
use Rattle.checker.proofs.Workspace.{untouched, cleared, late_reasons}
use Rattle.checker.proofs.Chaining.{chain↔, chain_permutes}
use Rattle.checker.proofs.Exactly.{verdict_reads}

-- a verdict with 1 to 11 takes no trials
untried_judged : (d : Design) (a b : Verdict) → a ≡ b → 1 ≤ a.reason → a.reason ≤ 11 → counted a 0 ≡ with_trials d b
untried_judged d a b e l h = ap₂ counted e (sym (untried d a l h) ∙ ap (trials_of d) e)

-- ---- `judge`: the file f is refused with the reason r and the place p, or reads as d

module _ (f : List ℕ) (error : ReadError) (a : refused (number (fault_reason error.fault)) error.place ≡ reading f) where
  abbrev r : ℕ
  r = number (fault_reason error.fault)

  low : 1 ≤ r
  low = (reason_range f r error.place (sym a)).0

  high : r ≤ 7
  high = (reason_range f r error.place (sym a)).1

  unread : (n : ℕ) → answer r error.place 0 ≡ verdict f n
  unfolding verdict judged_reading
  unread n = ap (λ (x : Reading). judged_reading x n) a

  pub unread_judged : (j : Judged) → j ≡ outcome.untried (refusals.Unreadable error) → (n : ℕ) → j ≡ judging f n
  unfolding judging trials
  unread_judged j e n = e ∙ untried_judged (meaning f) _ _ (unread n) low (omega (arith, high))

  pub unread_after : (ws : List ℕ) → ws ≡ workspace_after f ws
  unfolding workspace_after
  unread_after ws = rw (← unread (length ws)) (sym (untouched (meaning f) r ws low (omega (arith, high))))

module _ (f : List ℕ) (d : Design) (a : means d ≡ reading f) where
  pub read_judged : (n : ℕ) (j : Judged) → j ≡ with_trials d (judged d n) → j ≡ judging f n
  unfolding judging trials
  read_judged n j e = e ∙ ap₂ with_trials (read_means f d (sym a)) (sym (verdict_reads f n d (sym a)))

  pub read_after : (ws ws₁ : List ℕ) → ws₁ ≡ workspace_left d (judged d (length ws)).reason ws → ws₁ ≡ workspace_after f ws
  unfolding workspace_after
  read_after ws ws₁ e =
      e ∙ ap₂ (λ (x : Design) (v : Verdict). workspace_left x v.reason ws) (read_means f d (sym a)) (sym (verdict_reads f (length ws) d (sym a)))

-- ---- `judge_design`: r is whether S repeats an entry, n the workspace that is asked for, c whether the chain of tables is S

module _ (d : Design) (wf : WellFormed d) where
  module _ (b : List ℕ) (eb : b ≡ d.box) (r : Bool) (er : r ≡ repeats (length b) (entry b)) (ws : List ℕ) where
    box : repeats (2 ^ d.m) (entry d.box) ≡ r
    box = sym (er ∙ ap (λ (x : List ℕ). repeats (length x) (entry x)) eb ∙ ap (λ (n : ℕ). repeats n (entry d.box)) wf.box.size)

    -- 8
    module _ (q : r ≡ true) where
      eight : answer 8 0 0 ≡ judged d (length ws)
      unfolding judged
      eight = sym (fault_here _ _ _ _ (box ∙ q))

      pub box_repeated : (j : Judged) → j ≡ outcome.untried refusals.BoxRepeats → j ≡ with_trials d (judged d (length ws))
      box_repeated j e = e ∙ untried_judged d _ _ eight (omega arith) (omega arith)

      pub box_repeated_after : ws ≡ workspace_left d (judged d (length ws)).reason ws
      box_repeated_after = rw (← eight) (sym (untouched d 8 ws (omega arith) (omega arith)))

    module _ (q : r ≡ false) (n : ℕ) (en : n ≡ workspace_for d.m d.s) where
      -- 9
      module _ (h : length ws < n) where
        nine : answer 9 0 0 ≡ judged d (length ws)
        unfolding judged
        nine = sym (fault_past _ _ _ _ (box ∙ q) ∙ fault_here _ _ _ _ (lt-ltb _ _ (omega arith)))

        pub no_room : (j : Judged) → j ≡ outcome.untried refusals.WorkspaceTooSmall → j ≡ with_trials d (judged d (length ws))
        no_room j e = e ∙ untried_judged d _ _ nine (omega arith) (omega arith)

        pub no_room_after : ws ≡ workspace_left d (judged d (length ws)).reason ws
        no_room_after = rw (← nine) (sym (untouched d 9 ws (omega arith) (omega arith)))

      module _ (h : n ≤ length ws) (c : Bool) (ec : c ≡ chain_is_box d) where
        room : ltb (length ws) (workspace_for d.m d.s) ≡ false
        room = le-ltb _ _ (omega arith)

        tested : not (chain_is_box d) ≡ not c
        tested = ap not (sym ec)

        -- what is left where the reason is late
        left : (v : Verdict) → v ≡ judged d (length ws) → (v.reason ≡ 0) ⊎ (10 ≤ v.reason) → (ws₁ : List ℕ) → ws₁ ≡ zeroed n ws
            → ws₁ ≡ workspace_left d (judged d (length ws)).reason ws
        left v e l ws₁ z = rw (← e) (z ∙ ap (λ (x : ℕ). zeroed x ws) en ∙ sym (cleared d v.reason ws l))

        -- 10
        module _ (y : not c ≡ true) where
          ten : answer 10 0 0 ≡ judged d (length ws)
          unfolding judged
          ten = sym (fault_past _ _ _ _ (box ∙ q) ∙ fault_past _ _ _ _ room ∙ fault_here _ _ _ _ (tested ∙ y))

          pub chain_wrong : (j : Judged) → j ≡ outcome.untried refusals.ChainIsNotBox → j ≡ with_trials d (judged d (length ws))
          chain_wrong j e = e ∙ untried_judged d _ _ ten (omega arith) (omega arith)

          pub chain_wrong_after : (ws₁ : List ℕ) → ws₁ ≡ zeroed n ws → ws₁ ≡ workspace_left d (judged d (length ws)).reason ws
          chain_wrong_after ws₁ z = left _ ten (inr (omega arith)) ws₁ z

        module _ (y : not c ≡ false) where
          -- the chain of tables is S, so each table is a permutation, as S is one
          pub tables_permute : TablesPermute d
          unfolding TablesPermute
          tables_permute t l =
              chain_permutes d wf (repeats→injective (2 ^ d.m) (entry d.box) (box ∙ q)) ((chain↔ d).0 (not-false _ (tested ∙ y))) t l

          onward : stages_judged d ≡ judged d (length ws)
          unfolding judged stages_judged
          onward = sym (fault_past _ _ _ _ (box ∙ q) ∙ fault_past _ _ _ _ room ∙ fault_past _ _ _ _ (tested ∙ y))

          pub stages_answer : (j : Judged) → j ≡ with_trials d (stages_judged d) → j ≡ with_trials d (judged d (length ws))
          stages_answer j e = e ∙ ap (with_trials d) onward

          pub stages_after : (ws₁ ws₂ : List ℕ) → ws₁ ≡ zeroed n ws → ws₂ ≡ ws₁ → ws₂ ≡ workspace_left d (judged d (length ws)).reason ws
          stages_after ws₁ ws₂ z e = e ∙ left _ onward (late_reasons d) ws₁ z
