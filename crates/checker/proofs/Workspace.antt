-- The workspace: what a verdict leaves of it, bytes zeroed in front, bytes as they were.
-- Assumes nothing.
use mathlib.Core.Path.{◌≡◌, refl, sym, ap, ◌∙◌}
use mathlib.Core.Logic.{◌⊎◌, inl, inr}
use mathlib.Core.List.{List, [], ◌∷◌, ◌++◌}
use Prim.Native.Nat.{ℕ, suc, ◌≤◌}
use native.Mathlib.Omega.{arith}
use lib.ListN.{length, take, drop, replicate, length-replicate}
use Rattle.std.proofs.lemmas.List.{length-take-le}
use lib.Seq.{drop_at}
use lib.Dec.{leb}
use borrow.Author.Tests.{le-leb, lt-leb}
use Rattle.finite.specs.Faults.{first_fault}
use Rattle.std.proofs.lemmas.Bool.{and_from, and_right}
use Rattle.finite.proofs.Testing.{pick_true, pick_false}
use Rattle.finite.proofs.Faults.{fault_none, fault_append, fault_either}
use Rattle.records.specs.Design.{Stage, Design}
use Rattle.checker.specs.Verdict.{Verdict, answer, workspace_for, stage_faults, stages_faults, zeroed, workspace_left}
use Rattle.checker.specs.Inside.Parts.{stages_judged}

-- ---- what a verdict leaves, by its reason

module _ (d : Design) (reason : ℕ) (ws : List ℕ) where
  pub untouched : 1 ≤ reason → reason ≤ 9 → workspace_left d reason ws ≡ ws
  unfolding workspace_left
  untouched l h = pick_true _ _ _ (and_from _ _ (le-leb 1 reason l) (le-leb reason 9 h))

  pub cleared : (reason ≡ 0) ⊎ (10 ≤ reason) → workspace_left d reason ws ≡ zeroed (workspace_for d.m d.s) ws
  unfolding workspace_left
  cleared (inl z) = rw z refl
  cleared (inr h) = pick_false _ _ _ (and_right (leb 1 reason) (leb reason 9) (lt-leb reason 9 h))

-- past 8, 9 and 10 the reason is 0, or 10 and above
abbrev Late : Verdict → Type 0
Late v = (v.reason ≡ 0) ⊎ (10 ≤ v.reason)

late_stages : (d : Design) (i : ℕ) (gs : List Stage) → Late (first_fault (stages_faults d i gs) (answer 0 d.k 0))
unfolding stages_faults
late_stages d i [] = rw (fault_none (answer 0 d.k 0)) (inl refl)
late_stages d i (g ∷ gs) =
    rw (fault_append (stage_faults d i g) (stages_faults d (suc i) gs) (answer 0 d.k 0))
    (fault_either Late _ _ _ _ (λ e. inr (omega arith))
    (λ e. fault_either Late _ _ _ _ (λ e. inr (omega arith))
    (λ e. fault_either Late _ _ _ _ (λ e. inr (omega arith)) (λ e. rw fault_none (late_stages d (suc i) gs)))))

pub late_reasons : (d : Design) → Late (stages_judged d)
unfolding stages_judged
late_reasons d = late_stages d 1 d.stages

-- ---- zeroed bytes stay so, and are as many

zeroed_twice : (n : ℕ) (l : List ℕ) → zeroed n (zeroed n l) ≡ zeroed n l
zeroed_twice n l = ap (λ (r : List ℕ). replicate n 0 ++ r) (drop_at (replicate n 0) (drop n l) n (length-replicate {A = ℕ} n 0))

-- as the library's `fill` zeroes the front
pub zeroed_filled : (n : ℕ) (l r : List ℕ) → n ≤ length l → r ≡ replicate (length (take n l)) 0 → r ++ drop n l ≡ zeroed n l
zeroed_filled n l r h e = ap (λ (x : List ℕ). x ++ drop n l) (e ∙ ap (λ (k : ℕ). replicate k 0) (length-take-le n l h))

pub stays_zeroed : (n k : ℕ) (l l₁ : List ℕ) → n ≡ k → l₁ ≡ zeroed n l → zeroed k l₁ ≡ l₁
stays_zeroed n k l l₁ e q =
    let z : l₁ ≡ zeroed k l = q ∙ ap (λ (x : ℕ). zeroed x l) e in
    ap (zeroed k) z ∙ zeroed_twice k l ∙ sym z

pub room_stays : (n k : ℕ) (l l₁ : List ℕ) → n ≡ k → n ≤ length l → length l₁ ≡ length l → k ≤ length l₁
room_stays n k l l₁ e h q = omega arith

pub room_kept : (n k : ℕ) (l l₁ : List ℕ) → n ≡ k → k ≤ length l → length l₁ ≡ length l → n ≤ length l₁
room_kept n k l l₁ e h q = omega arith

-- zero bytes that are zeroed again, whatever was written to them, are as they were
pub zeroed_again : (n k : ℕ) → n ≡ k → (l l₁ l₂ : List ℕ) → zeroed k l ≡ l → drop k l₁ ≡ drop k l → l₂ ≡ zeroed n l₁ → l₂ ≡ l
zeroed_again n k e l l₁ l₂ z d q = q ∙ ap (λ (x : ℕ). zeroed x l₁) e ∙ ap (λ (r : List ℕ). replicate k 0 ++ r) d ∙ z

-- l₁ is l, and l is l₀
module _ (l₀ l : List ℕ) (e : l ≡ l₀) where
  pub same_room : (n : ℕ) → n ≤ length l₀ → n ≤ length l
  same_room n h = rw e h

  pub same_zeroed : (n : ℕ) → zeroed n l₀ ≡ l₀ → zeroed n l ≡ l
  same_zeroed n h = ap (zeroed n) e ∙ h ∙ sym e

  pub same_through : (l₁ : List ℕ) → l₁ ≡ l → l₁ ≡ l₀
  same_through l₁ q = q ∙ e
