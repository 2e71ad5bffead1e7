-- The forecast: the laws of `most_trials` and `foresee`, over plain values. m, s and k are the numbers of a head, f is the file.
-- Assumes nothing.
use mathlib.Core.Path.{◌≡◌, refl, sym, ap, ap₂, ◌∙◌}
use mathlib.Core.List.{List}
use mathlib.Core.Bool.{false}
use Prim.Native.Nat.{ℕ, ◌*◌, ◌^◌, ◌<◌}
use native.Mathlib.Omega.{arith}
use borrow.Author.Tests.{eq-eqb, ne_eqb}
use Rattle.finite.proofs.Testing.{pick_true, pick_false}
use Rattle.reasons.specs.Numbers.{number}
use Rattle.reasons.specs.declared.Reason.{Reason}
use Rattle.reasons.proofs.Numbers.{number_some}
use Rattle.design.specs.Limits.{broken}
use Rattle.design.specs.Layout.{HeadRead, refused_head, head_read}
use Rattle.design.proofs.Limits.{bounds}
use Rattle.design.proofs.Reading.{head_reason, head_read_lem}
use Rattle.checker.specs.Verdict.{workspace_for}
use Rattle.checker.specs.Trials.{most_trials, forecast_for, no_forecast, forecast}
use Rattle.checker.proofs.Passes.{few_trials}

-- ---- `most_trials`: n is the number of sharings

module _ (m s k : ℕ) (limits : broken m s k ≡ false) where
  -- two passes of each stage, and all their trials, in a word
  pub passes_fit : 2 * k < 2 ^ 64
  passes_fit = omega (arith, (bounds m s k limits).k_high)

  pub most_fits : (bits : ℕ) → bits ≡ m * s → (n : ℕ) → n ≡ 2 ^ bits → 2 * k * n < 2 ^ 64
  most_fits bits eb n e = let b = bounds m s k limits in rw (e, eb) (omega (arith, few_trials (m * s) k b.bits b.k_high))

-- ---- `foresee`: the head record is refused, or is read with these numbers

module _ (f : List ℕ) where
  pub none_foreseen : (r : Reason) → refused_head (number r) ≡ head_read f → no_forecast (number r) ≡ forecast f
  unfolding forecast
  none_foreseen r e =
      let q = head_reason f (refused_head (number r)) e in
      ap no_forecast q ∙ sym (pick_false _ _ _ (ne_eqb _ 0 (λ z. number_some r (q ∙ z))))

  pub foreseen : (m s k : ℕ) → record { reason = 0; head = record { m = m; s = s; k = k } } ≡ head_read f → (w n : ℕ)
      → w ≡ workspace_for m s → n ≡ most_trials m s k → record { reason = 0; workspace = w; trials = n } ≡ forecast f
  unfolding forecast
  foreseen m s k e w n a b =
      let x : HeadRead = record { reason = 0; head = record { m = m; s = s; k = k } } in
      ap₂ (λ (p q : ℕ). record { reason = 0; workspace = p; trials = q }) a b ∙ ap forecast_for (head_read_lem f x e refl)
      ∙ sym (pick_true _ _ _ (eq-eqb _ 0 (sym (head_reason f x e))))
