-- The pass that tries whether a stage is correct: the laws of `first_wrong`, at each way out and for a turn, over plain values.
-- Assumes nothing.
use mathlib.Core.Path.{◌≡◌, refl, sym, ap, ap₂, ◌∙◌}
use mathlib.Core.List.{List}
use Rattle.std.specs.Prelude.{Some, None}
use mathlib.Core.Bool.{Bool, true, false, not}
use Prim.Native.Nat.{ℕ, ◌+◌, ◌*◌, ◌^◌, ◌<◌}
use lib.Dec.{eqb}
use lib.ListN.{length, get_or}
use Rattle.finite.specs.Tests.{any}
use Rattle.finite.proofs.Testing.{any_none_more}
use Rattle.records.specs.Design.{Stage}
use Rattle.sharing.specs.Sharing.{sum}
use Rattle.sharing.specs.Stages.{output}
use Rattle.checker.specs.Trials.{sums_wrong}
use Rattle.checker.specs.Inside.Parts.{found}
use Rattle.checker.proofs.Passes.{found_at, found_none}

-- ---- `first_wrong`: none of i sharings is wrong, of n; y is the output of the next, r whether it is right

module _ (m s : ℕ) (g : Stage) where
  pub sums_start : any 0 (sums_wrong m s g) ≡ false
  unfolding any
  sums_start = refl

  module _ (i : ℕ) (so : any i (sums_wrong m s g) ≡ false) where
    module _ (b : List ℕ) (eb : b ≡ g.table) (ls : List (List ℕ)) (el : ls ≡ g.lists) (x y : ℕ) (ex : x ≡ i) (ey : y ≡ output ls i)
        (r : Bool) (e : r ≡ eqb (sum m s y) (get_or b (sum m s x) 0)) where
      next : sums_wrong m s g i ≡ not r
      next = ap not (
          ap (λ (z : ℕ). eqb (sum m s z) (get_or g.table (sum m s i) 0)) (ap (λ (l : List (List ℕ)). output l i) (sym el) ∙ sym ey)
          ∙ ap₂ (λ (t : List ℕ) (z : ℕ). eqb (sum m s y) (get_or t (sum m s z) 0)) (sym eb) (sym ex) ∙ sym e)

      pub sums_wrong_lem : not r ≡ true → i < 2 ^ length ls → length ls ≡ m * s → Some x ≡ found (2 ^ (m * s)) (sums_wrong m s g)
      sums_wrong_lem q h k = ap Some ex ∙ found_at (2 ^ (m * s)) _ i (rw k at h) so (next ∙ q)

      pub sums_more : not r ≡ false → any (i + 1) (sums_wrong m s g) ≡ false
      sums_more q = any_none_more i _ so (next ∙ q)

    pub sums_end : (ls : List (List ℕ)) → ls ≡ g.lists → i ≡ 2 ^ length ls → length ls ≡ m * s → None ≡ found (2 ^ (m * s)) (sums_wrong m s g)
    sums_end ls el z k = found_none (2 ^ (m * s)) _ (rw (z, k) at so)
