-- What iterators give of the sharings with their outputs. Assumes nothing.
use mathlib.Core.Path.{◌≡◌, sym, ap, ap₂, ◌∙◌}
use mathlib.Core.List.{List, [], ◌∷◌, ◌++◌}
use Prim.Native.Nat.{ℕ, ◌+◌, ◌*◌, ◌^◌, ◌<◌, min}
use native.Mathlib.Omega.{arith}
use Rattle.std.specs.Prelude.{Option, Some, None}
use lib.ListN.{length, length-append}
use Rattle.std.specs.List.{range_with_len, zip}
use Rattle.std.specs.Iterator.{Yields, YieldsFirst}
use Rattle.std.specs.Iterator.Adapters.{zip_first, zip_second}
use Rattle.std.specs.declared.iter.Zip.{Zip}
use Rattle.std.specs.declared.ops.Range.{Range}
use Rattle.std.proofs.iter.Yields.{nat_range_steps}
use Rattle.std.proofs.lemmas.Iterator.{YieldsList, zips, YieldsList-from_range, YieldsList-from_zip}
use Rattle.std.proofs.lemmas.Iterator.Consumers.{YieldsList-from_first, YieldsList-turn, YieldsList-end}
use Rattle.std.proofs.lemmas.List.FromFn.{length-range_with_len, get_or-range_with_len}
use Rattle.std.proofs.lemmas.Slice.Zip.{length-zip, get_or-zip}
use Rattle.finite.specs.Tests.{tabulate}
use Rattle.finite.proofs.Testing.{tabulate_length, tabulate_at}
use Rattle.sharing.specs.Stages.{output}
use Rattle.threshold.specs.Inside.Outputs.{left}
use Rattle.threshold.specs.declared.blocks.Outputs.{Outputs}

-- ---- the sharings from 0 on, each with its output

abbrev pub with_outputs : List (List ℕ) → List (ℕ × ℕ)
with_outputs ls = zip (range_with_len 0 (2 ^ length ls)) (tabulate (2 ^ length ls) (output ls))

pub outputs_zipped : (n : ℕ) (ls : List (List ℕ)) (s : Zip (Range ℕ) Outputs) → zip_first s ≡ record { start = 0; end = n } → left (zip_second s) ≡ tabulate (2 ^ length ls) (output ls)
    → n ≡ 2 ^ length ls → YieldsList (zips nat_range_steps (YieldsFirst left)) (λ p. (p.0, p.1)) s (with_outputs ls)
outputs_zipped n ls s a b e =
    YieldsList-from_zip (YieldsList-from_range 0 n (2 ^ length ls) a (omega arith)) (YieldsList-from_first (λ y. y) left _ b)

-- ls are the lists of a stage, n the number of sharings
pub all_sharings : (m s bits n : ℕ) (ls : List (List ℕ)) → length ls ≡ m * s → bits ≡ m * s → n ≡ 2 ^ bits → n ≡ 2 ^ length ls
all_sharings m s bits n ls many eb en = en ∙ ap (λ (x : ℕ). 2 ^ x) (eb ∙ sym many)

-- one more
pub length-last : {A : Type 0} (xs : List A) (x : A) → length (xs ++ (x ∷ [])) ≡ length xs + 1
length-last xs x = length-append xs (x ∷ [])

module _ {S : Type 0} {steps : S → Option (ℕ × ℕ) → S → Type 0} {s : S} (ls : List (List ℕ)) (road : YieldsList {B = ℕ × ℕ} steps (λ p. (p.0, p.1)) s (with_outputs ls))
    (xs : List (ℕ × ℕ)) (t : S) (y : Yields steps s xs t) (r : Option (ℕ × ℕ)) (u : S) (c : steps t r u) where
  as_many : length (with_outputs ls) ≡ 2 ^ length ls
  as_many =
      length-zip (range_with_len 0 (2 ^ length ls)) (tabulate (2 ^ length ls) (output ls))
      ∙ ap₂ min (length-range_with_len 0 (2 ^ length ls)) (tabulate_length (2 ^ length ls) (output ls)) ∙ omega arith

  -- the next one
  pub outputs_turn : (σ o : ℕ) → r ≡ Some (σ, o) → (length xs < 2 ^ length ls) × (σ ≡ length xs) × (o ≡ output ls (length xs))
  outputs_turn σ o e =
      let w = YieldsList-turn road xs t y r u (σ, o) e c in
      let h : length xs < 2 ^ length ls = omega (arith, w.0, as_many) in
      let q =
      w.1
      ∙ get_or-zip (range_with_len 0 (2 ^ length ls)) (tabulate (2 ^ length ls) (output ls)) (length xs) (σ, o) (rw length-range_with_len h) (rw tabulate_length h) in (
        h,
        ap (λ (p : ℕ × ℕ). p.0) q ∙ get_or-range_with_len 0 (2 ^ length ls) (length xs) σ h ∙ omega arith,
        ap (λ (p : ℕ × ℕ). p.1) q ∙ tabulate_at (2 ^ length ls) (output ls) (length xs) o h,
      )

  pub outputs_end : r ≡ None → length xs ≡ 2 ^ length ls
  outputs_end e = (YieldsList-end road xs t y r u e c).1 ∙ as_many
