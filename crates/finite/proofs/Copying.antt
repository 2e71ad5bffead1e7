-- The loop of `copy`: o is the output l with the first i bytes of b written over its front.
use mathlib.Core.Path.{◌≡◌, refl, ap, ◌∙◌}
use mathlib.Core.List.{List, ◌++◌, append-nil}
use Prim.Native.Nat.{ℕ, ◌+◌, ◌≤◌, ◌<◌}
use native.Mathlib.Omega.{arith}
use lib.ListN.{length, get_or, set, drop, length-set}
use lib.Seq.{drop-length}
use Rattle.finite.specs.Tests.{tabulate}
use Rattle.finite.proofs.Testing.{tabulate_of, tabulate_more}

pub record CopiedTo (b l o : List ℕ) (i : ℕ) : Type 0 where
  pub size : length o ≡ length l
  pub is : o ≡ tabulate i (λ j. get_or b j 0) ++ drop i l

module _ (b l : List ℕ) where
  pub copied_none : CopiedTo b l l 0
  unfolding tabulate
  copied_none = record { size = refl; is = refl }

  module _ (o : List ℕ) (i : ℕ) (c : CopiedTo b l o i) where
    pub copied_more : i < length b → length b ≤ length l → CopiedTo b l (set o i (get_or b i 0)) (i + 1)
    copied_more h k = record { size = length-set o i (get_or b i 0) ∙ c.size; is = rw c.is (tabulate_more i (λ j. get_or b j 0) l (omega arith)) }

    pub copied_all : i ≤ length b → length b ≤ i → o ≡ b ++ drop (length b) l
    copied_all h k =
        let e : i ≡ length b = omega arith in
        rw e at c.is ∙ ap (λ (x : List ℕ). x ++ drop (length b) l) (tabulate_of b (length b) (λ j. get_or b j 0) 0 refl (λ j q. refl))

-- a copy that fills the output is the bytes
pub copied_whole : (b l o : List ℕ) → length b ≡ length l → o ≡ b ++ drop (length b) l → o ≡ b
copied_whole b l o e c = c ∙ rw (e, drop-length l) (append-nil b)
