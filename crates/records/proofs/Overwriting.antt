-- Laws of writing over a part of a list: two runs that follow one another are one run.
use Prim.Native.Nat.{ℕ, ◌+◌, ◌≤◌}
use mathlib.Core.Path.{◌≡◌, refl, sym, ap, ◌∙◌}
use mathlib.Core.List.{List, [], ◌++◌, append_assoc}
use native.Mathlib.Omega.{arith}
use native.Mathlib.Nat.{zero-add}
use lib.ListN.{length, take, drop, length-append}
use lib.Seq.{paste-zero, length-take-le, drop-drop, take_at, drop_at}
use Rattle.records.specs.Inside.Overwriting.{overwrite}

overwrite_is : (l : List ℕ) (at : ℕ) (b : List ℕ) → overwrite l at b ≡ take at l ++ b ++ drop (at + length b) l
unfolding overwrite
overwrite_is l at b = refl

-- nothing written
pub overwrite_nil : (l : List ℕ) (at : ℕ) → overwrite l at [] ≡ l
overwrite_nil l at = overwrite_is l at [] ∙ sym (paste-zero l at [])

-- from the front
pub overwrite_front : (l b : List ℕ) → overwrite l 0 b ≡ b ++ drop (length b) l
overwrite_front l b = overwrite_is l 0 b ∙ rw zero-add refl

module _ (l : List ℕ) (at : ℕ) (a : List ℕ) (h : at ≤ length l) where
  head_length : length (take at l ++ a) ≡ at + length a
  head_length = length-append (take at l) a ∙ ap (λ (n : ℕ). n + length a) (length-take-le at l h)

  -- what is written, with what stands before it
  pub take_overwrite : take (at + length a) (overwrite l at a) ≡ take at l ++ a
  unfolding overwrite
  take_overwrite = take_at (take at l ++ a) (drop (at + length a) l) (at + length a) head_length

  -- what stands behind it
  pub drop_overwrite : drop (at + length a) (overwrite l at a) ≡ drop (at + length a) l
  unfolding overwrite
  drop_overwrite = drop_at (take at l ++ a) (drop (at + length a) l) (at + length a) head_length

  -- a run behind a run
  pub overwrite_append : (b : List ℕ) → overwrite (overwrite l at a) (at + length a) b ≡ overwrite l at (a ++ b)
  overwrite_append b =
      let n : at + length a + length b ≡ at + length (a ++ b) = let s = length-append a b in omega arith in
      let d : drop (at + length a + length b) (overwrite l at a) ≡ drop (at + length (a ++ b)) l =
      sym (drop-drop (length b) (at + length a) (overwrite l at a)) ∙ ap (drop (length b)) drop_overwrite ∙ drop-drop (length b) (at + length a) l ∙ ap (λ (x : ℕ). drop x l) n in
      overwrite_is (overwrite l at a) (at + length a) b
      ∙ rw (take_overwrite, d) (ap (λ (x : List ℕ). x ++ drop (at + length (a ++ b)) l) (append_assoc (take at l) a b) ∙ sym (overwrite_is l at (a ++ b)))
