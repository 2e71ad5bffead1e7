-- Words as numbers. `Word` gives each word its number and each list of words its numbers: what is done to the words is done to the numbers.
use mathlib.Core.Path.{◌≡◌, sym, ap, ap₂, ◌∙◌}
use mathlib.Core.List.{List, ◌++◌, map}
use Prim.Native.Nat.{ℕ, ◌<◌}
use lib.ListN.{length, get_or, set, take, drop, length-map}
use borrow.Rule.Slice.PartMut.{put_mid}
use Rattle.std.proofs.lemmas.List.{map-set, map-append, take-map, drop-map, get_or-map}

module _ {W : Type 0} {number : W → ℕ} {numbers : List W → List ℕ} (each : (ws : List W) → numbers ws ≡ map number ws) where
  pub numbers_length : (ws : List W) → length (numbers ws) ≡ length ws
  numbers_length ws = ap length (each ws) ∙ length-map ws number

  -- of the word that the code read at i
  pub numbers_at : (ws : List W) (i : ℕ) (w : W) → w ≡ get_or ws i w → i < length ws → get_or (numbers ws) i 0 ≡ number w
  numbers_at ws i w e h = ap (λ (l : List ℕ). get_or l i 0) (each ws) ∙ get_or-map number ws i w 0 h ∙ ap number (sym e)

  pub numbers_set : (ws : List W) (i : ℕ) (w : W) → numbers (set ws i w) ≡ set (numbers ws) i (number w)
  numbers_set ws i w = each (set ws i w) ∙ map-set number ws i w ∙ ap (λ (l : List ℕ). set l i (number w)) (sym (each ws))

  pub numbers_take : (n : ℕ) (ws : List W) → numbers (take n ws) ≡ take n (numbers ws)
  numbers_take n ws = each (take n ws) ∙ sym (take-map number n ws) ∙ ap (take n) (sym (each ws))

  pub numbers_drop : (n : ℕ) (ws : List W) → numbers (drop n ws) ≡ drop n (numbers ws)
  numbers_drop n ws = each (drop n ws) ∙ sym (drop-map number n ws) ∙ ap (drop n) (sym (each ws))

  numbers_append : (vs ws : List W) → numbers (vs ++ ws) ≡ numbers vs ++ numbers ws
  numbers_append vs ws = each (vs ++ ws) ∙ map-append number vs ws ∙ ap₂ ◌++◌ (sym (each vs)) (sym (each ws))

  -- a part in the place of the n words from `at` on
  pub numbers_put : (at n : ℕ) (ws part : List W) → numbers (put_mid at n ws part) ≡ put_mid at n (numbers ws) (numbers part)
  numbers_put at n ws part =
      numbers_append (take at ws) (part ++ drop n (drop at ws))
      ∙ ap₂ ◌++◌ (numbers_take at ws)
      (numbers_append part (drop n (drop at ws)) ∙ ap (λ (l : List ℕ). numbers part ++ l) (numbers_drop n (drop at ws) ∙ ap (drop n) (numbers_drop at ws)))
