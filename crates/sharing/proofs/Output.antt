-- The output sharing is made of the lists: bit i is the value of list i, and share j is the output of the w lists from w × j on.
-- The lists stand low bit first, so each law peels the first list and halves. Assumes nothing.
use mathlib.Core.Path.{◌≡◌, refl, sym, ap, ap₂, ◌∙◌, subst}
use mathlib.Core.List.{List, [], ◌∷◌}
use Prim.Native.Nat.{ℕ, zero, suc, ◌+◌, ◌*◌, ◌/◌, ◌%◌, ◌^◌, ◌<◌}
use native.Mathlib.Nat.{le_refl, pow-suc, zero-lt-suc, div-one, mod-one, zero-div, zero-mod, mul_comm, div-div-eq-div-mul, add-zero}
use native.Mathlib.Omega.{arith}
use native.Mathlib.Numerals.{add-one}
use lib.Arith.{digits_lt, digits_div, digits_mod, mod-mul}
use lib.Pow.{pow_pos}
use lib.ListN.{length, get_or, take, drop, length-take}
use lib.Seq.{get_or-take, get_or-drop, drop-cons, drop-length}
use Rattle.anf.specs.Terms.{value_at}
use Rattle.anf.proofs.Terms.{value_at_lt}
use Rattle.sharing.specs.Sharing.{share}
use Rattle.sharing.specs.Stages.{output, component}

pub output_lt : (ls : List (List ℕ)) (σ : ℕ) → output ls σ < 2 ^ length ls
unfolding output
output_lt [] σ = le_refl 1
output_lt (l ∷ ls) σ =
    subst (λ (x : ℕ). output ls σ * 2 + value_at l σ < x) (sym (pow-suc 2 (length ls))) (digits_lt (output_lt ls σ) (value_at_lt l σ))

module _ (σ : ℕ) where
  output_drop : (k : ℕ) (ls : List (List ℕ)) → output ls σ / 2 ^ k ≡ output (drop k ls) σ
  unfolding output
  output_drop zero ls = div-one (output ls σ)
  output_drop (suc k) [] = zero-div (2 ^ suc k)
  output_drop (suc k) (l ∷ ls) =
      ap (λ (x : ℕ). (output ls σ * 2 + value_at l σ) / x) (pow-suc 2 k ∙ mul_comm (2 ^ k) 2)
      ∙ sym (div-div-eq-div-mul (output ls σ * 2 + value_at l σ) 2 (2 ^ k))
      ∙ ap (λ (x : ℕ). x / 2 ^ k) (digits_div (output ls σ) (value_at_lt l σ))
      ∙ output_drop k ls

  output_take : (k : ℕ) (ls : List (List ℕ)) → output ls σ % 2 ^ k ≡ output (take k ls) σ
  unfolding output
  output_take zero ls = mod-one (output ls σ)
  output_take (suc k) [] = zero-mod (2 ^ suc k)
  output_take (suc k) (l ∷ ls) =
      ap (λ (x : ℕ). (output ls σ * 2 + value_at l σ) % x) (pow-suc 2 k)
      ∙ mod-mul (output ls σ * 2 + value_at l σ) (pow_pos k) (zero-lt-suc 1)
      ∙ ap₂ (λ (x y : ℕ). x % 2 ^ k * 2 + y) (digits_div (output ls σ) (value_at_lt l σ)) (digits_mod (output ls σ) (value_at_lt l σ))
      ∙ ap (λ (x : ℕ). x * 2 + value_at l σ) (output_take k ls)

  pub output_share : (w j : ℕ) (ls : List (List ℕ)) → share w j (output ls σ) ≡ output (take w (drop (w * j) ls)) σ
  unfolding share
  output_share w j ls = ap (λ (x : ℕ). x % 2 ^ w) (output_drop (w * j) ls) ∙ output_take w (drop (w * j) ls)

  output_low : (ls : List (List ℕ)) → output ls σ % 2 ≡ value_at (get_or ls 0 []) σ
  unfolding output value_at
  output_low [] = refl
  output_low (l ∷ ls) = digits_mod (output ls σ) (value_at_lt l σ)

  pub output_bit : (i : ℕ) (ls : List (List ℕ)) → output ls σ / 2 ^ i % 2 ≡ value_at (get_or ls i []) σ
  output_bit i ls =
      ap (λ (x : ℕ). x % 2) (output_drop i ls) ∙ output_low (drop i ls)
      ∙ ap (λ (l : List ℕ). value_at l σ) (get_or-drop i ls 0 [] ∙ ap (λ (k : ℕ). get_or ls k []) (add-zero i))

  -- built from the last list down
  pub output_none : (ls : List (List ℕ)) → output (drop (length ls) ls) σ ≡ 0
  unfolding output
  output_none ls = rw drop-length refl

  pub output_next : (i : ℕ) (ls : List (List ℕ)) → i < length ls
      → output (drop i ls) σ ≡ output (drop (i + 1) ls) σ * 2 + value_at (get_or ls i []) σ
  unfolding output
  output_next i ls h = rw (add-one, drop-cons ls i []) refl

-- ---- two sharings, told apart by a list

module _ (σ τ : ℕ) where
  pub output_eq : (ls : List (List ℕ)) → ((i : ℕ) → i < length ls → value_at (get_or ls i []) σ ≡ value_at (get_or ls i []) τ) → output ls σ ≡ output ls τ
  unfolding output
  output_eq [] h = refl
  output_eq (l ∷ ls) h =
      ap₂ (λ (a b : ℕ). a * 2 + b) (output_eq ls (λ i lt. h (suc i) (omega arith))) (h 0 (omega arith))

  -- component j is made of the lists w × j, .. w × j + w - 1
  pub component_eq : (w j : ℕ) (ls : List (List ℕ))
      → ((b : ℕ) → b < w → value_at (get_or ls (w * j + b) []) σ ≡ value_at (get_or ls (w * j + b) []) τ)
      → component w ls j σ ≡ component w ls j τ
  component_eq w j ls h =
      output_share σ w j ls
      ∙ output_eq (take w (drop (w * j) ls)) (λ b lt. at σ b lt ∙ h b (inside b lt) ∙ sym (at τ b lt))
      ∙ sym (output_share τ w j ls)
    where
      inside : (b : ℕ) → b < length (take w (drop (w * j) ls)) → b < w
      inside b lt = omega (arith, length-take w (drop (w * j) ls))

      at : (ρ b : ℕ) → b < length (take w (drop (w * j) ls)) → value_at (get_or (take w (drop (w * j) ls)) b []) ρ ≡ value_at (get_or ls (w * j + b) []) ρ
      at ρ b lt = ap (λ (l : List ℕ). value_at l ρ) (get_or-take w (drop (w * j) ls) b [] (inside b lt) ∙ get_or-drop (w * j) ls b [])

  pub component_bit : (w j : ℕ) (ls : List (List ℕ)) → component w ls j σ ≡ component w ls j τ
      → (b : ℕ) → b < w → value_at (get_or ls (w * j + b) []) σ ≡ value_at (get_or ls (w * j + b) []) τ
  component_bit w j ls e b lt = sym (at σ) ∙ ap (λ (x : ℕ). x / 2 ^ b % 2) (sym (output_share σ w j ls) ∙ e ∙ output_share τ w j ls) ∙ at τ
    where
      at : (ρ : ℕ) → output (take w (drop (w * j) ls)) ρ / 2 ^ b % 2 ≡ value_at (get_or ls (w * j + b) []) ρ
      at ρ = output_bit ρ b (take w (drop (w * j) ls)) ∙ ap (λ (l : List ℕ). value_at l ρ) (get_or-take w (drop (w * j) ls) b [] lt ∙ get_or-drop (w * j) ls b [])
