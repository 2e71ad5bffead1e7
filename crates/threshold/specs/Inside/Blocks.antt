-- The outputs of a stage at 64 sharings together, those that differ in their lowest six bits alone: what the functions of `blocks` answer.
use Rattle.std.specs.Prelude.{ℕ, ◌+◌, ◌*◌, ◌/◌, ◌%◌, ◌^◌, ◌≡◌, suc, ◌&&◌, List, [], ◌∷◌, eqb, get_or, set}
use Rattle.std.specs.Int.Bits.{bit_xor}
use Rattle.finite.specs.Tests.{pick, tabulate}
use Rattle.finite.specs.Sets.{subset}
use Rattle.sharing.specs.Stages.{output}

-- the outputs at the 64 sharings from σ on
unfoldable pub outputs_from : List (List ℕ) → ℕ → List ℕ
outputs_from ls σ = tabulate 64 (λ v. output ls (σ + v))

-- Words with p added to that of the lowest six variables of the term t, where the set `high` has its other variables, numbered from 0. "Added" is XOR.
unfoldable pub term_added : ℕ → ℕ → ℕ → List ℕ → List ℕ
term_added high p t words = pick (subset (t / 64) high) (set words (t % 64) (bit_xor (get_or words (t % 64) 0) p)) words

-- so for each term of a list
unfoldable pub terms_added : ℕ → ℕ → List ℕ → List ℕ → List ℕ
terms_added high p [] words = words
terms_added high p (t ∷ ts) words = terms_added high p ts (term_added high p t words)

-- what the terms of a list add to the word at v
unfoldable pub coefficient : ℕ → ℕ → List ℕ → ℕ → ℕ
coefficient high p [] v = 0
coefficient high p (t ∷ ts) v = bit_xor (pick (eqb (t % 64) v && subset (t / 64) high) p 0) (coefficient high p ts v)

-- what all lists add, each with the power of two of its number, counted from i
unfoldable pub coefficients : ℕ → ℕ → List (List ℕ) → ℕ → ℕ
coefficients high i [] v = 0
coefficients high i (l ∷ ls) v = bit_xor (coefficient high (2 ^ i) l v) (coefficients high (suc i) ls v)

-- where the sharing σ does not begin a block, the words are the outputs of the block that it stands in
pub record Ahead (ls : List (List ℕ)) (σ : ℕ) (words : List ℕ) : Type 0 where
  pub kept : (σ % 64 ≡ 0 → ⊥) → words ≡ outputs_from ls (σ / 64 * 64)
