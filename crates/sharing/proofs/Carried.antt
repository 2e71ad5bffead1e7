-- A value carried through bijections: h moves sharings, g the values that they share. Over plain functions of numbers below N and M.
-- Where h is correct for a permutation g, uniform, injective and counted over all sharings are the same.
-- Assumes nothing.
use mathlib.Core.Path.{◌≡◌, refl, sym, ap, ◌∙◌}
use mathlib.Core.Bool.{Bool, true, ◌&&◌}
use Prim.Native.Nat.{ℕ, ◌≤◌, ◌<◌}
use native.Mathlib.Omega.{arith}
use lib.Dec.{eqb}
use borrow.Author.Tests.{eqb-true, eq-eqb}
use Rattle.finite.specs.Tests.{count}
use Rattle.finite.proofs.Testing.{bool_ext}
use Rattle.std.proofs.lemmas.Bool.{and_from, and_parts}
use Rattle.finite.specs.Maps.{Injective}
use Rattle.finite.proofs.Counting.{count_congr, count_mono, count_one, count_some, count_unique, pigeonhole, onto, onto_once}
use Rattle.sharing.specs.Stages.{ExactlyOne}

-- ---- exactly one, and the count 1

module _ (n : ℕ) (p : ℕ → Bool) (P : ℕ → Type 0) (to : (i : ℕ) → p i ≡ true → P i) (from : (i : ℕ) → P i → p i ≡ true) where
  pub count→exactly : count n p ≡ 1 → ExactlyOne n P
  count→exactly e =
      let k = count_some n p (omega arith) in
      record {
        the = k.0;
        below = k.1;
        holds = to k.0 k.2;
        only = λ i l h. count_unique n p e i k.0 l k.1 (from i h) k.2;
      }

  pub exactly→count : ExactlyOne n P → count n p ≡ 1
  exactly→count x = count_one n p x.the x.below (from x.the x.holds) (λ i l e. x.only i l (to i e))

-- ---- carried

-- h takes the numbers below N into themselves, and does to the sum of each what g does to it; g is a permutation of the numbers below M
pub record Carries (N M : ℕ) (sum h g : ℕ → ℕ) : Type 0 where
  pub into : (σ : ℕ) → σ < N → h σ < N
  pub sums : (σ : ℕ) → σ < N → sum (h σ) ≡ g (sum σ)
  pub g_into : (x : ℕ) → x < M → g x < M
  pub g_inj : Injective M g

-- each number with the sum g x comes from exactly one with the sum x
abbrev pub Even : (N M : ℕ) (sum h g : ℕ → ℕ) → Type 0
Even N M sum h g = (x : ℕ) → x < M → (τ : ℕ) → τ < N → sum τ ≡ g x → count N (λ σ. eqb (sum σ) x && eqb (h σ) τ) ≡ 1

-- each number comes from as many as there are values that g takes to its sum
abbrev pub Counted : (N M : ℕ) (sum h g : ℕ → ℕ) → Type 0
Counted N M sum h g = (τ : ℕ) → τ < N → count N (λ σ. eqb (h σ) τ) ≡ count M (λ x. eqb (g x) (sum τ))

-- This needs no `sums`: every number is met, and there are no more numbers than those.
pub even→counted : (N M : ℕ) (sum h g : ℕ → ℕ) → ((σ : ℕ) → sum σ < M) → ((σ : ℕ) → σ < N → h σ < N) → ((x : ℕ) → x < M → g x < M) → Injective M g
    → Even N M sum h g → Counted N M sum h g
even→counted N M sum h g sum_lt into g_into g_inj u τ l =
    onto_once N h into met τ l ∙ sym (pigeonhole M g g_inj g_into (sum τ) (sum_lt τ))
  where
    met : (y : ℕ) → y < N → 1 ≤ count N (λ σ. eqb (h σ) y)
    met y ly =
        let x = onto M g g_inj g_into (sum y) (sum_lt y) in
        omega (
          arith,
          u x.0 x.1 y ly (sym x.2),
          count_mono N (λ σ. eqb (sum σ) x.0 && eqb (h σ) y) (λ σ. eqb (h σ) y) (λ σ k. λ e. (and_parts (eqb (sum σ) x.0) (eqb (h σ) y) e).1),
        )

module _ (N M : ℕ) (sum h g : ℕ → ℕ) (sum_lt : (σ : ℕ) → sum σ < M) (c : Carries N M sum h g) where
  pub injective→even : Injective N h → Even N M sum h g
  injective→even inj x lx τ lτ e =
      count_congr N (λ σ. eqb (sum σ) x && eqb (h σ) τ) (λ σ. eqb (h σ) τ)
      (λ σ l. bool_ext (eqb (sum σ) x && eqb (h σ) τ) (eqb (h σ) τ) (λ e. (and_parts (eqb (sum σ) x) (eqb (h σ) τ) e).1)
      (λ t. and_from _ _
      (eq-eqb (sum σ) x (c.g_inj (sum σ) x (sum_lt σ) lx (sym (c.sums σ l) ∙ ap sum (eqb-true (h σ) τ t) ∙ e)))
      t))
      ∙ pigeonhole N h inj c.into τ lτ

  pub even→injective : Even N M sum h g → Injective N h
  even→injective u a b la lb e =
      let ex : sum a ≡ sum b = c.g_inj (sum a) (sum b) (sum_lt a) (sum_lt b) (sym (c.sums a la) ∙ ap sum e ∙ c.sums b lb) in
      count_unique N (λ σ. eqb (sum σ) (sum a) && eqb (h σ) (h a)) (u (sum a) (sum_lt a) (h a) (c.into a la) (c.sums a la))
      a b la lb
      (and_from _ _ (eq-eqb (sum a) (sum a) refl) (eq-eqb (h a) (h a) refl))
      (and_from _ _ (eq-eqb (sum b) (sum a) (sym ex)) (eq-eqb (h b) (h a) (sym e)))

  pub counted→even : Counted N M sum h g → Even N M sum h g
  counted→even k =
      injective→even
      (λ a b la lb e. count_unique N (λ σ. eqb (h σ) (h a))
      (k (h a) (c.into a la) ∙ pigeonhole M g c.g_inj c.g_into (sum (h a)) (sum_lt (h a)))
      a b la lb (eq-eqb (h a) (h a) refl) (eq-eqb (h b) (h a) (sym e)))
