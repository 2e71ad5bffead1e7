-- Component functions that are correct for a permutation carry sharings; they are uniform exactly when no output sharing is met twice, and exactly
-- when they have the count of `CountedUniform`. Assumes nothing.
use mathlib.Core.Path.{◌≡◌, refl, ◌∙◌, subst}
use mathlib.Core.Logic.{◌↔◌}
use mathlib.Core.Bool.{Bool, true, false, not}
use mathlib.Core.List.{List, [], ◌∷◌}
use Prim.Native.Nat.{ℕ, zero, suc, ◌*◌, ◌^◌, ◌<◌, suc-le-suc}
use native.Mathlib.Omega.{arith}
use lib.ListN.{length, get_or}
use Rattle.finite.specs.Maps.{Injective, repeats}
use Rattle.std.proofs.lemmas.Bool.{false_from_ne_true}
use Rattle.finite.proofs.Maps.{repeats_clash, repeats→injective}
use Rattle.anf.specs.Tables.{entry, Permutation, TableFits}
use Rattle.records.specs.Design.{Stage, no_stage}
use Rattle.sharing.specs.Sharing.{share, sum}
use Rattle.sharing.specs.Stages.{output, component, Correct, Uniform, CountedUniform, uniform}
use Rattle.sharing.specs.Chain.{handed}
use Rattle.sharing.proofs.Sharing.{sum_lt, sum_shares}
use Rattle.sharing.proofs.Output.{output_lt}
use Rattle.sharing.proofs.Carried.{Carries, even→injective, injective→even, even→counted, counted→even}
use Rattle.sharing.proofs.Tests.{even→uniform, uniform→even, uniform↔}

-- ---- any component functions: `out` gives the output sharing

module _ (w s : ℕ) (out : ℕ → ℕ) (g : List ℕ) (into : (σ : ℕ) → σ < 2 ^ (w * s) → out σ < 2 ^ (w * s)) (fits : TableFits w g) (perm : Permutation w g) where
  pub uniform→counted : Uniform w s out g → CountedUniform w s out g
  uniform→counted u =
      even→counted (2 ^ (w * s)) (2 ^ w) (sum w s) out (entry g) (sum_lt w s) into fits.below perm (uniform→even w s out g u)

  module _ (right : Correct w s (λ j σ. share w j (out σ)) g) where
    pub carries : Carries (2 ^ (w * s)) (2 ^ w) (sum w s) out (entry g)
    carries =
        record {
          into = into;
          sums = λ σ l. sum_shares w s (out σ) ∙ right σ l;
          g_into = fits.below;
          g_inj = perm;
        }

    pub uniform→injective : Uniform w s out g → Injective (2 ^ (w * s)) out
    uniform→injective u = even→injective (2 ^ (w * s)) (2 ^ w) (sum w s) out (entry g) (sum_lt w s) carries (uniform→even w s out g u)

    pub injective→uniform : Injective (2 ^ (w * s)) out → Uniform w s out g
    injective→uniform inj = even→uniform w s out g (injective→even (2 ^ (w * s)) (2 ^ w) (sum w s) out (entry g) (sum_lt w s) carries inj)

    pub uniform↔counted : Uniform w s out g ↔ CountedUniform w s out g
    uniform↔counted = (
      uniform→counted,
      λ k. even→uniform w s out g (counted→even (2 ^ (w * s)) (2 ^ w) (sum w s) out (entry g) (sum_lt w s) carries k),
    )

-- ---- a stage: a list for each bit of the output sharing

pub stage_output_lt : (w s : ℕ) (g : Stage) → length g.lists ≡ w * s → (σ : ℕ) → output g.lists σ < 2 ^ (w * s)
stage_output_lt w s g size σ = subst (λ (k : ℕ). output g.lists σ < 2 ^ k) size (output_lt g.lists σ)

-- so what every stage of a chain is handed is a sharing
pub handed_lt : (w s i : ℕ) (gs : List Stage) → ((t : ℕ) → t < length gs → length (get_or gs t no_stage).lists ≡ w * s) → (σ : ℕ) → σ < 2 ^ (w * s)
    → handed gs i σ < 2 ^ (w * s)
unfolding handed
handed_lt w s zero gs size σ l = l
handed_lt w s (suc i) [] size σ l = l
handed_lt w s (suc i) (g ∷ gs) size σ l =
    handed_lt w s i gs (λ t h. size (suc t) (suc-le-suc h)) (output g.lists σ) (stage_output_lt w s g (size 0 (omega arith)) σ)

module _ (w s : ℕ) (g : Stage) (table : TableFits w g.table) (count : length g.lists ≡ w * s) (perm : Permutation w g.table) (right : Correct w s (component w g.lists) g.table) where
  stage_into : (σ : ℕ) → σ < 2 ^ (w * s) → output g.lists σ < 2 ^ (w * s)
  stage_into σ l = stage_output_lt w s g count σ

  pub stage_uniform→injective : Uniform w s (output g.lists) g.table → Injective (2 ^ (w * s)) (output g.lists)
  stage_uniform→injective = uniform→injective w s (output g.lists) g.table stage_into table perm right

  pub stage_injective→uniform : Injective (2 ^ (w * s)) (output g.lists) → Uniform w s (output g.lists) g.table
  stage_injective→uniform = injective→uniform w s (output g.lists) g.table stage_into table perm right

  pub stage_uniform↔counted : Uniform w s (output g.lists) g.table ↔ CountedUniform w s (output g.lists) g.table
  stage_uniform↔counted = uniform↔counted w s (output g.lists) g.table stage_into table perm right

  -- as tests
  pub stage_uniform_repeats : uniform w s g ≡ not (repeats (2 ^ (w * s)) (output g.lists))
  stage_uniform_repeats = go (repeats (2 ^ (w * s)) (output g.lists)) refl
    where
      go : (b : Bool) → repeats (2 ^ (w * s)) (output g.lists) ≡ b → uniform w s g ≡ not b
      go true e = false_from_ne_true _ (λ u. repeats_clash (2 ^ (w * s)) (output g.lists) e (stage_uniform→injective ((uniform↔ w s g).0 u)))
      go false e = (uniform↔ w s g).1 (stage_injective→uniform (repeats→injective (2 ^ (w * s)) (output g.lists) e))
