-- A chain whose stages are each correct and uniform: each setting of all shares but one is met exactly once, whatever the secret is, so what a component that
-- ignores a share reads is met equally often; and the output shares sum to what the tables make of the secret. Each stage spreads the sharings of a secret
-- equally over those of its value, and so does the chain.
-- Assumes nothing.
use mathlib.Core.Path.{◌≡◌, ◌∙◌}
use mathlib.Core.Bool.{Bool}
use mathlib.Core.List.{List, [], ◌∷◌}
use Prim.Native.Nat.{ℕ, zero, suc, ◌-◌, ◌*◌, ◌^◌, ◌<◌, suc-le-suc}
use native.Mathlib.Omega.{arith}
use lib.Dec.{eqb}
use lib.ListN.{length, get_or, take}
use lib.Seq.{take-length}
use Rattle.anf.specs.Tables.{entry, TableFits}
use Rattle.records.specs.Design.{Stage, no_stage}
use Rattle.sharing.specs.Sharing.{sum, setting}
use Rattle.sharing.specs.Stages.{output, component, Correct, IgnoresSome, Uniform, depends_on}
use Rattle.sharing.specs.Chain.{chained, handed, times_passed, meetings, reads_alike, read_meetings}
use Rattle.sharing.proofs.Sharing.{sum_shares}
use Rattle.sharing.proofs.Stages.{stage_output_lt}
use Rattle.sharing.proofs.Tests.{uniform→even, ignores↔}
use Rattle.sharing.proofs.Spreads.{Spreads, setting_met, spreads_none, spreads_then}
use Rattle.sharing.proofs.Independence.{same_settings, same_values, same_reads}

-- ---- a stage, and a chain of them

pub stage_spreads : (w s : ℕ) (g : Stage) → TableFits w g.table → length g.lists ≡ w * s → Correct w s (component w g.lists) g.table
    → Uniform w s (output g.lists) g.table → Spreads s w w 1 (output g.lists) (entry g.table)
stage_spreads w s g table count right even =
    record {
      maps = record {
        into = λ σ l. stage_output_lt w s g count σ;
        sums = λ σ l. sum_shares w s (output g.lists σ) ∙ right σ l;
        g_into = table.below;
      };
      each = uniform→even w s (output g.lists) g.table even;
    }

abbrev pub AllSpread : ℕ → ℕ → List Stage → Type 0
AllSpread w s gs = (t : ℕ) → t < length gs → Spreads s w w 1 (output (get_or gs t no_stage).lists) (entry (get_or gs t no_stage).table)

module _ (w s : ℕ) where
  pub handed_spreads : (i : ℕ) (gs : List Stage) → AllSpread w s gs → Spreads s w w 1 (handed gs i) (chained (take i gs))
  unfolding handed chained
  handed_spreads zero gs v = spreads_none s w
  handed_spreads (suc i) [] v = spreads_none s w
  handed_spreads (suc i) (g ∷ gs) v =
      spreads_then s w w w 1 1 (output g.lists) (entry g.table) (handed gs i) (chained (take i gs)) (v 0 (omega arith))
      (handed_spreads i gs (λ t l. v (suc t) (suc-le-suc l)))

  module _ (gs : List Stage) (v : AllSpread w s gs) where
    -- the output shares of the chain sum to what its tables make of the secret
    pub outcome : (σ : ℕ) → σ < 2 ^ (w * s) → sum w s (handed gs (length gs) σ) ≡ chained gs (sum w s σ)
    outcome σ l = rw take-length at ((handed_spreads (length gs) gs v).maps.sums σ l)

    -- Each setting of all shares but one is met exactly once at each stage, whatever the secret is.
    pub met_once : (x i e q : ℕ) → x < 2 ^ w → e < s → q < 2 ^ (w * (s - 1)) → meetings w s gs x i e q ≡ 1
    unfolding meetings
    met_once x i e q lx le lq = setting_met s w w 1 (handed gs i) (chained (take i gs)) (handed_spreads i gs v) x lx e le q lq

    module _ (x y i : ℕ) (lx : x < 2 ^ w) (ly : y < 2 ^ w) where
      -- So that number does not depend on the secret.
      pub setting_independent : (e : ℕ) → e < s → (p : ℕ → Bool)
          → times_passed w s gs x i (λ τ. p (setting w e τ)) ≡ times_passed w s gs y i (λ τ. p (setting w e τ))
      setting_independent = same_settings s w w 1 (handed gs i) (chained (take i gs)) (handed_spreads i gs v) x y lx ly

      -- Nor does it for whether a function that ignores a share gives the value z,
      pub value_independent : (f : ℕ → ℕ) (z : ℕ) → IgnoresSome w s f → times_passed w s gs x i (λ τ. eqb (f τ) z) ≡ times_passed w s gs y i (λ τ. eqb (f τ) z)
      value_independent = same_values s w w 1 (handed gs i) (chained (take i gs)) (handed_spreads i gs v) x y lx ly

      -- and for whether a component that ignores a share reads the same as of q.
      pub reads_equally : (j q : ℕ) → IgnoresSome w s (component w (get_or gs i no_stage).lists j) → read_meetings w s gs x i j q ≡ read_meetings w s gs y i j q
      unfolding read_meetings reads_alike
      reads_equally j q some =
          same_reads s w w 1 (handed gs i) (chained (take i gs)) (handed_spreads i gs v) x y lx ly
          (depends_on w s (get_or gs i no_stage) j) some.0 q some.1 ((ignores↔ w s (get_or gs i no_stage) j some.0).1 some.2)
