-- A chain of stages: what its tables make of a value, what each stage is handed, the meetings of a setting, and those of what a component reads
-- (RULES 1.12 to 1.15).
use Rattle.std.specs.Prelude.{ℕ, zero, suc, ◌*◌, ◌^◌, Bool, ◌&&◌, List, [], ◌∷◌, eqb, get_or}
use Rattle.finite.specs.Tests.{all, count, implies}
use Rattle.anf.specs.Tables.{entry}
use Rattle.records.specs.Design.{Stage, no_stage}
use Rattle.sharing.specs.Sharing.{share, sum, setting}
use Rattle.sharing.specs.Stages.{output, depends_on}

-- what the tables of the stages make of x: that of the first stage is applied first
unfoldable pub chained : List Stage → ℕ → ℕ
chained [] x = x
chained (g ∷ gs) x = chained gs (entry g.table x)

-- What stage i, counted from 0, is handed when σ is sent through. Past the last stage: the output shares of the chain.
unfoldable pub handed : List Stage → ℕ → ℕ → ℕ
handed gs zero σ = σ
handed [] (suc i) σ = σ
handed (g ∷ gs) (suc i) σ = handed gs i (output g.lists σ)

-- how many sharings of the secret x pass a test of what stage i is handed
abbrev pub times_passed : ℕ → ℕ → List Stage → ℕ → ℕ → (ℕ → Bool) → ℕ
times_passed w s gs x i p = count (2 ^ (w * s)) (λ σ. eqb (sum w s σ) x && p (handed gs i σ))

-- The meetings of the setting q without share e, for the secret x: the number of sharings of x with which stage i is handed it.
unfoldable pub meetings : ℕ → ℕ → List Stage → ℕ → ℕ → ℕ → ℕ → ℕ
meetings w s gs x i e q = times_passed w s gs x i (λ τ. eqb (setting w e τ) q)

-- component j of g reads the same of σ as of q: each share on which it depends has one value in both
unfoldable pub reads_alike : ℕ → ℕ → Stage → ℕ → ℕ → ℕ → Bool
reads_alike w s g j q σ = all s (λ e. implies (depends_on w s g j e) (eqb (share w e σ) (share w e q)))

-- The meetings of what component j of stage i reads of q, for the secret x: the number of sharings of x with which it reads the same.
unfoldable pub read_meetings : ℕ → ℕ → List Stage → ℕ → ℕ → ℕ → ℕ → ℕ
read_meetings w s gs x i j q = times_passed w s gs x i (reads_alike w s (get_or gs i no_stage) j q)
