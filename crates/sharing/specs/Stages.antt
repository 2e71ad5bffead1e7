-- A stage as functions: its components, and what correct, non-complete and uniform mean of them (RULES 1.7 to 1.11).
use Rattle.std.specs.Prelude.{ℕ, ◌+◌, ◌*◌, ◌^◌, ◌<◌, ◌≡◌, ◌≢◌, Bool, ◌&&◌, not, List, [], ◌∷◌, eqb}
use Rattle.finite.specs.Tests.{all, any, count, implies}
use Rattle.finite.specs.Sums.{xor_below}
use Rattle.anf.specs.Terms.{value_at}
use Rattle.anf.specs.Tables.{entry}
use Rattle.records.specs.Design.{Stage}
use Rattle.sharing.specs.Sharing.{share, sum, with_share}

-- the output sharing at σ: bit i is the value of list i
unfoldable pub output : List (List ℕ) → ℕ → ℕ
output [] σ = 0
output (l ∷ ls) σ = output ls σ * 2 + value_at l σ

-- what component j gives at σ: share j of the output
abbrev pub component : ℕ → List (List ℕ) → ℕ → ℕ → ℕ
component w ls j σ = share w j (output ls σ)

-- ---- The three demands, of any component functions F: component j gives F j σ at the sharing σ.

-- correct: for every sharing of every x the components sum to G(x)
abbrev pub Correct : ℕ → ℕ → (ℕ → ℕ → ℕ) → List ℕ → Type 0
Correct w s F g = (σ : ℕ) → σ < 2 ^ (w * s) → xor_below s (λ j. F j σ) ≡ entry g (sum w s σ)

-- a function of a sharing ignores share e, that is, does not depend on it: no change of that share alone changes the function's value
abbrev pub Ignores : ℕ → ℕ → ℕ → (ℕ → ℕ) → Type 0
Ignores w s e f = (σ : ℕ) → σ < 2 ^ (w * s) → (v : ℕ) → v < 2 ^ w → f (with_share w e v σ) ≡ f σ

-- it ignores at least one share
abbrev pub IgnoresSome : ℕ → ℕ → (ℕ → ℕ) → Type 0
IgnoresSome w s f = (e : ℕ) × (e < s) × Ignores w s e f

-- the other way round: it depends on share e, as some change of that share alone changes its value; and it depends on every share
abbrev pub DependsOn : ℕ → ℕ → ℕ → (ℕ → ℕ) → Type 0
DependsOn w s e f = (σ : ℕ) × (σ < 2 ^ (w * s)) × (v : ℕ) × (v < 2 ^ w) × (f (with_share w e v σ) ≢ f σ)

abbrev pub DependsOnAll : ℕ → ℕ → (ℕ → ℕ) → Type 0
DependsOnAll w s f = (e : ℕ) → e < s → DependsOn w s e f

-- non-complete: each component ignores at least one share, any one, the same for all its bits
abbrev pub NonComplete : ℕ → ℕ → (ℕ → ℕ → ℕ) → Type 0
NonComplete w s F = (j : ℕ) → j < s → IgnoresSome w s (F j)

-- exactly one number below n has the property
pub record ExactlyOne (n : ℕ) (P : ℕ → Type 0) : Type 0 where
  pub the : ℕ
  pub below : the < n
  pub holds : P the
  pub only : (i : ℕ) → i < n → P i → i ≡ the

-- uniform: for each x, each sharing of G(x) comes from exactly one sharing of x
abbrev pub Uniform : ℕ → ℕ → (ℕ → ℕ) → List ℕ → Type 0
Uniform w s out g =
    (x : ℕ) → x < 2 ^ w → (τ : ℕ) → τ < 2 ^ (w * s) → sum w s τ ≡ entry g x → ExactlyOne (2 ^ (w * s)) (λ σ. (sum w s σ ≡ x) × (out σ ≡ τ))

-- The count of Bilgin and others, section 2.1 (docs/NAMES.md): each output sharing comes from as many sharings as there are x whose G(x) it shares.
-- (There times 2^((s - 1) (m - n)) for a function from m bits to n, which is 1 here: G has as many bits as its input.)
abbrev pub CountedUniform : ℕ → ℕ → (ℕ → ℕ) → List ℕ → Type 0
CountedUniform w s out g =
    (τ : ℕ) → τ < 2 ^ (w * s) → count (2 ^ (w * s)) (λ σ. eqb (out σ) τ) ≡ count (2 ^ w) (λ x. eqb (entry g x) (sum w s τ))

-- ---- The same as tests of a stage.

-- at σ the output of the lists sums to what the table makes of the sum
abbrev pub sums_right : ℕ → ℕ → List (List ℕ) → List ℕ → ℕ → Bool
sums_right w s ls g σ = eqb (sum w s (output ls σ)) (entry g (sum w s σ))

unfoldable pub correct : ℕ → ℕ → Stage → Bool
correct w s g = all (2 ^ (w * s)) (sums_right w s g.lists g.table)

-- component j depends on share e
unfoldable pub depends_on : ℕ → ℕ → Stage → ℕ → ℕ → Bool
depends_on w s g j e =
    any (2 ^ (w * s)) (λ σ. any (2 ^ w) (λ v. not (eqb (component w g.lists j (with_share w e v σ)) (component w g.lists j σ))))

-- component j depends on every share
unfoldable pub depends_on_all : ℕ → ℕ → Stage → ℕ → Bool
depends_on_all w s g j = all s (depends_on w s g j)

unfoldable pub non_complete : ℕ → ℕ → Stage → Bool
non_complete w s g = not (any s (depends_on_all w s g))

-- how many sharings of x give the output sharing τ
unfoldable pub sharings_to : ℕ → ℕ → Stage → ℕ → ℕ → ℕ
sharings_to w s g x τ = count (2 ^ (w * s)) (λ σ. eqb (sum w s σ) x && eqb (output g.lists σ) τ)

unfoldable pub uniform : ℕ → ℕ → Stage → Bool
uniform w s g =
    all (2 ^ w) (λ x. all (2 ^ (w * s)) (λ τ. implies (eqb (sum w s τ) (entry g.table x)) (eqb (sharings_to w s g x τ) 1)))
