-- Each test of a stage means its proposition: the test passes exactly when the proposition holds. A test that fails has a place where it does.
-- Assumes nothing.
use mathlib.Core.Path.{◌≡◌, sym, ap, ◌∙◌}
use mathlib.Core.Logic.{◌↔◌, ◌≢◌}
use mathlib.Core.Bool.{true, false, ◌&&◌, not, not-not}
use mathlib.Core.List.{List}
use Prim.Native.Nat.{ℕ, ◌*◌, ◌^◌, ◌<◌}
use lib.Dec.{eqb}
use borrow.Author.Tests.{eqb-true, eqb-false, eq-eqb, ne_eqb, not-true, not-false}
use Rattle.finite.specs.Tests.{any}
use Rattle.finite.proofs.Testing.{all_at, all_intro, all_fails, all_not, any_at, any_some, any_none, none_any, implies_at, implies_intro}
use Rattle.std.proofs.lemmas.Bool.{and_from, and_parts}
use Rattle.anf.specs.Tables.{entry}
use Rattle.records.specs.Design.{Stage}
use Rattle.sharing.specs.Sharing.{sum, with_share}
use Rattle.sharing.specs.Stages.{output, component, Correct, Ignores, IgnoresSome, NonComplete, Uniform, correct, depends_on, depends_on_all, non_complete, sharings_to, uniform}
use Rattle.sharing.proofs.Sharing.{sum_shares}
use Rattle.sharing.proofs.Carried.{Even, count→exactly, exactly→count}

-- ---- uniform, as counts of 1

module _ (w s : ℕ) (out : ℕ → ℕ) (g : List ℕ) where
  both : (x τ σ : ℕ) → (eqb (sum w s σ) x && eqb (out σ) τ) ≡ true → (sum w s σ ≡ x) × (out σ ≡ τ)
  both x τ σ e = (
    eqb-true _ _ (and_parts (eqb (sum w s σ) x) (eqb (out σ) τ) e).0,
    eqb-true _ _ (and_parts (eqb (sum w s σ) x) (eqb (out σ) τ) e).1,
  )

  of_both : (x τ σ : ℕ) → (sum w s σ ≡ x) × (out σ ≡ τ) → (eqb (sum w s σ) x && eqb (out σ) τ) ≡ true
  of_both x τ σ e = and_from _ _ (eq-eqb _ _ e.0) (eq-eqb _ _ e.1)

  pub even→uniform : Even (2 ^ (w * s)) (2 ^ w) (sum w s) out (entry g) → Uniform w s out g
  even→uniform e x lx τ lτ h = count→exactly (2 ^ (w * s)) _ _ (both x τ) (of_both x τ) (e x lx τ lτ h)

  pub uniform→even : Uniform w s out g → Even (2 ^ (w * s)) (2 ^ w) (sum w s) out (entry g)
  uniform→even u x lx τ lτ h = exactly→count (2 ^ (w * s)) _ _ (both x τ) (of_both x τ) (u x lx τ lτ h)

-- ---- the tests of a stage

module _ (w s : ℕ) (g : Stage) where
  -- ---- correct

  pub correct_at : correct w s g ≡ true → (σ : ℕ) → σ < 2 ^ (w * s) → sum w s (output g.lists σ) ≡ entry g.table (sum w s σ)
  unfolding correct
  correct_at e σ l = eqb-true _ _ (all_at (2 ^ (w * s)) _ e σ l)

  pub at_correct : ((σ : ℕ) → σ < 2 ^ (w * s) → sum w s (output g.lists σ) ≡ entry g.table (sum w s σ)) → correct w s g ≡ true
  unfolding correct
  at_correct h = all_intro (2 ^ (w * s)) _ (λ σ l. eq-eqb _ _ (h σ l))

  pub correct↔ : correct w s g ≡ true ↔ Correct w s (component w g.lists) g.table
  correct↔ = (
    λ e σ l. sym (sum_shares w s (output g.lists σ)) ∙ correct_at e σ l,
    λ h. at_correct (λ σ l. sum_shares w s (output g.lists σ) ∙ h σ l),
  )

  -- ---- non-complete

  module _ (j e : ℕ) where
    -- the change of a share that the test found
    pub depends_some : depends_on w s g j e ≡ true
        → (σ : ℕ) × (σ < 2 ^ (w * s)) × (v : ℕ) × (v < 2 ^ w) × (component w g.lists j (with_share w e v σ) ≢ component w g.lists j σ)
    unfolding depends_on
    depends_some t =
        let a = any_some (2 ^ (w * s)) _ t in
        let b = any_some (2 ^ w) _ a.2 in
        (a.0, a.1, b.0, b.1, eqb-false _ _ (not-true _ b.2))

    pub depends_at : (σ : ℕ) → σ < 2 ^ (w * s) → (v : ℕ) → v < 2 ^ w → component w g.lists j (with_share w e v σ) ≢ component w g.lists j σ
        → depends_on w s g j e ≡ true
    unfolding depends_on
    depends_at σ l v lv ne = any_at (2 ^ (w * s)) _ σ l (any_at (2 ^ w) _ v lv (ap not (ne_eqb _ _ ne)))

    pub ignores↔ : depends_on w s g j e ≡ false ↔ Ignores w s e (component w g.lists j)
    unfolding depends_on
    ignores↔ = (
      λ t σ l v lv. eqb-true _ _ (not-false _ (any_none (2 ^ w) _ (any_none (2 ^ (w * s)) _ t σ l) v lv)),
      λ h. none_any (2 ^ (w * s)) _ (λ σ l. none_any (2 ^ w) _ (λ v lv. ap not (eq-eqb _ _ (h σ l v lv)))),
    )

  pub ignores_some↔ : (j : ℕ) → depends_on_all w s g j ≡ false ↔ IgnoresSome w s (component w g.lists j)
  unfolding depends_on_all
  ignores_some↔ j = (
    λ t. let r = all_not s (depends_on w s g j) t in (r.0, r.1, (ignores↔ j r.0).0 r.3),
    λ h. all_fails s (depends_on w s g j) h.0 h.1 ((ignores↔ j h.0).1 h.2),
  )

  pub non_complete↔ : non_complete w s g ≡ true ↔ NonComplete w s (component w g.lists)
  unfolding non_complete
  non_complete↔ = (
    λ t j l. (ignores_some↔ j).0 (any_none s (depends_on_all w s g) (not-true _ t) j l),
    λ h. ap not (none_any s (depends_on_all w s g) (λ j l. (ignores_some↔ j).1 (h j l))),
  )

  -- it fails where some component depends on every share
  pub not_non_complete : not (non_complete w s g) ≡ any s (depends_on_all w s g)
  unfolding non_complete
  not_non_complete = not-not (any s (depends_on_all w s g))

  -- ---- uniform

  pub uniform_at : uniform w s g ≡ true → Even (2 ^ (w * s)) (2 ^ w) (sum w s) (output g.lists) (entry g.table)
  unfolding uniform sharings_to
  uniform_at e x lx τ lτ h = eqb-true _ _ (implies_at _ _ (all_at (2 ^ (w * s)) _ (all_at (2 ^ w) _ e x lx) τ lτ) (eq-eqb _ _ h))

  pub at_uniform : Even (2 ^ (w * s)) (2 ^ w) (sum w s) (output g.lists) (entry g.table) → uniform w s g ≡ true
  unfolding uniform sharings_to
  at_uniform h =
      all_intro (2 ^ w) _ (λ x lx. all_intro (2 ^ (w * s)) _ (λ τ lτ. implies_intro _ _ (λ e. eq-eqb _ _ (h x lx τ lτ (eqb-true _ _ e)))))

  pub uniform↔ : uniform w s g ≡ true ↔ Uniform w s (output g.lists) g.table
  uniform↔ = (
    λ e. even→uniform w s (output g.lists) g.table (uniform_at e),
    λ u. at_uniform (uniform→even w s (output g.lists) g.table u),
  )
