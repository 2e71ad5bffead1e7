-- Component j depends on share e exactly when one of its lists names a variable of share e: to clear those variables is to put 0 for share e,
-- and the function of a rising list depends on a group of variables exactly when a term names one. Assumes nothing.
use mathlib.Core.Path.{◌≡◌, sym, ap, ◌∙◌}
use mathlib.Core.Logic.{⊎_elim}
use mathlib.Core.Bool.{Bool, true}
use mathlib.Core.List.{[]}
use Prim.Native.Nat.{ℕ, ◌+◌, ◌*◌, ◌/◌, ◌^◌, ◌<◌}
use native.Mathlib.Nat.{add-mul}
use native.Mathlib.Omega.{arith}
use lib.Pow.{pow_pos, high_ones}
use lib.Bits.{bit_and, and_high}
use lib.ListN.{get_or}
use Rattle.finite.specs.Tests.{any}
use Rattle.anf.specs.Terms.{IsTermList, names, clear}
use Rattle.finite.proofs.Testing.{bool_ext, any_some, any_none}
use Rattle.std.proofs.lemmas.Bool.{cases_Bool}
use Rattle.anf.proofs.Terms.{clear_add, independent, names_depends}
use Rattle.records.specs.Design.{Stage}
use Rattle.sharing.specs.Sharing.{share, setting, put_share, with_share}
use Rattle.sharing.specs.Inside.Variables.{variables}
use Rattle.sharing.specs.Stages.{component, depends_on}
use Rattle.sharing.proofs.Sharing.{place_lt, share_lt, put_share_setting, setting_with, with_other}
use Rattle.sharing.proofs.Output.{component_eq, component_bit}
use Rattle.sharing.proofs.Tests.{depends_some, depends_at}

module _ (w j : ℕ) where
  -- of x, the variables of share j hold share j
  and_variables : (x : ℕ) → bit_and x (variables w j) ≡ share w j x * 2 ^ (w * j)
  unfolding variables share
  and_variables x = ap (bit_and x) (sym (high_ones w (w * j))) ∙ and_high x w (w * j)

  put_add : (v q : ℕ) → put_share w j v q ≡ put_share w j 0 q + v * 2 ^ (w * j)
  unfolding put_share
  put_add v q = omega (arith, add-mul (q / 2 ^ (w * j) * 2 ^ w) v (2 ^ (w * j)))

  pub clear_variables : (x : ℕ) → clear x (variables w j) ≡ with_share w j 0 x
  clear_variables x =
      omega (arith, clear_add x (variables w j), and_variables x, put_share_setting w j x, put_add (share w j x) (setting w j x))

  pub clear_setting : (x y : ℕ) → clear x (variables w j) ≡ clear y (variables w j) → setting w j x ≡ setting w j y
  clear_setting x y e =
      sym (setting_with w j 0 x (pow_pos w)) ∙ ap (setting w j) (sym (clear_variables x) ∙ e ∙ clear_variables y) ∙ setting_with w j 0 y (pow_pos w)

  pub setting_clear : (x y : ℕ) → setting w j x ≡ setting w j y → clear x (variables w j) ≡ clear y (variables w j)
  setting_clear x y e = clear_variables x ∙ ap (put_share w j 0) e ∙ sym (clear_variables y)

module _ (w s : ℕ) (g : Stage) (j e : ℕ) (hj : j < s) (fits : (l : ℕ) → l < w * s → IsTermList (w * s) (get_or g.lists l [])) where
  -- list b of component j names a variable of share e
  abbrev names_it : ℕ → Bool
  names_it b = names (variables w e) (get_or g.lists (w * j + b) [])

  pub depends_listed : depends_on w s g j e ≡ any w (λ b. names (variables w e) (get_or g.lists (w * j + b) []))
  depends_listed = bool_ext (depends_on w s g j e) (any w names_it) to from
    where
      to : depends_on w s g j e ≡ true → any w names_it ≡ true
      to t =
          let r = depends_some w s g j e t in
          ⊎_elim (λ y. y)
          (λ f. absurd (r.4 (component_eq (with_share w e r.2 r.0) r.0 w j g.lists
          (λ b l. independent (variables w e) (get_or g.lists (w * j + b) []) (any_none w names_it f b l) (with_share w e r.2 r.0) r.0
          (setting_clear w e (with_share w e r.2 r.0) r.0 (setting_with w e r.2 r.0 r.3))))))
          (cases_Bool (any w names_it))

      from : any w names_it ≡ true → depends_on w s g j e ≡ true
      from t =
          let b = any_some w names_it t in
          let d = names_depends (w * s) (variables w e) (get_or g.lists (w * j + b.0) []) (fits (w * j + b.0) (place_lt w s j b.0 hj b.1)) b.2 in
          let same = with_other w e d.x d.y (clear_setting w e d.x d.y d.alone) in
          depends_at w s g j e d.x d.x_below (share w e d.y) (share_lt w e d.y)
          (λ q. d.changes (component_bit d.x d.y w j g.lists (sym q ∙ ap (component w g.lists j) same) b.0 b.1))
