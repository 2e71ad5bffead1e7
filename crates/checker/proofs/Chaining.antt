-- The chain of tables: its test means its fact, and where it is a permutation, each table is one. And its laws over plain values: one value sent through table
-- after table, and S at each.
-- Assumes nothing.
use mathlib.Core.Path.{◌≡◌, sym, ap, ◌∙◌}
use mathlib.Core.Logic.{◌↔◌}
use mathlib.Core.List.{List}
use mathlib.Core.Bool.{true}
use Prim.Native.Nat.{ℕ, ◌+◌, ◌^◌, ◌<◌, ◌≤◌}
use native.Mathlib.Omega.{arith}
use lib.ListN.{length, get_or, take}
use lib.Dec.{eqb}
use borrow.Author.Tests.{eqb-true, eq-eqb}
use Rattle.finite.specs.Tests.{all}
use Rattle.finite.proofs.Testing.{all_at, all_intro}
use Rattle.anf.specs.Tables.{entry, Permutation}
use Rattle.records.specs.Design.{Stage, Design, no_stage}
use Rattle.design.specs.WellFormed.{WellFormed}
use Rattle.sharing.specs.Chain.{chained}
use Rattle.sharing.proofs.Tables.{chained_lt, chained_next, chained_all, chain_tables}
use Rattle.checker.specs.Verdict.{chain_is_box}
use Rattle.checker.specs.Accepted.{ChainIsBox, TablePermutes}

pub chain↔ : (d : Design) → chain_is_box d ≡ true ↔ ChainIsBox d
unfolding chain_is_box
chain↔ d = (
  λ e x l. eqb-true _ _ (all_at (2 ^ d.m) _ e x l),
  λ h. all_intro (2 ^ d.m) _ (λ x l. eq-eqb _ _ (h x l)),
)

-- S is a permutation, and all widths are equal, as `WellFormed` says
pub chain_permutes : (d : Design) → WellFormed d → Permutation d.m d.box → ChainIsBox d → (t : ℕ) → t < d.k → TablePermutes d t
chain_permutes d wf box chain t l =
    chain_tables (2 ^ d.m) d.stages (λ i h. (wf.stage i (omega (arith, wf.count))).table.below)
    (λ x y lx ly e. box x y lx ly (sym (chain x lx) ∙ e ∙ chain y ly)) t (omega (arith, wf.count))

-- ---- `chained`: y is what the first t tables of a design make of x, b the table of stage t

module _ (m s k : ℕ) (box : List ℕ) (stages : List Stage) (wf : WellFormed (record { m = m; s = s; k = k; box = box; stages = stages })) where
  module _ (x y t : ℕ) (e : y ≡ chained (take t stages) x) where
    pub chained_end : t ≤ k → k ≤ t → y ≡ chained stages x
    chained_end up low = e ∙ chained_all stages t x (omega (arith, wf.count))

    module _ (h : t < k) (b : List ℕ) where
      pub chained_within : length b ≡ 2 ^ m → x < 2 ^ m → y < length b
      chained_within n l =
          let z : chained (take t stages) x < 2 ^ m = chained_lt (2 ^ m) stages (λ i j. (wf.stage i (omega (arith, wf.count))).table.below) t x (omega (arith, wf.count)) l in
          omega arith

      pub chained_step : b ≡ (get_or stages t no_stage).table → (v : ℕ) → v ≡ get_or b y 0 → v ≡ chained (take (t + 1) stages) x
      chained_step eb v ev =
          ev
          ∙ ap (λ (l : List ℕ). get_or l y 0) eb
          ∙ ap (λ (z : ℕ). get_or (get_or stages t no_stage).table z 0) e
          ∙ sym (chained_next stages t x (omega (arith, wf.count)))

-- ---- `chain_is_box`: n is the number of entries of S

pub every_entry : (d : Design) (n : ℕ) → n ≡ 2 ^ d.m → all n (λ x. eqb (chained d.stages x) (entry d.box x)) ≡ chain_is_box d
unfolding chain_is_box
every_entry d n e = ap (λ (w : ℕ). all w (λ x. eqb (chained d.stages x) (entry d.box x))) e
