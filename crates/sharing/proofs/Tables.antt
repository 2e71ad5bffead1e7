-- The chain of tables, one table at a time; and where it is a permutation, each table is one. Assumes nothing.
use mathlib.Core.Path.{◌≡◌, refl, sym, ap, ◌∙◌}
use mathlib.Core.List.{List, [], ◌∷◌, ◌++◌}
use Prim.Native.Nat.{ℕ, zero, suc, ◌+◌, ◌<◌, ◌≤◌, suc-le-suc, zero-le}
use native.Mathlib.Nat.{not-suc-le-zero, le_of_suc-le-suc}
use native.Mathlib.Numerals.{add-one}
use native.Mathlib.Omega.{arith}
use lib.ListN.{length, get_or, take}
use lib.Seq.{take-length}
use Rattle.finite.specs.Maps.{Injective}
use Rattle.finite.proofs.Counting.{onto}
use Rattle.anf.specs.Tables.{entry}
use Rattle.records.specs.Design.{Stage, no_stage}
use Rattle.sharing.specs.Chain.{chained}

chained_suc : (gs : List Stage) (t x : ℕ) → t < length gs → chained (take (suc t) gs) x ≡ entry (get_or gs t no_stage).table (chained (take t gs) x)
unfolding chained
chained_suc [] t x l = absurd (not-suc-le-zero l)
chained_suc (g ∷ gs) zero x l = refl
chained_suc (g ∷ gs) (suc t) x l = chained_suc gs t (entry g.table x) (le_of_suc-le-suc l)

-- one table more
pub chained_next : (gs : List Stage) (t x : ℕ) → t < length gs → chained (take (t + 1) gs) x ≡ entry (get_or gs t no_stage).table (chained (take t gs) x)
chained_next gs t x l = rw add-one (chained_suc gs t x l)

pub chained_none : (gs : List Stage) (x : ℕ) → chained (take 0 gs) x ≡ x
unfolding chained
chained_none gs x = refl

pub chained_all : (gs : List Stage) (t x : ℕ) → t ≡ length gs → chained (take t gs) x ≡ chained gs x
chained_all gs t x e = ap (λ (l : List Stage). chained l x) (ap (λ (n : ℕ). take n gs) e ∙ take-length gs)

-- one chain behind another
pub chained_append : (a b : List Stage) (x : ℕ) → chained (a ++ b) x ≡ chained b (chained a x)
unfolding chained
chained_append [] b x = refl
chained_append (g ∷ a) b x = chained_append a b (entry g.table x)

-- what the tables make of a number below N is below N
pub chained_lt : (N : ℕ) (gs : List Stage) → ((t : ℕ) → t < length gs → (x : ℕ) → x < N → entry (get_or gs t no_stage).table x < N)
    → (t x : ℕ) → t ≤ length gs → x < N → chained (take t gs) x < N
unfolding chained
chained_lt N gs into zero x l h = h
chained_lt N [] into (suc t) x l h = h
chained_lt N (g ∷ gs) into (suc t) x l h =
    chained_lt N gs (λ i k. into (suc i) (suc_le k)) t (entry g.table x) (le_of_suc-le-suc l) (into 0 (omega arith) x h)
  where
    suc_le : {a b : ℕ} → a < b → suc a < suc b
    suc_le k = omega arith

-- ---- the first table repeats no entry, so it takes every value, so the rest of the chain repeats none

abbrev Into : ℕ → List ℕ → Type 0
Into N t = (x : ℕ) → x < N → entry t x < N

pub chain_tables : (N : ℕ) (gs : List Stage) → ((t : ℕ) → t < length gs → Into N (get_or gs t no_stage).table) → Injective N (chained gs)
    → (t : ℕ) → t < length gs → Injective N (entry (get_or gs t no_stage).table)
unfolding chained
chain_tables N [] into inj t l = absurd (not-suc-le-zero l)
chain_tables N (g ∷ gs) into inj t l = go (λ i k. chain_tables N gs (λ i k. into (suc i) (suc-le-suc k)) rest i k) t l
  where
    here : Injective N (entry g.table)
    here x y lx ly e = inj x y lx ly (ap (chained gs) e)

    rest : Injective N (chained gs)
    rest u v lu lv e =
        let a = onto N (entry g.table) here (into 0 (suc-le-suc zero-le)) u lu in
        let b = onto N (entry g.table) here (into 0 (suc-le-suc zero-le)) v lv in
        sym a.2
        ∙ ap (entry g.table) (inj a.0 b.0 a.1 b.1 (ap (chained gs) a.2 ∙ e ∙ sym (ap (chained gs) b.2)))
        ∙ b.2

    go : ((t : ℕ) → t < length gs → Injective N (entry (get_or gs t no_stage).table)) → (t : ℕ) → t < length (g ∷ gs) → Injective N (entry (get_or (g ∷ gs) t no_stage).table)
    go more zero l = here
    go more (suc t) l = more t (le_of_suc-le-suc l)
