-- What the tests of tables mean: entries below a bound, and entries that repeat.
use mathlib.Core.Path.{◌≡◌, ◌∙◌}
use mathlib.Core.Bool.{Bool, true}
use mathlib.Core.List.{List}
use Prim.Native.Nat.{ℕ, ◌<◌}
use native.Mathlib.Omega.{arith}
use lib.Dec.{eqb, ltb}
use lib.ListN.{length, get_or, take}
use borrow.Author.Tests.{ltb-true, lt-ltb}
use Rattle.finite.proofs.Testing.{all_at, all_intro, any_congr}
use Rattle.std.specs.List.{list_all, list_any, enumerate_from}
use Rattle.finite.specs.Maps.{met_before, repeats}
use Rattle.finite.proofs.Lists.{list_all_is, list_any_take, list_any_places}
use Rattle.anf.specs.Tables.{entries_below, entry}

pub entries_at : (t : List ℕ) (bound : ℕ) → entries_below t bound ≡ true → (x : ℕ) → x < length t → get_or t x 0 < bound
unfolding entries_below
entries_at t bound e x l = ltb-true (get_or t x 0) bound (all_at (length t) (λ i. ltb (get_or t i 0) bound) e x l)

pub entries_intro : (t : List ℕ) (bound : ℕ) → ((x : ℕ) → x < length t → get_or t x 0 < bound) → entries_below t bound ≡ true
unfolding entries_below
entries_intro t bound h = all_intro (length t) (λ i. ltb (get_or t i 0) bound) (λ x l. lt-ltb (get_or t x 0) bound (h x l))

-- ---- what the functions of these names compute, as iterators say it

pub all_below : (t : List ℕ) (bound : ℕ) (r : Bool) → r ≡ list_all (λ e. ltb e bound) t → r ≡ entries_below t bound
unfolding entries_below
all_below t bound r e = e ∙ list_all_is 0 (λ x. ltb x bound) t

-- an entry, given with its place i, stands below i too
abbrev pub met_at : List ℕ → ℕ × ℕ → Bool
met_at t q = list_any (λ y. eqb y q.1) (take q.0 t)

pub any_before : (t : List ℕ) (r : Bool) → r ≡ list_any (met_at t) (enumerate_from 0 t) → r ≡ repeats (length t) (entry t)
unfolding repeats met_before
any_before t r e =
    e ∙ list_any_places 0 (met_at t) t ∙ any_congr (length t) _ _ (λ i l. list_any_take 0 (λ y. eqb y (get_or t i 0)) t i (omega arith))
