-- What a file means is well formed: each record's tests were passed.
use Prim.Native.Nat.{ℕ, ◌+◌, ◌*◌, ◌/◌, ◌^◌, ◌≤◌, ◌<◌}
use mathlib.Core.Path.{◌≡◌, refl, sym, ◌∙◌}
use mathlib.Core.List.{List, []}
use mathlib.Core.Bool.{true, ◌||◌}
use native.Mathlib.Omega.{arith}
use borrow.Author.Tests.{ltb-true, eqb-true, ne_eqb}
use lib.ListN.{length, get_or, drop, length-drop}
use lib.Seq.{get_or-take, get_or-drop, length-take-le}
use lib.Dec.{eqb, lit<}
use Rattle.finite.specs.Tests.{all, tabulate}
use Rattle.std.proofs.lemmas.Bool.{and_parts}
use Rattle.finite.proofs.Testing.{all_at, tabulate_length, tabulate_at, pick_passed}
use Rattle.anf.specs.Terms.{before}
use Rattle.design.specs.Limits.{greatest_terms, Head}
use Rattle.records.specs.Bytes.{u16_at, u32_at}
use Rattle.anf.specs.Tables.{TableFits}
use Rattle.design.specs.WellFormed.{ListFits, StageFits, WellFormed}
use Rattle.design.specs.Reading.{number_of, kind_due, size_due, length_due, entry_fits, previous, term_fits, fault_at, means, reading, place, head_of, meaning, stage_at, table_at, list_at}
use Rattle.design.proofs.Records.{entry_below, body_2, body_3, previous_more, fault_framed, body_none}
use Rattle.design.proofs.FileRecords.{fine, limits_file, stage_is, staged, number_low}
use Rattle.design.proofs.Meaning.{list_size, last_two}

term_rises : (f : List ℕ) (start bound j : ℕ) → term_fits f start bound j ≡ true → (eqb j 0 || before (previous f start j) (u32_at f (start + 4 * j))) ≡ true
unfolding term_fits
term_rises f start bound j e = (and_parts (eqb j 0 || before (previous f start j) (u32_at f (start + 4 * j))) _ e).0

term_below : (f : List ℕ) (start bound j : ℕ) → term_fits f start bound j ≡ true → u32_at f (start + 4 * j) < bound
unfolding term_fits
term_below f start bound j e = ltb-true _ _ (and_parts (eqb j 0 || before (previous f start j) (u32_at f (start + 4 * j))) _ e).1

module _ (f : List ℕ) (h : Head) (i at : ℕ) (e : fault_at f h i at ≡ 0) where
  table_fits : kind_due h i ≡ 2 → TableFits h.m (table_at f at (2 ^ h.m))
  unfolding table_at size_due length_due
  table_fits k =
      let w = rw k at (fault_framed f h i at e) in
      let s : u16_at f at ≡ 2 ^ h.m = eqb-true _ _ w.size in
      let r = w.rest in
      let l : 2 ^ h.m ≤ length (drop (at + 4) f) = rw length-drop (omega arith) in
      let c : all (u16_at f at) (entry_fits f (at + 4) (2 ^ h.m)) ≡ true = pick_passed _ 5 (lit< tt) (sym (body_2 f h 2 (at + 4) (u16_at f at) refl) ∙ rw k at (body_none f h i at e)) in
      record {
        size = length-take-le _ _ l;
        below = λ x u. rw (get_or-take _ (drop (at + 4) f) x 0 u, get_or-drop (at + 4) f x 0) (entry_below f (at + 4) (2 ^ h.m) x (all_at _ _ c x (rw s u)));
      }

  list_fits : kind_due h i ≡ 3 → ListFits (h.m * h.s) (list_at f at)
  unfolding list_at size_due
  list_fits k =
      let w = rw k at (fault_framed f h i at e) in
      let s = list_size (4 * greatest_terms) (u16_at f at) w.size in
      let c : all (u16_at f at / 4) (term_fits f (at + 4) (2 ^ (h.m * h.s))) ≡ true = pick_passed _ 6 (lit< tt) (sym (body_3 f h 3 (at + 4) (u16_at f at) refl) ∙ rw k at (body_none f h i at e)) in
      let n = u16_at f at / 4 in
      let g : ℕ → ℕ = λ j. u32_at f (at + 4 + 4 * j) in
      let l : length (tabulate n g) ≡ n = tabulate_length n g in
      record {
        size = omega arith;
        terms = record {
          below = λ j u. let v : j < n = rw l at u in rw (tabulate_at n g j 0 v) (term_below f (at + 4) (2 ^ (h.m * h.s)) j (all_at _ _ c j v));
          rising = λ j u.
              let v : j + 1 < n = rw l at u in
              let a = rw (previous_more f (at + 4) 0 j, ne_eqb (j + 1) 0 (λ z. omega arith)) at (term_rises f (at + 4) (2 ^ (h.m * h.s)) (j + 1) (all_at _ _ c (j + 1) v)) in
              rw (tabulate_at n g j 0 (omega arith), tabulate_at n g (j + 1) 0 v) a;
        };
      }

module _ (f : List ℕ) (r : reading f ≡ means (meaning f)) where
  stage_fits : (t : ℕ) → t < (head_of f).k → StageFits (head_of f).m (head_of f).s (stage_at f (head_of f) t)
  unfolding stage_at
  stage_fits t a =
      let m = (head_of f).m in
      let h = head_of f in
      record {
        table = table_fits f h (number_of h t 0) _ (fine f r _ (let q = number_low h t 0 a (omega arith) in omega arith)) (staged h t 0 a (omega arith));
        count = tabulate_length _ _;
        list = λ l b. let v : get_or (stage_at f h t).lists l [] ≡ list_at f (place f (number_of h t (l + 1))) = tabulate_at _ _ l [] b in rw v
            (list_fits f h (number_of h t (l + 1)) _ (fine f r _ (let q = number_low h t (l + 1) a (omega arith) in omega arith))
            (staged h t (l + 1) a (omega arith) ∙ simp (ne_eqb (l + 1) 0 (λ z. omega arith))));
      }

  pub formed : WellFormed (meaning f)
  unfolding meaning kind_due
  formed = record {
    limits = limits_file f r;
    box = table_fits f (head_of f) 1 _ (fine f r 1 (let q = last_two (head_of f) in omega arith)) refl;
    count = tabulate_length _ _;
    stage = λ t a. rw (stage_is f r t a) (stage_fits t a);
  }
