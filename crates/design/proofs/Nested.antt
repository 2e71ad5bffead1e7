-- The file record by record is the file as `encode` nests it.
use Prim.Native.Nat.{ℕ, zero, suc, ◌+◌, ◌*◌, ◌≤◌, ◌<◌}
use mathlib.Core.Path.{◌≡◌, refl, sym, ap, ◌∙◌}
use mathlib.Core.List.{List, [], ◌∷◌, ◌++◌, map, append_assoc, append-nil}
use native.Mathlib.Omega.{arith}
use native.Mathlib.Nat.{suc-mul, zero-mul}
use native.Mathlib.Numerals.{add-one}
use borrow.Author.Tests.{ne_eqb}
use Rattle.finite.specs.Tests.{tabulate}
use Rattle.finite.proofs.Testing.{tabulate_congr, map_is}
use Rattle.std.specs.List.{concat}
use Rattle.records.specs.Bytes.{term_bytes}
use Rattle.records.specs.Design.{Design, no_stage, stage_of, list_of}
use Rattle.design.specs.WellFormed.{WellFormed}
use Rattle.records.specs.Records.{a_record}
use Rattle.records.specs.Encode.{lists_bytes, stage_bytes, encode}
use Rattle.design.specs.Reading.{last_of, number_of, kind_due}
use Rattle.design.proofs.Flat.{head_for, stage_body, body_of, record_of, flat}
use Rattle.design.proofs.FileRecords.{staged}
use Rattle.records.proofs.Concat.{concat_snoc, concat_add}
use Rattle.design.proofs.Meaning.{body_stage, body_end, kind_end}

concat_none : (g : ℕ → List ℕ) → concat (tabulate 0 g) ≡ []
unfolding tabulate
concat_none g = refl

concat_first : (n : ℕ) (g : ℕ → List ℕ) → concat (tabulate (suc n) g) ≡ g 0 ++ concat (tabulate n (λ i. g (suc i)))
unfolding tabulate
concat_first n g = refl

-- k times c lists
concat_mul : (k c : ℕ) (g : ℕ → List ℕ) → concat (tabulate (k * c) g) ≡ concat (tabulate k (λ t. concat (tabulate c (λ l. g (t * c + l)))))
concat_mul zero c g = rw (zero-mul, concat_none, concat_none) refl
concat_mul (suc k) c g =
    rw suc-mul (concat_add (k * c) c g ∙ ap (λ (x : List ℕ). x ++ concat (tabulate c (λ l. g (k * c + l)))) (concat_mul k c g) ∙ sym (concat_snoc (λ t. concat (tabulate c (λ l. g (t * c + l)))) k))

module _ (d : Design) (w : WellFormed d) where
  record_table : (t : ℕ) → t < d.k → record_of d (number_of (head_for d) t 0) ≡ a_record 2 (stage_of d t).table
  unfolding record_of stage_body
  record_table t a = rw (staged (head_for d) t 0 a (omega arith), body_stage d t 0 a (omega arith)) refl

  record_list : (t l : ℕ) → t < d.k → suc l ≤ d.m * d.s → record_of d (number_of (head_for d) t (suc l)) ≡ a_record 3 (term_bytes (list_of d t l))
  unfolding record_of stage_body
  record_list t l a b = rw (staged (head_for d) t (suc l) a b, body_stage d t (suc l) a b, ne_eqb (suc l) 0 (λ z. omega arith)) refl

  stage_encode : (t : ℕ) → t < d.k → concat (tabulate (1 + d.m * d.s) (λ l. record_of d (number_of (head_for d) t l))) ≡ stage_bytes (stage_of d t)
  unfolding stage_bytes lists_bytes
  stage_encode t a =
      let e : 1 + d.m * d.s ≡ suc (d.m * d.s) = omega arith in
      rw e (concat_first (d.m * d.s) _ ∙ rw (record_table t a, map_is (λ ts. a_record 3 (term_bytes ts)) (stage_of d t).lists (d.m * d.s) [] (w.stage t a).count)
      (ap (λ (x : List (List ℕ)). a_record 2 (stage_of d t).table ++ concat x) (tabulate_congr (d.m * d.s) _ _ (λ l b. record_list t l a b))))

  stages_encode : concat (tabulate (d.k * (1 + d.m * d.s)) (λ i. record_of d (2 + i))) ≡ concat (map stage_bytes d.stages)
  unfolding number_of
  stages_encode =
      concat_mul d.k (1 + d.m * d.s) (λ i. record_of d (2 + i)) ∙
      rw (map_is stage_bytes d.stages d.k no_stage w.count)
      (ap concat (tabulate_congr d.k _ _ (λ t a.
      ap concat (tabulate_congr (1 + d.m * d.s) _ (λ l. record_of d (number_of (head_for d) t l)) (λ l b. ap (record_of d) (omega arith))) ∙ stage_encode t a)))

  end_encode : record_of d (last_of (head_for d)) ≡ a_record 4 []
  unfolding record_of
  end_encode = rw (kind_end (head_for d), body_end d) refl

  start_encode : concat (tabulate 2 (record_of d)) ≡ a_record 1 (d.m ∷ d.s ∷ d.k ∷ []) ++ a_record 2 d.box
  unfolding tabulate record_of kind_due body_of a_record
  start_encode = simp append-nil

  pub flat_encode : flat d ≡ encode d
  unfolding flat encode last_of
  flat_encode =
      rw add-one (concat_snoc (record_of d) (2 + d.k * (1 + d.m * d.s)) ∙ rw (concat_add 2 (d.k * (1 + d.m * d.s)) (record_of d), end_encode, start_encode, stages_encode) (simp append_assoc))
