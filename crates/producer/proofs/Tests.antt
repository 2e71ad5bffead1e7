-- The tests of producing in their published order, and what is known after them.
use mathlib.Core.Path.{◌≡◌, refl, sym, ap, ap₂, ◌∙◌, subst}
use mathlib.Core.Bool.{true, false, not}
use mathlib.Core.List.{List, [], ◌∷◌, ◌++◌}
use Prim.Native.Nat.{ℕ, ◌^◌, ◌≤◌, ◌<◌}
use native.Mathlib.Omega.{arith}
use lib.Pow.{pow_mono}
use lib.Dec.{eqb, ltb, leb}
use lib.ListN.{length, get_or, take, drop}
use lib.Seq.{take_at, get_or-take}
use borrow.Author.Tests.{eq-eqb, ne_eqb, le-leb, lt-leb}
use Rattle.finite.specs.Maps.{repeats}
use Rattle.finite.specs.Faults.{first_fault}
use Rattle.finite.proofs.Faults.{fault_here, fault_past}
use Rattle.finite.proofs.Testing.{tabulate_length, tabulate_at, pick_true}
use Rattle.anf.specs.NormalForm.{subset_sum, degree}
use Rattle.anf.specs.Tables.{entries_below, entry, TableFits}
use Rattle.anf.specs.Inside.Words.{words_degree}
use Rattle.anf.specs.Transform.{transform_after, transformed}
use Rattle.anf.proofs.TransformAnswer.{input_answer, transformed_degree}
use Rattle.anf.proofs.Tables.{entries_at}
use Rattle.design.specs.Limits.{broken}
use Rattle.anf.specs.Tables.{TableFits}
use Rattle.design.proofs.Limits.{bounds, head_number}
use Rattle.direct.specs.Direct.{loads, Loads, placed, direct_lists, direct_stage, direct_sharing}
use Rattle.direct.proofs.Stage.{lists_congr}
use Rattle.direct.proofs.PlacementTables.{loaded}
use Rattle.producer.specs.Producing.{produced, produced_reason, produced_length}
use Rattle.producer.specs.Inside.Filing.{one_stage_file}
use Rattle.producer.proofs.Terms.{length_congr, produced_size}

-- ---- what is known after the tests

-- every test before that of the placement has passed
pub record TableTested (m s : ℕ) (t l : List ℕ) (room : ℕ) : Type 0 where
  pub limits : broken m s 1 ≡ false
  pub size : length t ≡ 2 ^ m
  pub below : entries_below t (2 ^ m) ≡ true
  pub passed : produced_reason m s t l room
      ≡ first_fault ((not (loads s l), 21) ∷ (leb s (degree m (entry t)), 16) ∷ (ltb room (length (produced m s t l)), 17) ∷ []) 0

-- every test but the last has passed, and words are the coefficient words of the table
pub record DegreeTested (m s : ℕ) (t l words : List ℕ) (room : ℕ) : Type 0 where
  pub limits : broken m s 1 ≡ false
  pub table : TableFits m t
  pub placement : Loads s l
  pub low : degree m (entry t) < s
  pub passed : produced_reason m s t l room ≡ first_fault ((ltb room (length (produced m s t l)), 17) ∷ []) 0
  pub words_all : 2 ^ m ≤ length words
  pub coefficients : (u : ℕ) → u < 2 ^ m → get_or words u 0 ≡ subset_sum m (entry t) u

-- ---- the reasons in their order

module _ (m s : ℕ) (t l : List ℕ) (room : ℕ) where
  pub reason_head : broken m s 1 ≡ true → produced_reason m s t l room ≡ 4
  unfolding produced_reason
  reason_head b = fault_here _ _ _ 0 b ∙ head_number m s 1 ∙ pick_true (broken m s 1) 4 0 b

  module _ (b : broken m s 1 ≡ false) where
    pub reason_size : (length t ≡ 2 ^ m → ⊥) → produced_reason m s t l room ≡ 3
    unfolding produced_reason
    reason_size z = fault_past _ _ _ 0 b ∙ fault_here _ 3 _ 0 (ap not (ne_eqb _ _ z))

    module _ (z : length t ≡ 2 ^ m) where
      size_right : not (eqb (length t) (2 ^ m)) ≡ false
      size_right = ap not (eq-eqb _ _ z)

      pub reason_entry : entries_below t (2 ^ m) ≡ false → produced_reason m s t l room ≡ 5
      unfolding produced_reason
      reason_entry e = fault_past _ _ _ 0 b ∙ fault_past _ 3 _ 0 size_right ∙ fault_here _ 5 _ 0 (ap not e)

      module _ (e : entries_below t (2 ^ m) ≡ true) where
        pub reason_repeat : repeats (2 ^ m) (entry t) ≡ true → produced_reason m s t l room ≡ 8
        unfolding produced_reason
        reason_repeat r = fault_past _ _ _ 0 b ∙ fault_past _ 3 _ 0 size_right ∙ fault_past _ 5 _ 0 (ap not e) ∙ fault_here _ 8 _ 0 r

        pub table_tested : repeats (2 ^ m) (entry t) ≡ false → TableTested m s t l room
        unfolding produced_reason
        table_tested r = record {
          limits = b;
          size = z;
          below = e;
          passed = fault_past _ _ _ 0 b ∙ fault_past _ 3 _ 0 size_right ∙ fault_past _ 5 _ 0 (ap not e) ∙ fault_past _ 8 _ 0 r;
        }

  module _ (p : TableTested m s t l room) where
    pub reason_placement : loads s l ≡ false → produced_reason m s t l room ≡ 21
    reason_placement f = p.passed ∙ fault_here _ 21 _ 0 (ap not f)

    module _ (a : loads s l ≡ true) where
      pub reason_degree : s ≤ degree m (entry t) → produced_reason m s t l room ≡ 16
      reason_degree d = p.passed ∙ fault_past _ 21 _ 0 (ap not a) ∙ fault_here _ 16 _ 0 (le-leb _ _ d)

      pub reason_last : degree m (entry t) < s → produced_reason m s t l room ≡ first_fault ((ltb room (length (produced m s t l)), 17) ∷ []) 0
      reason_last d = p.passed ∙ fault_past _ 21 _ 0 (ap not a) ∙ fault_past _ 16 _ 0 (lt-leb _ _ d)

-- ---- the coefficient words

module _ (m s : ℕ) (t out : List ℕ) (b : broken m s 1 ≡ false) (z : length t ≡ 2 ^ m) (e : entries_below t (2 ^ m) ≡ true) (room : 2 ^ m ≤ length out) where
  words_are : transform_after m t out ≡ transformed m t ++ drop (2 ^ m) out
  words_are =
      (input_answer m t out (record { least = (bounds m s 1 b).m_low; most = (bounds m s 1 b).m_high; size = z; below = e; room_enough = room })).1

  words_first : take (2 ^ m) (transform_after m t out) ≡ transformed m t
  words_first = ap (take (2 ^ m)) words_are ∙ take_at (transformed m t) (drop (2 ^ m) out) (2 ^ m) (tabulate_length (2 ^ m) (subset_sum m (λ v. get_or t v 0)))

  -- their degree is that of the table
  words_degree_is : words_degree (take (2 ^ m) (transform_after m t out)) ≡ degree m (entry t)
  words_degree_is = ap words_degree words_first ∙ transformed_degree m t

  words_at : (u : ℕ) → u < 2 ^ m → get_or (transform_after m t out) u 0 ≡ subset_sum m (entry t) u
  words_at u l =
      sym (get_or-take (2 ^ m) (transform_after m t out) u 0 l) ∙ ap (λ (x : List ℕ). get_or x u 0) words_first
      ∙ tabulate_at (2 ^ m) (subset_sum m (λ v. get_or t v 0)) u 0 l

module _ (m s : ℕ) (t l : List ℕ) (room : ℕ) (p : TableTested m s t l room) (out words : List ℕ) (w : words ≡ transform_after m t out) (size : length out ≡ 64) where
  words_room : 2 ^ m ≤ length out
  words_room = omega (arith, pow_mono (bounds m s 1 p.limits).m_high)

  -- what the code finds for the degree
  pub found_degree : (n : ℕ) → n ≡ 2 ^ m → words_degree (take n words) ≡ degree m (entry t)
  found_degree n e =
      ap₂ (λ (x : ℕ) (y : List ℕ). words_degree (take x y)) e w ∙ words_degree_is m s t out p.limits p.size p.below words_room

  pub found_ready : loads s l ≡ true → degree m (entry t) < s → length words ≡ length out → DegreeTested m s t l words room
  found_ready a d e = record {
    limits = p.limits;
    table = record { size = p.size; below = λ x h. entries_at t (2 ^ m) p.below x (subst (λ (n : ℕ). x < n) (sym p.size) h) };
    placement = loaded s l a;
    low = d;
    passed = reason_last m s t l room p a d;
    words_all = omega (arith, words_room);
    coefficients = λ u k. ap (λ (x : List ℕ). get_or x u 0) w ∙ words_at m s t out p.limits p.size p.below words_room u k;
  }

-- ---- the file

module _ (m s : ℕ) (t l words : List ℕ) (room : ℕ) (r : DegreeTested m s t l words room) where
  pub file_is : one_stage_file m s t (direct_lists m s (placed s l) (λ u. get_or words u 0)) ≡ produced m s t l
  unfolding one_stage_file produced direct_sharing direct_stage
  file_is = ap (one_stage_file m s t) (lists_congr m s (placed s l) (placed s l) (λ J h. refl) (λ u. get_or words u 0) (subset_sum m (entry t)) r.coefficients)

  pub length_is : produced_length m s (λ u. get_or words u 0) ≡ length (produced m s t l)
  length_is = length_congr m s (λ u. get_or words u 0) (subset_sum m (entry t)) r.coefficients ∙ sym (produced_size m s t l r.table r.placement r.low)
