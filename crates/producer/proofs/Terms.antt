-- How long the file of a direct sharing is, whatever the placement. Each product goes to one component, so the lists of one output bit have together as many
-- terms as the terms of that bit have products, s^d for each of d variables; a box that is shared has no term of s variables or more.
use mathlib.Core.Path.{◌≡◌, refl, sym, ap, ap₂, ◌∙◌}
use mathlib.Core.Logic.{◌⊎◌, inl, inr}
use mathlib.Core.Bool.{Bool, true, false, ◌&&◌}
use mathlib.Core.List.{List, []}
use Prim.Native.Nat.{ℕ, ◌+◌, ◌*◌, ◌^◌, ◌<◌}
use native.Mathlib.Nat.{mul_comm, mul_assoc}
use native.Mathlib.Omega.{arith}
use lib.Dec.{eqb}
use lib.Count.{ones}
use lib.ListN.{length, get_or}
use borrow.Author.Tests.{eqb-true, eq-eqb}
use Rattle.finite.specs.Tests.{any, bit, count, total}
use Rattle.finite.specs.Sets.{has}
use Rattle.std.proofs.lemmas.Bool.{cases_Bool, and_parts, and_from}
use Rattle.finite.proofs.Testing.{clash, any_some, any_none}
use Rattle.finite.proofs.Counting.{total_congr, total_add, total_blocks, total_swap, total_times, total_const, count_congr, count_one, count_none}
use Rattle.finite.proofs.Elements.{ones_count}
use Rattle.anf.specs.NormalForm.{subset_sum, degree}
use Rattle.anf.specs.Tables.{entry, TableFits}
use Rattle.anf.proofs.PassingLists.{passing_length}
use Rattle.anf.proofs.SubsetSums.{subset_sum_lt}
use Rattle.design.proofs.FileLength.{stage_length, encode_length}
use Rattle.direct.specs.Direct.{is_product, chosen, Loads, placed, stands, direct_list, direct_stage, direct_sharing}
use Rattle.direct.proofs.Products.{product_term}
use Rattle.direct.proofs.Placement.{product_component}
use Rattle.direct.specs.Inside.Outside.{Outside}
use Rattle.direct.proofs.PlacementTables.{placed_outside}
use Rattle.direct.proofs.Counts.{products_count}
use Rattle.direct.proofs.Stage.{term_small, list_at, lists_length}
use Rattle.producer.specs.Producing.{produced, terms_count, produced_length}

-- ---- the words are asked at the terms alone

pub terms_congr : (m s : ℕ) (f g : ℕ → ℕ) → ((u : ℕ) → u < 2 ^ m → f u ≡ g u) → terms_count m s f ≡ terms_count m s g
unfolding terms_count
terms_congr m s f g h = total_congr (2 ^ m) _ _ (λ u l. ap (λ (w : ℕ). s ^ ones u * ones w) (h u l))

pub length_congr : (m s : ℕ) (f g : ℕ → ℕ) → ((u : ℕ) → u < 2 ^ m → f u ≡ g u) → produced_length m s f ≡ produced_length m s g
unfolding produced_length
length_congr m s f g h = omega (arith, terms_congr m s f g h)

-- ---- the lists of one output bit

module _ (m s : ℕ) (place : ℕ → ℕ) (o : Outside s place) (f : ℕ → ℕ) (low : degree m f < s) (b : ℕ) where
  abbrev is_term : ℕ → ℕ → Bool
  is_term u p = is_product m s u p && has (subset_sum m f u) b

  -- a product of a term stands in one list, and another number in none
  stands_once : (p : ℕ) → count s (λ c. stands m s place (subset_sum m f) c b p) ≡ count (2 ^ m) (λ u. is_term u p)
  unfolding stands
  stands_once p = at (cases_Bool (any (2 ^ m) (λ u. is_term u p)))
    where
      goes : ℕ → Bool
      goes c = eqb (place (chosen m s p)) c

      at : (any (2 ^ m) (λ u. is_term u p) ≡ true) ⊎ (any (2 ^ m) (λ u. is_term u p) ≡ false)
          → count s (λ c. any (2 ^ m) (λ u. is_term u p) && goes c) ≡ count (2 ^ m) (λ u. is_term u p)
      at (inl t) =
          let u = any_some (2 ^ m) (λ u. is_term u p) t in
          let isp = (and_parts (is_product m s u.0 p) _ u.2).0 in
          let small = term_small m s f low b u.0 u.1 (and_parts (is_product m s u.0 p) _ u.2).1 in
          count_one s _ (place (chosen m s p)) (product_component m s place o u.0 p u.1 isp small) (and_from _ _ t (eq-eqb _ _ refl))
          (λ c l e. sym (eqb-true _ _ (and_parts (any (2 ^ m) (λ u. is_term u p)) (goes c) e).1))
          ∙ sym (count_one (2 ^ m) (λ u. is_term u p) u.0 u.1 u.2 (λ v l e. product_term m s v u.0 p l u.1 (and_parts (is_product m s v p) _ e).0 isp))
      at (inr n) =
          count_none s _ (λ c l e. clash (and_parts (any (2 ^ m) (λ u. is_term u p)) (goes c) e).0 n)
          ∙ sym (count_none (2 ^ m) (λ u. is_term u p) (λ u l e. clash e (any_none (2 ^ m) (λ u. is_term u p) n u l)))

  -- a term has its s^d products, and none where it is not in the bit
  term_products : (u : ℕ) → u < 2 ^ m → count (2 ^ (m * s)) (is_term u) ≡ s ^ ones u * bit (has (subset_sum m f u) b)
  term_products u l = at (has (subset_sum m f u) b)
    where
      at : (x : Bool) → count (2 ^ (m * s)) (λ p. is_product m s u p && x) ≡ s ^ ones u * bit x
      at true = omega (arith, count_congr (2 ^ (m * s)) (λ p. is_product m s u p && true) (is_product m s u) (λ p k. whole (is_product m s u p)), products_count m s u l)
        where
          whole : (y : Bool) → (y && true) ≡ y
          whole true = refl
          whole false = refl
      at false = omega (arith, count_none (2 ^ (m * s)) (λ p. is_product m s u p && false) (λ p k e. clash (and_parts (is_product m s u p) false e).1 refl))

  bit_terms : total s (λ c. length (direct_list m s place (subset_sum m f) c b)) ≡ total (2 ^ m) (λ u. s ^ ones u * bit (has (subset_sum m f u) b))
  unfolding direct_list
  bit_terms =
      total_congr s _ (λ c. count (2 ^ (m * s)) (stands m s place (subset_sum m f) c b)) (λ c l. passing_length (2 ^ (m * s)) (stands m s place (subset_sum m f) c b))
      ∙ total_swap s (2 ^ (m * s)) (λ c p. bit (stands m s place (subset_sum m f) c b p))
      ∙ total_congr (2 ^ (m * s)) _ _ (λ p l. stands_once p)
      ∙ total_swap (2 ^ (m * s)) (2 ^ m) (λ p u. bit (is_term u p))
      ∙ total_congr (2 ^ m) _ _ term_products

-- ---- all lists

module _ (m s : ℕ) (place : ℕ → ℕ) (o : Outside s place) (t : List ℕ) (fits : TableFits m t) (low : degree m (entry t) < s) where
  abbrev word : ℕ → ℕ
  word = subset_sum m (entry t)

  abbrev size : ℕ → ℕ → ℕ
  size c b = length (direct_list m s place word c b)

  -- bit by bit, a word has its ones
  all_bits : total m (λ b. total s (λ c. size c b)) ≡ terms_count m s word
  unfolding terms_count
  all_bits =
      total_congr m _ (λ b. total (2 ^ m) (λ u. s ^ ones u * bit (has (word u) b))) (λ b l. bit_terms m s place o (entry t) low b)
      ∙ total_swap m (2 ^ m) (λ b u. s ^ ones u * bit (has (word u) b))
      ∙ total_congr (2 ^ m) _ _ (λ u l. total_times m (s ^ ones u) (λ b. bit (has (word u) b))
      ∙ ap (λ (n : ℕ). s ^ ones u * n) (sym (ones_count m (word u) (subset_sum_lt m m u (entry t) fits.below))))

  -- four bytes each and four a term
  lists_length_is : total (m * s) (λ l. 4 + 4 * length (get_or (direct_stage m s place t).lists l [])) ≡ 4 * (m * s) + 4 * terms_count m s word
  lists_length_is =
      ap (λ (n : ℕ). total n (λ l. 4 + 4 * length (get_or (direct_stage m s place t).lists l []))) (mul_comm m s)
      ∙ total_blocks s m (λ l. 4 + 4 * length (get_or (direct_stage m s place t).lists l []))
      ∙ total_congr s _ (λ c. total m (λ b. 4 + 4 * size c b)) (λ c lc. total_congr m _ (λ b. 4 + 4 * size c b) (λ b lb. at c b lc lb))
      ∙ total_swap s m (λ c b. 4 + 4 * size c b)
      ∙ total_congr m _ (λ b. s * 4 + 4 * total s (λ c. size c b)) (λ b lb. one b)
      ∙ total_add m (λ b. s * 4) (λ b. 4 * total s (λ c. size c b))
      ∙ ap₂ ◌+◌ (total_const m (s * 4) ∙ spread) (total_times m 4 (λ b. total s (λ c. size c b)) ∙ ap (λ (n : ℕ). 4 * n) all_bits)
    where
      at : (c b : ℕ) → c < s → b < m → 4 + 4 * length (get_or (direct_stage m s place t).lists (c * m + b) []) ≡ 4 + 4 * size c b
      at c b lc lb =
          ap (λ (x : ℕ). 4 + 4 * length (get_or (direct_stage m s place t).lists (x + b) [])) (mul_comm c m)
          ∙ ap (λ (x : List ℕ). 4 + 4 * length x) (list_at m s place t c b lc lb)

      one : (b : ℕ) → total s (λ c. 4 + 4 * size c b) ≡ s * 4 + 4 * total s (λ c. size c b)
      one b = total_add s (λ c. 4) (λ c. 4 * size c b) ∙ ap₂ ◌+◌ (total_const s 4) (total_times s 4 (λ c. size c b))

      spread : m * (s * 4) ≡ 4 * (m * s)
      spread = omega (arith, mul_comm m (s * 4), mul_comm s 4, mul_comm m s, mul_assoc 4 s m, ap (λ (x : ℕ). x * m) (mul_comm s 4))

-- ---- the file

pub produced_size : (m s : ℕ) (t l : List ℕ) → TableFits m t → Loads s l → degree m (entry t) < s → length (produced m s t l) ≡ produced_length m s (subset_sum m (entry t))
unfolding produced produced_length direct_sharing direct_stage total
produced_size m s t l fits a low =
    omega (
      arith,
      fits.size,
      encode_length (direct_sharing m s (placed s l) t),
      stage_length (direct_stage m s (placed s l) t),
      lists_length m s (placed s l) t,
      lists_length_is m s (placed s l) (placed_outside s l a) t fits low,
      ap (λ (n : ℕ). total n (λ i. 4 + 4 * length (get_or (direct_stage m s (placed s l) t).lists i []))) (lists_length m s (placed s l) t),
    )
