-- The transform in place. In each block of 2^(k + 1) words the lower half is added to the upper half: that is the sum over variable k.
-- Over all variables, one after the other, it is the sum over subsets. For each loop a law for its start, a turn and its end.
use mathlib.Core.Path.{◌≡◌, refl, sym, ap, ap₂, ◌∙◌}
use mathlib.Core.List.{List, ◌++◌, map, append_assoc, append-nil}
use Prim.Native.Nat.{ℕ, zero, suc, ◌+◌, ◌-◌, ◌*◌, ◌/◌, ◌%◌, ◌^◌, ◌≤◌, ◌<◌}
use native.Mathlib.Nat.{pow-suc, suc-mul, mul-le-mul_right, mul-mod_left}
use native.Mathlib.Numerals.{add-one}
use native.Mathlib.Omega.{arith}
use lib.Arith.{lt-one}
use lib.Bits.{bit_xor}
use lib.Pow.{pow_pos, pow-add}
use lib.ListN.{length, get_or, set, take, drop, length-append, length-set, length-take, length-drop, drop_of_length-le, get_or-append}
use lib.Seq.{paste, paste-zero, paste-suc, take_all, take_at, drop_at, drop-paste, get_or-take, get_or-drop}
use borrow.Rule.Slice.PartMut.{put_mid, mid_len, same_len_mid, Post-is}
use Rattle.finite.specs.Tests.{tabulate}
use Rattle.finite.proofs.Testing.{pick_true, pick_false, tabulate_length, tabulate_at, tabulate_of, tabulate_congr, tabulate_add}
use Rattle.finite.proofs.Subsets.{Top, low, top, top_cases}
use Rattle.finite.proofs.Elements.{has_even, has_odd}
use Rattle.anf.specs.NormalForm.{subset_sum}
use Rattle.anf.specs.Tables.{entry}
use Rattle.anf.specs.Transform.{transformed}
use Rattle.anf.specs.Inside.Words.{half_sums, lower_added, over_variable, over_variables}
use Rattle.anf.proofs.WordNumbers.{numbers_length, numbers_at, numbers_set, numbers_take, numbers_drop, numbers_put}
use Rattle.anf.proofs.SubsetSums.{subset_sum_ext, subset_sum_zero, subset_sum_low, subset_sum_top}

-- ---- one variable, and all of them: r is a place in half a block, and block a begins at 2 a times 2^k

module _ (k a r : ℕ) (f : ℕ → ℕ) (l : r < 2 ^ k) where
  over_lower : over_variable k f (2 * a * 2 ^ k + r) ≡ f (2 * a * 2 ^ k + r)
  unfolding over_variable
  over_lower = pick_false _ _ _ (has_even k a r l)

  over_upper : over_variable k f ((2 * a + 1) * 2 ^ k + r) ≡ bit_xor (f (2 * a * 2 ^ k + r)) (f ((2 * a + 1) * 2 ^ k + r))
  unfolding over_variable
  over_upper =
      let e : (2 * a + 1) * 2 ^ k + r - 2 ^ k ≡ 2 * a * 2 ^ k + r = omega arith in
      pick_true _ _ _ (has_odd k a r l) ∙ ap (λ (x : ℕ). bit_xor (f x) (f ((2 * a + 1) * 2 ^ k + r))) e

block_begins : (k a : ℕ) → a * 2 ^ suc k ≡ 2 * a * 2 ^ k
block_begins k a = ap (λ (x : ℕ). a * x) (pow-suc 2 k) ∙ omega arith

-- over the variables below k: the sum over subsets in each run of 2^k
over_block : (k a r : ℕ) (f : ℕ → ℕ) → r < 2 ^ k → over_variables k f (a * 2 ^ k + r) ≡ subset_sum k (λ w. f (a * 2 ^ k + w)) r
unfolding over_variables
over_block zero a r f h = rw (lt-one h) (sym (subset_sum_zero (λ w. f (a * 1 + w))))
over_block (suc k) a r f h = go (over_block k) (top_cases k r h)
  where
    go : ((a r : ℕ) (f : ℕ → ℕ) → r < 2 ^ k → over_variables k f (a * 2 ^ k + r) ≡ subset_sum k (λ w. f (a * 2 ^ k + w)) r) → {r : ℕ} → Top k r
        → over_variable k (over_variables k f) (a * 2 ^ suc k + r) ≡ subset_sum (suc k) (λ w. f (a * 2 ^ suc k + w)) r
    go ih (low {i} l) =
        ap (λ (x : ℕ). over_variable k (over_variables k f) (x + i)) (block_begins k a) ∙ over_lower k a i (over_variables k f) l ∙ ih (2 * a) i f l
        ∙ subset_sum_ext k i _ _ (λ w q. ap (λ (x : ℕ). f (x + w)) (sym (block_begins k a))) ∙ sym (subset_sum_low k i (λ w. f (a * 2 ^ suc k + w)) l)
    go ih (top {i} l) =
        let e : (w : ℕ) → a * 2 ^ suc k + (2 ^ k + w) ≡ (2 * a + 1) * 2 ^ k + w = λ w. omega (arith, block_begins k a) in
        ap (over_variable k (over_variables k f)) (e i) ∙ over_upper k a i (over_variables k f) l
        ∙ ap₂ bit_xor
        (ih (2 * a) i f l ∙ subset_sum_ext k i _ _ (λ w q. ap (λ (x : ℕ). f (x + w)) (sym (block_begins k a))))
        (ih (2 * a + 1) i f l ∙ subset_sum_ext k i _ _ (λ w q. ap f (sym (e w))))
        ∙ sym (subset_sum_top k i (λ w. f (a * 2 ^ suc k + w)) l)

over_all : (m : ℕ) (f : ℕ → ℕ) (u : ℕ) → u < 2 ^ m → over_variables m f u ≡ subset_sum m f u
over_all m f u l =
    ap (over_variables m f) (omega arith) ∙ over_block m 0 u f l ∙ subset_sum_ext m u (λ w. f (0 * 2 ^ m + w)) f (λ w q. ap f (omega arith))

-- it looks at no set above u
over_congr : (k u : ℕ) (f g : ℕ → ℕ) → ((v : ℕ) → v ≤ u → f v ≡ g v) → over_variable k f u ≡ over_variable k g u
unfolding over_variable
over_congr k u f g h = rw (h u (omega arith), h (u - 2 ^ k) (omega arith)) refl

-- ---- `add_lower`: t is the block t₀ with the first i sums written over its upper half

pub record AddedTo (half : ℕ) (t₀ t : List ℕ) (i : ℕ) : Type 0 where
  pub size : length t ≡ length t₀
  pub is : t ≡ paste t₀ half (half_sums half t₀) i

module _ (half : ℕ) (t₀ : List ℕ) (s : length t₀ ≡ half + half) where
  added_start : AddedTo half t₀ t₀ 0
  added_start = record { size = refl; is = paste-zero t₀ half (half_sums half t₀) }

  module _ (t : List ℕ) (i : ℕ) (a : AddedTo half t₀ t i) where
    sums_length : length (half_sums half t₀) ≡ half
    sums_length = tabulate_length half _

    -- the lower half and what is not passed yet are as they were
    lower_at : i < half → get_or t i 0 ≡ get_or t₀ i 0
    lower_at h =
        ap (λ (x : List ℕ). get_or x i 0) a.is
        ∙ get_or-append (take half t₀ ++ take i (half_sums half t₀)) (drop (half + i) t₀) 0 i (rw (length-append, length-take half t₀) (omega arith))
        ∙ get_or-append (take half t₀) (take i (half_sums half t₀)) 0 i (rw length-take (omega arith))
        ∙ get_or-take half t₀ i 0 h

    upper_at : i < half → get_or t (half + i) 0 ≡ get_or t₀ (half + i) 0
    upper_at h =
        let d : drop (half + i) t ≡ drop (half + i) t₀ = ap (drop (half + i)) a.is ∙ drop-paste t₀ half (half_sums half t₀) i (omega arith) (omega (arith, sums_length)) in
        let z : half + i + 0 ≡ half + i = omega arith in
        ap (λ (x : ℕ). get_or t x 0) (sym z) ∙ sym (get_or-drop (half + i) t 0 0) ∙ ap (λ (x : List ℕ). get_or x 0 0) d ∙ get_or-drop (half + i) t₀ 0 0
        ∙ ap (λ (x : ℕ). get_or t₀ x 0) z

    sums_at : i < half → bit_xor (get_or t i 0) (get_or t (half + i) 0) ≡ get_or (half_sums half t₀) i 0
    sums_at h = ap₂ bit_xor (lower_at h) (upper_at h) ∙ sym (tabulate_at half (λ j. bit_xor (get_or t₀ j 0) (get_or t₀ (half + j) 0)) i 0 h)

    added_more : i < half → AddedTo half t₀ (set t (half + i) (bit_xor (get_or t i 0) (get_or t (half + i) 0))) (i + 1)
    added_more h = record {
      size = length-set t (half + i) _ ∙ a.size;
      is = rw (add-one, sums_at h, a.is) (paste-suc t₀ half (half_sums half t₀) i 0 (omega arith) (omega (arith, sums_length)));
    }

    added_end : i ≤ half → half ≤ i → t ≡ lower_added half t₀
    unfolding lower_added
    added_end h k =
        let e : i ≡ half = omega arith in
        rw e at a.is
        ∙ ap₂ (λ (x y : List ℕ). take half t₀ ++ x ++ y) (take_all half (half_sums half t₀) (omega (arith, sums_length))) (drop_of_length-le t₀ {i = half + half} (omega arith))
        ∙ append-nil (take half t₀ ++ half_sums half t₀)

-- the same of words, by their numbers: a and b are those that the code read, w is their sum
module _ {W : Type 0} {number : W → ℕ} {numbers : List W → List ℕ} (each : (ws : List W) → numbers ws ≡ map number ws) (half : ℕ) where
  pub words_start : (t₀ : List W) → length t₀ ≡ half + half → AddedTo half (numbers t₀) (numbers t₀) 0
  words_start t₀ l = added_start half (numbers t₀) (numbers_length each t₀ ∙ l)

  pub words_more : (t₀ t : List W) (i : ℕ) (a b w : W) → length t₀ ≡ half + half → length t ≡ length t₀ → i < half
      → a ≡ get_or t i a → b ≡ get_or t (half + i) b → number w ≡ bit_xor (number a) (number b)
      → AddedTo half (numbers t₀) (numbers t) i → AddedTo half (numbers t₀) (numbers (set t (half + i) w)) (i + 1)
  words_more t₀ t i a b w l k h ea eb e p =
      let sum : number w ≡ bit_xor (get_or (numbers t) i 0) (get_or (numbers t) (half + i) 0) =
      e ∙ sym (ap₂ bit_xor (numbers_at each t i a ea (omega arith)) (numbers_at each t (half + i) b eb (omega arith))) in
      rw (numbers_set each t (half + i) w, sum) (added_more half (numbers t₀) (numbers_length each t₀ ∙ l) (numbers t) i p h)

  pub words_end : (t₀ t : List W) (i : ℕ) → length t₀ ≡ half + half → i ≤ half → half ≤ i → AddedTo half (numbers t₀) (numbers t) i
      → numbers t ≡ lower_added half (numbers t₀)
  words_end t₀ t i l h k p = added_end half (numbers t₀) (numbers_length each t₀ ∙ l) (numbers t) i p h k

-- ---- `add_variable`: the words before `at`, where block a begins, are summed over variable k

pub record SummedTo (k : ℕ) (t₀ t : List ℕ) (at : ℕ) : Type 0 where
  pub size : length t ≡ length t₀
  pub is : t ≡ tabulate at (over_variable k (entry t₀)) ++ drop at t₀

-- a block that is whole ends within the words
pub block_ends : (n size a : ℕ) → 0 < size → a < n / size → a * size + size ≤ n
block_ends n size a p h = omega (arith, suc-mul a size, mul-le-mul_right size h)

module _ (k a half at : ℕ) (e : half ≡ 2 ^ k) (ea : at ≡ a * (half + half)) (t₀ t : List ℕ) (s : SummedTo k t₀ t at) (h : at + (half + half) ≤ length t₀) where
  rest : drop at t ≡ drop at t₀
  rest = ap (drop at) s.is ∙ drop_at (tabulate at (over_variable k (entry t₀))) (drop at t₀) at (tabulate_length at _)

  word_at : (i : ℕ) → i < half + half → get_or (take (half + half) (drop at t₀)) i 0 ≡ entry t₀ (at + i)
  word_at i l = get_or-take (half + half) (drop at t₀) i 0 l ∙ get_or-drop at t₀ i 0

  begins : at ≡ 2 * a * 2 ^ k
  begins = rw e at ea ∙ omega arith

  -- what is done to the block
  lower_is : (i : ℕ) → i < half → over_variable k (entry t₀) (at + i) ≡ entry t₀ (at + i)
  lower_is i l =
      let q : at + i ≡ 2 * a * 2 ^ k + i = omega (arith, begins) in
      rw q (over_lower k a i (entry t₀) (rw e at l))

  upper_is : (i : ℕ) → i < half → over_variable k (entry t₀) (at + (half + i)) ≡ bit_xor (entry t₀ (at + i)) (entry t₀ (at + (half + i)))
  upper_is i l =
      let q : at + i ≡ 2 * a * 2 ^ k + i = omega (arith, begins) in
      let r : at + (half + i) ≡ (2 * a + 1) * 2 ^ k + i = omega (arith, begins) in
      rw (q, r) (over_upper k a i (entry t₀) (rw e at l))

  block_sums : lower_added half (take (half + half) (drop at t₀)) ≡ tabulate (half + half) (λ i. over_variable k (entry t₀) (at + i))
  unfolding lower_added
  block_sums =
      ap₂ ◌++◌
      (sym (tabulate_of (take half (take (half + half) (drop at t₀))) half _ 0 (rw (length-take, length-take, length-drop) (omega arith))
      (λ i l. lower_is i l ∙ sym (get_or-take half (take (half + half) (drop at t₀)) i 0 l ∙ word_at i (omega arith)))))
      (tabulate_congr half _ _ (λ i l. ap₂ bit_xor (word_at i (omega arith)) (word_at (half + i) (omega arith)) ∙ sym (upper_is i l)))
      ∙ sym (tabulate_add half half (λ i. over_variable k (entry t₀) (at + i)))

  -- the words with the sums of the block in its place
  module _ (part : List ℕ) (p : part ≡ lower_added half (take (at + (half + half) - at) (drop at t))) where
    part_sums : part ≡ tabulate (half + half) (λ i. over_variable k (entry t₀) (at + i))
    part_sums = let n : at + (half + half) - at ≡ half + half = omega arith in p ∙ rw (n, rest) block_sums

    summed_more : SummedTo k t₀ (put_mid at (at + (half + half) - at) t part) (at + (half + half))
    summed_more = record {
      size =
          same_len_mid at (at + (half + half) - at) t part
          (ap length part_sums ∙ tabulate_length (half + half) _ ∙ sym (mid_len at (at + (half + half)) t (omega (arith, s.size)) ∙ omega arith)) ∙ s.size;
      is =
          ap₂ (λ (x y : List ℕ). x ++ (part ++ y)) (ap (take at) s.is ∙ take_at (tabulate at _) (drop at t₀) at (tabulate_length at _))
          (ap (drop (at + (half + half) - at)) rest ∙ Post-is at (at + (half + half)) t₀ (omega arith))
          ∙ sym (append_assoc (tabulate at _) part (drop (at + (half + half)) t₀))
          ∙ ap (λ (x : List ℕ). x ++ drop (at + (half + half)) t₀)
          (ap (λ (x : List ℕ). tabulate at (over_variable k (entry t₀)) ++ x) part_sums ∙ sym (tabulate_add at (half + half) (over_variable k (entry t₀))));
    }

pub blocks_start : (k half : ℕ) (t₀ : List ℕ) → SummedTo k t₀ t₀ (0 * (half + half))
unfolding tabulate
blocks_start k half t₀ = let z : 0 * (half + half) ≡ 0 = omega arith in rw z (record { size = refl; is = refl })

-- the same of words, by their numbers
module _ {W : Type 0} {number : W → ℕ} {numbers : List W → List ℕ} (each : (ws : List W) → numbers ws ≡ map number ws) (k half : ℕ) (e : half ≡ 2 ^ k) (t₀ : List W) where
  pub blocks_more : (t part : List W) (a : ℕ) → a < length t₀ / (half + half) → SummedTo k (numbers t₀) (numbers t) (a * (half + half))
      → numbers part ≡ lower_added half (numbers (take (a * (half + half) + (half + half) - a * (half + half)) (drop (a * (half + half)) t)))
      → SummedTo k (numbers t₀) (numbers (put_mid (a * (half + half)) (a * (half + half) + (half + half) - a * (half + half)) t part)) ((a + 1) * (half + half))
  blocks_more t part a h s p = go (a * (half + half)) refl s p
    where
      go : (at : ℕ) → at ≡ a * (half + half) → SummedTo k (numbers t₀) (numbers t) at
          → numbers part ≡ lower_added half (numbers (take (at + (half + half) - at) (drop at t)))
          → SummedTo k (numbers t₀) (numbers (put_mid at (at + (half + half) - at) t part)) ((a + 1) * (half + half))
      go at ea s p =
          let n : (a + 1) * (half + half) ≡ at + (half + half) = omega (arith, ea) in
          let w : at + (half + half) ≤ length t₀ = omega (arith, ea, block_ends (length t₀) (half + half) a (omega (arith, e, pow_pos k)) h) in
          let q : numbers (take (at + (half + half) - at) (drop at t)) ≡ take (at + (half + half) - at) (drop at (numbers t)) =
          numbers_take each (at + (half + half) - at) (drop at t) ∙ ap (take (at + (half + half) - at)) (numbers_drop each at t) in
          rw (n, numbers_put each at (at + (half + half) - at) t part)
          (summed_more k a half at e ea (numbers t₀) (numbers t) s (rw (numbers_length each t₀) w) (numbers part) (p ∙ ap (lower_added half) q))

-- ---- `sum_subsets`: the variables below k are summed over

pub record OverTo (m : ℕ) (t₀ t : List ℕ) (k : ℕ) : Type 0 where
  pub size : length t ≡ 2 ^ m
  pub is : t ≡ tabulate (2 ^ m) (over_variables k (entry t₀))

module _ (m : ℕ) (t₀ : List ℕ) (z : length t₀ ≡ 2 ^ m) where
  over_start : OverTo m t₀ t₀ 0
  unfolding over_variables
  over_start = record { size = z; is = sym (tabulate_of t₀ (2 ^ m) (entry t₀) 0 z (λ i l. refl)) }

  module _ (t : List ℕ) (k : ℕ) (o : OverTo m t₀ t k) where
    over_at : (u : ℕ) → u < 2 ^ m → entry t u ≡ over_variables k (entry t₀) u
    over_at u l = ap (λ (x : List ℕ). get_or x u 0) o.is ∙ tabulate_at (2 ^ m) (over_variables k (entry t₀)) u 0 l

    over_more : (t' : List ℕ) → t' ≡ tabulate (2 ^ m) (over_variable k (entry t)) → OverTo m t₀ t' (k + 1)
    unfolding over_variables
    over_more t' e = record {
      size = ap length e ∙ tabulate_length (2 ^ m) _;
      is = rw add-one (e ∙ tabulate_congr (2 ^ m) _ _ (λ u l. over_congr k u (entry t) (over_variables k (entry t₀)) (λ v q. over_at v (omega arith))));
    }

    over_end : k ≤ m → m ≤ k → t ≡ transformed m t₀
    over_end h g =
        let e : k ≡ m = omega arith in
        rw e at o.is ∙ tabulate_congr (2 ^ m) _ _ (λ u l. over_all m (entry t₀) u l)

-- the same of words, by their numbers
module _ {W : Type 0} {number : W → ℕ} {numbers : List W → List ℕ} (each : (ws : List W) → numbers ws ≡ map number ws) (m : ℕ) (t₀ : List W) (z : length t₀ ≡ 2 ^ m) where
  pub sums_start : OverTo m (numbers t₀) (numbers t₀) 0
  sums_start = over_start m (numbers t₀) (numbers_length each t₀ ∙ z)

  -- the words are whole blocks for each variable
  pub whole_blocks : (t : List W) (k : ℕ) → length t ≡ length t₀ → k < m → length t % 2 ^ (k + 1) ≡ 0
  whole_blocks t k l h =
      let e : m ≡ m - suc k + suc k = omega arith in
      ap (λ (x : ℕ). x % 2 ^ (k + 1)) (l ∙ z ∙ ap (λ (x : ℕ). 2 ^ x) e ∙ pow-add 2 (m - suc k) (suc k)) ∙ rw add-one (mul-mod_left (2 ^ (m - suc k)) (2 ^ suc k))

  pub sums_more : (t t' : List W) (k : ℕ) → length t ≡ length t₀ → OverTo m (numbers t₀) (numbers t) k
      → numbers t' ≡ tabulate (length t) (over_variable k (entry (numbers t))) → OverTo m (numbers t₀) (numbers t') (k + 1)
  sums_more t t' k l o e = over_more m (numbers t₀) (numbers_length each t₀ ∙ z) (numbers t) k o (numbers t') (rw (l ∙ z) at e)

  pub sums_end : (t : List W) (k : ℕ) → k ≤ m → m ≤ k → OverTo m (numbers t₀) (numbers t) k → numbers t ≡ transformed m (numbers t₀)
  sums_end t k h g o = over_end m (numbers t₀) (numbers_length each t₀ ∙ z) (numbers t) k o h g
