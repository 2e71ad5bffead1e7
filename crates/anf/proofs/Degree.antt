-- The degree bound, for any number of shares: a table with a coefficient at a set of s or more variables is no sum of s functions of s shares of
-- which each ignores some share. The set is split into s blocks, and both sides are summed over all tuples of a subset of each block: the table's
-- side is the coefficient, and each function's side cancels in pairs.
use mathlib.Core.Path.{◌≡◌, refl, sym, ap, ap₂, ◌∙◌}
use mathlib.Core.Logic.{◌≢◌}
use mathlib.Core.Bool.{Bool, true, false}
use mathlib.Core.List.{List, [], ◌∷◌}
use Prim.Native.Nat.{ℕ, zero, suc, ◌+◌, ◌-◌, ◌^◌, ◌≤◌, ◌<◌, max}
use native.Mathlib.Nat.{not-suc-le-zero, le_of_suc-le-suc, add-zero}
use native.Mathlib.Numerals.{add-one}
use native.Mathlib.Decide.{dec_lt}
use native.Mathlib.Omega.{arith}
use lib.Pow.{pow_pos}
use lib.Dec.{eqb}
use lib.Count.{ones, ones-le}
use lib.Bits.{bit_and, bit_xor, xor_zero_r, xor_lt, and_zero_r}
use lib.ListN.{length, set, get_or}
use borrow.Author.Tests.{ne_eqb, eqb-false}
use Rattle.finite.specs.Tests.{pick}
use Rattle.finite.specs.Sums.{xor_below}
use Rattle.finite.proofs.Testing.{below}
use Rattle.finite.proofs.Xor.{and_xor}
use Rattle.finite.proofs.Sums.{xor_below_first}
use Rattle.finite.proofs.Subsets.{and_top_low, xor_top_low, Top, low, top, top_cases}
use Rattle.finite.proofs.Elements.{ones_top}
use Rattle.anf.specs.Points.{Points, IgnoresPoint}
use Rattle.anf.specs.NormalForm.{subset_sum, largest, degree}
use Rattle.anf.proofs.SubsetSums.{subset_sum_ext, subset_sum_xor, subset_sum_none, subset_sum_const, subset_sum_empty, subset_sum_union}

-- ---- sums over tuples of points, one a part of each block

-- the sum of a list of numbers
unfoldable pub xor_all : List ℕ → ℕ
xor_all [] = 0
xor_all (x ∷ xs) = bit_xor x (xor_all xs)

-- each below hi
abbrev pub Below : ℕ → List ℕ → Type 0
Below hi [] = Unit
Below hi (x ∷ xs) = (x < hi) × Below hi xs

-- b has nothing in common with any of the list
abbrev pub Apart : ℕ → List ℕ → Type 0
Apart b [] = Unit
Apart b (c ∷ cs) = (bit_and b c ≡ 0) × Apart b cs

-- sets below hi, none of them empty, of which no two have anything in common
abbrev pub Blocks : ℕ → List ℕ → Type 0
Blocks hi [] = Unit
Blocks hi (b ∷ bs) = (0 < b) × (b < hi) × Apart b bs × Blocks hi bs

pub apart_all : (b : ℕ) (bs : List ℕ) → Apart b bs → bit_and b (xor_all bs) ≡ 0
unfolding xor_all
apart_all b [] a = and_zero_r b
apart_all b (c ∷ cs) a = and_xor b c (xor_all cs) ∙ ap₂ bit_xor a.0 (apart_all b cs a.1)

pub blocks_lt : (n : ℕ) (bs : List ℕ) → Blocks (2 ^ n) bs → xor_all bs < 2 ^ n
unfolding xor_all
blocks_lt n [] h = pow_pos n
blocks_lt n (b ∷ bs) h = xor_lt n b (xor_all bs) h.1 (blocks_lt n bs h.3)

-- the sum of g over all tuples of a subset of each block
unfoldable pub multi : ℕ → List ℕ → (List ℕ → ℕ) → ℕ
multi n [] g = g []
multi n (b ∷ bs) g = subset_sum n (λ x. multi n bs (λ xs. g (x ∷ xs))) b

-- s points below 2 ^ n
abbrev pub Tuple : ℕ → ℕ → List ℕ → Type 0
Tuple n s xs = (length xs ≡ s) × Below (2 ^ n) xs

pub multi_ext : (n : ℕ) (bs : List ℕ) (f g : List ℕ → ℕ) → ((xs : List ℕ) → Tuple n (length bs) xs → f xs ≡ g xs) → multi n bs f ≡ multi n bs g
unfolding multi
multi_ext n [] f g h = h [] (refl, tt)
multi_ext n (b ∷ bs) f g h =
    subset_sum_ext n b (λ x. multi n bs (λ xs. f (x ∷ xs))) (λ x. multi n bs (λ xs. g (x ∷ xs)))
    (λ x p. multi_ext n bs (λ xs. f (x ∷ xs)) (λ xs. g (x ∷ xs)) (λ xs q. h (x ∷ xs) (ap suc q.0, (p, q.1))))

pub multi_xor : (n : ℕ) (bs : List ℕ) (f g : List ℕ → ℕ) → multi n bs (λ xs. bit_xor (f xs) (g xs)) ≡ bit_xor (multi n bs f) (multi n bs g)
unfolding multi
multi_xor n [] f g = refl
multi_xor n (b ∷ bs) f g =
    subset_sum_ext n b (λ x. multi n bs (λ xs. bit_xor (f (x ∷ xs)) (g (x ∷ xs)))) (λ x. bit_xor (multi n bs (λ xs. f (x ∷ xs))) (multi n bs (λ xs. g (x ∷ xs))))
    (λ x p. multi_xor n bs (λ xs. f (x ∷ xs)) (λ xs. g (x ∷ xs)))
    ∙ subset_sum_xor n b (λ x. multi n bs (λ xs. f (x ∷ xs))) (λ x. multi n bs (λ xs. g (x ∷ xs)))

pub multi_zero : (n : ℕ) (bs : List ℕ) → multi n bs (λ xs. 0) ≡ 0
unfolding multi
multi_zero n [] = refl
multi_zero n (b ∷ bs) = subset_sum_none n b (λ x. multi n bs (λ xs. 0)) (λ x p. multi_zero n bs)

-- the tuples' sums are the parts of the union, each once
pub multi_union : (n : ℕ) (bs : List ℕ) (f : ℕ → ℕ) → Blocks (2 ^ n) bs → multi n bs (λ xs. f (xor_all xs)) ≡ subset_sum n f (xor_all bs)
unfolding multi xor_all
multi_union n [] f h = sym (subset_sum_empty n f)
multi_union n (b ∷ bs) f h =
    subset_sum_ext n b (λ x. multi n bs (λ xs. f (bit_xor x (xor_all xs)))) (λ x. subset_sum n (λ y. f (bit_xor x y)) (xor_all bs))
    (λ x p. multi_union n bs (λ y. f (bit_xor x y)) h.3)
    ∙ subset_sum_union n b (xor_all bs) f h.1 (blocks_lt n bs h.3) (apart_all b bs h.2)

-- F does not depend on the element j of its s points
abbrev pub IgnoresPlace : ℕ → ℕ → ℕ → (List ℕ → ℕ) → Type 0
IgnoresPlace n s j F = (xs : List ℕ) → Tuple n s xs → (v : ℕ) → v < 2 ^ n → F (set xs j v) ≡ F xs

pub multi_ignores : (n j : ℕ) (bs : List ℕ) (F : List ℕ → ℕ) → Blocks (2 ^ n) bs → j < length bs → IgnoresPlace n (length bs) j F → multi n bs F ≡ 0
unfolding multi
multi_ignores n j [] F h l i = absurd (not-suc-le-zero l)
multi_ignores n zero (b ∷ bs) F h l i =
    subset_sum_ext n b (λ x. multi n bs (λ xs. F (x ∷ xs))) (λ x. multi n bs (λ xs. F (0 ∷ xs)))
    (λ x p. multi_ext n bs (λ xs. F (x ∷ xs)) (λ xs. F (0 ∷ xs)) (λ xs q. sym (i (x ∷ xs) (ap suc q.0, (p, q.1)) 0 (pow_pos n))))
    ∙ subset_sum_const n (multi n bs (λ xs. F (0 ∷ xs))) b h.0 h.1
multi_ignores n (suc j) (b ∷ bs) F h l i =
    subset_sum_none n b (λ x. multi n bs (λ xs. F (x ∷ xs)))
    (λ x p. multi_ignores n j bs (λ xs. F (x ∷ xs)) h.3 (le_of_suc-le-suc l) (λ xs q v k. i (x ∷ xs) (ap suc q.0, (p, q.1)) v k))

pub multi_below : (n s : ℕ) (bs : List ℕ) (F : ℕ → List ℕ → ℕ) → ((j : ℕ) → j < s → multi n bs (F j) ≡ 0) → multi n bs (λ xs. xor_below s (λ j. F j xs)) ≡ 0
unfolding xor_below
multi_below n zero bs F h = multi_zero n bs
multi_below n (suc s) bs F h =
    multi_xor n bs (λ xs. xor_below s (λ j. F j xs)) (F s) ∙ ap₂ bit_xor (multi_below n s bs F (λ j l. h j (omega arith))) (h s (omega arith))

-- f of a sum of shares is a sum of functions of which each ignores one share: then f has no coefficient at the union of so many blocks
pub blocks_bound : (n : ℕ) (bs : List ℕ) (f : ℕ → ℕ) (F : ℕ → List ℕ → ℕ) → Blocks (2 ^ n) bs
    → ((j : ℕ) → j < length bs → (e : ℕ) × (e < length bs) × IgnoresPlace n (length bs) e (F j))
    → ((xs : List ℕ) → Tuple n (length bs) xs → f (xor_all xs) ≡ xor_below (length bs) (λ j. F j xs))
    → subset_sum n f (xor_all bs) ≡ 0
blocks_bound n bs f F h i e =
    sym (multi_union n bs f h)
    ∙ multi_ext n bs (λ xs. f (xor_all xs)) (λ xs. xor_below (length bs) (λ j. F j xs)) e
    ∙ multi_below n (length bs) bs F (λ j l. let w = i j l in multi_ignores n w.0 bs (F j) h w.1 w.2)

blocks_lift : (n : ℕ) (bs : List ℕ) → Blocks (2 ^ n) bs → Blocks (2 ^ suc n) bs
blocks_lift n [] h = tt
blocks_lift n (b ∷ bs) h = (h.0, omega arith, h.2, blocks_lift n bs h.3)

apart_top : (n : ℕ) (bs : List ℕ) → Blocks (2 ^ n) bs → Apart (2 ^ n) bs
apart_top n [] h = tt
apart_top n (b ∷ bs) h = (ap (λ (x : ℕ). bit_and x b) (sym (add-zero (2 ^ n))) ∙ and_top_low n 0 b (pow_pos n) h.1, apart_top n bs h.3)

-- s + 1 blocks
abbrev pub Parted : ℕ → ℕ → ℕ → Type 0
Parted n s u = (bs : List ℕ) × (length bs ≡ suc s) × Blocks (2 ^ n) bs × (xor_all bs ≡ u)

pub partition : (n s u : ℕ) → u < 2 ^ n → suc s ≤ ones u → Parted n s u
unfolding xor_all
partition zero s u h l = absurd (omega (arith, ones-le 0 u h))
partition (suc n) s u h l = go s (λ s v k q. partition n s v k q) (top_cases n u h) l
  where
    go : (s : ℕ) → ((s v : ℕ) → v < 2 ^ n → suc s ≤ ones v → Parted n s v) → {v : ℕ} → Top n v → suc s ≤ ones v → Parted (suc n) s v
    go zero ih (low {i} k) q = let w = ih zero i k q in (w.0, w.1, blocks_lift n w.0 w.2, w.3)
    go (suc s) ih (low {i} k) q = let w = ih (suc s) i k q in (w.0, w.1, blocks_lift n w.0 w.2, w.3)
    go zero ih (top {i} k) q = ((2 ^ n + i) ∷ [], refl, (omega (arith, pow_pos n), omega arith, tt, tt), xor_zero_r (2 ^ n + i))
    go (suc s) ih (top {i} k) q =
        let w = ih s i k (omega (arith, ones_top n i k)) in (
          2 ^ n ∷ w.0,
          ap suc w.1,
          (pow_pos n, omega (arith, pow_pos n), apart_top n w.0 w.2, blocks_lift n w.0 w.2),
          rw w.3 (ap (λ (x : ℕ). bit_xor x i) (sym (add-zero (2 ^ n))) ∙ xor_top_low n 0 i (pow_pos n) k),
        )

-- ---- the bound

below_at : (hi : ℕ) (xs : List ℕ) → Below hi xs → (j : ℕ) → j < length xs → get_or xs j 0 < hi
below_at hi [] b j l = absurd (not-suc-le-zero l)
below_at hi (x ∷ xs) b zero l = b.0
below_at hi (x ∷ xs) b (suc j) l = below_at hi xs b.1 j (le_of_suc-le-suc l)

tuple_points : (n s : ℕ) (xs : List ℕ) → Tuple n s xs → Points n s xs
tuple_points n s xs t = record { size = t.0; below = λ j l. below_at (2 ^ n) xs t.1 j (omega (arith, t.0)) }

pub xor_all_below : (xs : List ℕ) → xor_all xs ≡ xor_below (length xs) (λ j. get_or xs j 0)
unfolding xor_all xor_below
xor_all_below [] = refl
xor_all_below (x ∷ xs) = ap (bit_xor x) (xor_all_below xs) ∙ sym (xor_below_first (length xs) (λ j. get_or (x ∷ xs) j 0))

module _ (n s : ℕ) (f : ℕ → ℕ) (F : ℕ → List ℕ → ℕ) (some : 1 ≤ s) (ignores : (j : ℕ) → j < s → (e : ℕ) × (e < s) × IgnoresPoint n s e (F j))
    (sums : (xs : List ℕ) → Points n s xs → xor_below s (λ j. F j xs) ≡ f (xor_below s (λ j. get_or xs j 0))) where
  -- no coefficient at a set of s or more variables
  pub shares_bound : (u : ℕ) → u < 2 ^ n → s ≤ ones u → subset_sum n f u ≡ 0
  shares_bound u h l =
      let e : suc (s - 1) ≡ s = omega arith in
      let w = partition n (s - 1) u h (omega arith) in
      let size : length w.0 ≡ s = w.1 ∙ e in
      ap (subset_sum n f) (sym w.3)
      ∙ blocks_bound n w.0 f F w.2
      (rw size (λ j k. let e = ignores j k in (e.0, e.1, λ xs p. e.2 xs (tuple_points n s xs p))))
      (rw size (λ xs p. ap f (xor_all_below xs ∙ ap (λ (k : ℕ). xor_below k (λ j. get_or xs j 0)) p.0) ∙ sym (sums xs (tuple_points n s xs p))))

-- ---- the degree of a table

pub largest_at : (n : ℕ) (g : ℕ → ℕ) (i : ℕ) → i < n → g i ≤ largest n g
unfolding largest
largest_at zero g i l = absurd (not-suc-le-zero l)
largest_at (suc n) g i l =
    below l (λ (e : i ≡ n). rw e (omega arith)) (λ (k : i < n). omega (arith, largest_at n g i k))

pub largest_some : (n : ℕ) (g : ℕ → ℕ) → 0 < largest n g → (i : ℕ) × (i < n) × (g i ≡ largest n g)
unfolding largest
largest_some zero g h = absurd (not-suc-le-zero h)
largest_some (suc n) g h = go (largest_some n g) (dec_lt (g n) (largest n g))
  where
    go : (0 < largest n g → (i : ℕ) × (i < n) × (g i ≡ largest n g)) → Dec (g n < largest n g)
        → (i : ℕ) × (i < suc n) × (g i ≡ max (largest n g) (g n))
    go ih (yes l) = let w = ih (omega arith) in (w.0, omega (arith, w.1), omega (arith, w.2))
    go ih (no l) = (n, omega arith, omega arith)

-- one more number, as code counts
pub largest_more : (n : ℕ) (g : ℕ → ℕ) → largest (n + 1) g ≡ max (largest n g) (g n)
unfolding largest
largest_more n g = rw add-one refl

pub largest_congr : (n : ℕ) (f g : ℕ → ℕ) → ((i : ℕ) → i < n → f i ≡ g i) → largest n f ≡ largest n g
unfolding largest
largest_congr zero f g h = refl
largest_congr (suc n) f g h = ap₂ max (largest_congr n f g (λ i l. h i (omega arith))) (h n (omega arith))

-- every set whose coefficient word is not zero has at most `degree` variables
pub degree_at : (n : ℕ) (f : ℕ → ℕ) (u : ℕ) → u < 2 ^ n → subset_sum n f u ≢ 0 → ones u ≤ degree n f
unfolding degree
degree_at n f u l c =
    rw (ne_eqb (subset_sum n f u) 0 c) at (largest_at (2 ^ n) (λ v. pick (eqb (subset_sum n f v) 0) 0 (ones v)) u l)

-- and some such set has exactly as many
pub degree_some : (n : ℕ) (f : ℕ → ℕ) → 0 < degree n f → (u : ℕ) × (u < 2 ^ n) × (subset_sum n f u ≢ 0) × (ones u ≡ degree n f)
unfolding degree
degree_some n f h =
    let w = largest_some (2 ^ n) (λ v. pick (eqb (subset_sum n f v) 0) 0 (ones v)) h in
    go w.0 w.1 (degree n f) h (eqb (subset_sum n f w.0) 0) refl w.2
  where
    go : (u : ℕ) → u < 2 ^ n → (d : ℕ) → 0 < d → (b : Bool) → eqb (subset_sum n f u) 0 ≡ b → pick b 0 (ones u) ≡ d
        → (u : ℕ) × (u < 2 ^ n) × (subset_sum n f u ≢ 0) × (ones u ≡ d)
    go u l d p true e q = absurd (omega arith)
    go u l d p false e q = (u, l, eqb-false (subset_sum n f u) 0 e, q)

module _ (n s : ℕ) (f : ℕ → ℕ) (F : ℕ → List ℕ → ℕ) (some : 1 ≤ s) (ignores : (j : ℕ) → j < s → (e : ℕ) × (e < s) × IgnoresPoint n s e (F j))
    (sums : (xs : List ℕ) → Points n s xs → xor_below s (λ j. F j xs) ≡ f (xor_below s (λ j. get_or xs j 0))) where
  -- the degree is less than the number of shares
  pub degree_bound : s ≤ degree n f → ⊥
  degree_bound l =
      let w = degree_some n f (omega arith) in
      w.2 (shares_bound n s f F some ignores sums w.0 w.1 (omega (arith, w.3)))
