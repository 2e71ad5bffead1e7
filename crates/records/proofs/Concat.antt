-- Laws of lists one behind the other.
use Prim.Native.Nat.{ℕ, zero, suc, ◌+◌, ◌≤◌, ◌<◌}
use mathlib.Core.Path.{◌≡◌, refl, sym, ap, ◌∙◌}
use mathlib.Core.List.{List, [], ◌∷◌, ◌++◌, map, map-append, append_assoc, append-nil}
use native.Mathlib.Omega.{arith}
use native.Mathlib.Numerals.{add-one}
use native.Mathlib.Decide.{dec_lt}
use lib.ListN.{length, get_or, take, length-append}
use lib.Seq.{take-suc, take-length}
use Rattle.finite.specs.Tests.{tabulate, total}
use Rattle.finite.proofs.Testing.{tabulate_last, tabulate_add}
use Rattle.std.specs.List.{concat}
use Rattle.std.proofs.lemmas.List.Folds.{concat-append}

pub concat_map_append : {A : Type 0} (k : A → List ℕ) (xs ys : List A) → concat (map k (xs ++ ys)) ≡ concat (map k xs) ++ concat (map k ys)
concat_map_append k xs ys = ap concat (map-append k xs ys) ∙ concat-append (map k xs) (map k ys)

pub concat_last : (a : List (List ℕ)) (x : List ℕ) → concat (a ++ (x ∷ [])) ≡ concat a ++ x
concat_last a x = concat-append a (x ∷ []) ∙ ap (λ (l : List ℕ). concat a ++ l) (append-nil x)

pub concat_snoc : (g : ℕ → List ℕ) (n : ℕ) → concat (tabulate (suc n) g) ≡ concat (tabulate n g) ++ g n
concat_snoc g n = ap concat (tabulate_last n g) ∙ concat_last (tabulate n g) (g n)

-- n lists and m more
pub concat_add : (n m : ℕ) (g : ℕ → List ℕ) → concat (tabulate (n + m) g) ≡ concat (tabulate n g) ++ concat (tabulate m (λ i. g (n + i)))
concat_add n m g = ap concat (tabulate_add n m g) ∙ concat-append (tabulate n g) (tabulate m (λ i. g (n + i)))

module _ (g : ℕ → List ℕ) where
  -- what stands behind the first i lists
  pub concat_at : (n i : ℕ) → i < n → (rest : List ℕ) × (concat (tabulate n g) ≡ concat (tabulate i g) ++ (g i ++ rest))
  concat_at zero i h = absurd (omega arith)
  concat_at (suc n) i h = go (dec_lt i n) (λ l. concat_at n i l)
    where
      go : Dec (i < n) → (i < n → (rest : List ℕ) × (concat (tabulate n g) ≡ concat (tabulate i g) ++ (g i ++ rest))) →
          (rest : List ℕ) × (concat (tabulate (suc n) g) ≡ concat (tabulate i g) ++ (g i ++ rest))
      go (yes l) ih =
          let r = ih l in (
            r.0 ++ g n,
            concat_snoc g n ∙ ap (λ (x : List ℕ). x ++ g n) r.1
                ∙ append_assoc (concat (tabulate i g)) (g i ++ r.0) (g n) ∙ ap (λ (x : List ℕ). concat (tabulate i g) ++ x) (append_assoc (g i) r.0 (g n)),
          )
      go (no l) ih =
          let e : n ≡ i = omega arith in
          ([], concat_snoc g n ∙ rw e (ap (λ (x : List ℕ). concat (tabulate i g) ++ x) (sym (append-nil (g i)))))

-- one list more, as code counts
pub concat_more : {A : Type 0} (k : A → List ℕ) (xs : List A) (n : ℕ) (d : A) → n < length xs → concat (map k (take (n + 1) xs)) ≡ concat (map k (take n xs)) ++ k (get_or xs n d)
concat_more k xs n d h =
    rw (add-one, take-suc xs n d h) (ap concat (map-append k (take n xs) (get_or xs n d ∷ [])) ∙ concat_last (map k (take n xs)) (k (get_or xs n d)))

-- ---- how long lists one behind the other are

concat_length_of : {A : Type 0} (k : A → List ℕ) (xs : List A) (d : A) (n : ℕ) → n ≤ length xs → length (concat (map k (take n xs))) ≡ total n (λ i. length (k (get_or xs i d)))
unfolding total
concat_length_of k xs d zero h = refl
concat_length_of k xs d (suc n) h =
    let e = concat_length_of k xs d n (omega arith) in
    let s : concat (map k (take (suc n) xs)) ≡ concat (map k (take n xs)) ++ k (get_or xs n d) = rw add-one at (concat_more k xs n d (omega arith)) in
    let a = length-append (concat (map k (take n xs))) (k (get_or xs n d)) in
    ap length s ∙ a ∙ omega arith

pub concat_length : {A : Type 0} (k : A → List ℕ) (xs : List A) (d : A) → length (concat (map k xs)) ≡ total (length xs) (λ i. length (k (get_or xs i d)))
concat_length k xs d = rw (take-length xs) at (concat_length_of k xs d (length xs) (omega arith))
