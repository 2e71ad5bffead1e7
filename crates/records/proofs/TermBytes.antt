-- Laws of lists of terms and their bytes.
use mathlib.Core.Path.{◌≡◌, refl, ap, ◌∙◌}
use mathlib.Core.List.{List, [], ◌∷◌}
use Prim.Native.Nat.{ℕ, suc, ◌+◌, ◌*◌, ◌/◌, ◌%◌, ◌<◌, ◌≤◌}
use native.Mathlib.Numerals.{towards_suc}
use native.Mathlib.Omega.{arith}
use lib.ListN.{length, get_or, take, drop}
use lib.Seq.{drop-cons}
use Rattle.std.specs.Int.{w32, from_le_bytes}
use Rattle.records.specs.Bytes.{little, u32_at, term_bytes}
use Rattle.records.specs.Inside.Terms.{terms}

-- the terms from a place on
pub terms_cons : (l : List ℕ) (at : ℕ) → at + 4 ≤ length l → terms (drop at l) ≡ u32_at l at ∷ terms (drop (at + 4) l)
unfolding terms u32_at
terms_cons l at h =
    simp towards_suc
    (ap terms (drop-cons l at 0 (omega arith)
    ∙ ap (◌∷◌ (get_or l at 0)) (drop-cons l (suc at) 0 (omega arith)
    ∙ ap (◌∷◌ (get_or l (suc at) 0)) (drop-cons l (suc (suc at)) 0 (omega arith)
    ∙ ap (◌∷◌ (get_or l (suc (suc at)) 0)) (drop-cons l (suc (suc (suc at))) 0 (omega arith))))))

pub terms_short : (l : List ℕ) → length l < 4 → terms l ≡ []
unfolding terms
terms_short [] h = refl
terms_short (a ∷ []) h = refl
terms_short (a ∷ b ∷ []) h = refl
terms_short (a ∷ b ∷ c ∷ []) h = refl
terms_short (a ∷ b ∷ c ∷ d ∷ l) h = absurd (omega arith)

-- how many terms bytes stand for
pub terms_length : (l : List ℕ) → length (terms l) ≡ length l / 4
unfolding terms
terms_length [] = refl
terms_length (a ∷ []) = refl
terms_length (a ∷ b ∷ []) = refl
terms_length (a ∷ b ∷ c ∷ []) = refl
terms_length (a ∷ b ∷ c ∷ d ∷ l) = let e = terms_length l in omega arith

-- the four bytes of a number stand for it
pub little_four : (n : ℕ) → little (n % 256) (n / 256 % 256) (n / 65536 % 256) (n / 16777216) ≡ n
little_four n =
    let p : n / 65536 ≡ n / 256 / 256 = omega arith in
    let q : n / 16777216 ≡ n / 65536 / 256 = omega arith in
    omega arith

-- a list's bytes stand for the list
pub terms_of_bytes : (ts : List ℕ) → terms (term_bytes ts) ≡ ts
unfolding terms term_bytes
terms_of_bytes [] = refl
terms_of_bytes (t ∷ ts) = rw (little_four t, terms_of_bytes ts) refl

pub length_term_bytes : (ts : List ℕ) → length (term_bytes ts) ≡ 4 * length ts
unfolding term_bytes
length_term_bytes [] = refl
length_term_bytes (t ∷ ts) = let e = length_term_bytes ts in omega arith

-- ---- going over a list: l are the bytes that are left, f the first four

pub first_left : (l f r : List ℕ) (n : ℕ) → (f ≡ take 4 l) × (r ≡ drop 4 l) × (length r + 4 ≡ length l) → n ≡ from_le_bytes w32 f → terms l ≡ n ∷ terms r
unfolding terms
first_left [] f r n e en = absurd (omega (arith, e.2))
first_left (a ∷ []) f r n e en = absurd (omega (arith, e.2))
first_left (a ∷ b ∷ []) f r n e en = absurd (omega (arith, e.2))
first_left (a ∷ b ∷ c ∷ []) f r n e en = absurd (omega (arith, e.2))
first_left (a ∷ b ∷ c ∷ d ∷ l) f r n e en =
    let g : n ≡ from_le_bytes w32 (a ∷ b ∷ c ∷ d ∷ []) = en ∙ ap (from_le_bytes w32) e.0 in
    rw e.1 (ap (λ (x : ℕ). x ∷ terms l) (omega (arith, g)))

pub fewer_left : (l f r : List ℕ) → (f ≡ take 4 l) × (r ≡ drop 4 l) × (length r + 4 ≡ length l) → length (terms r) < length (terms l)
fewer_left l f r e = omega (arith, terms_length l, terms_length r, e.2)
