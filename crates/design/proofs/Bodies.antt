-- The body of a record as a slice: b is n bytes of the file f from a place on. Its bytes and terms are those of the file.
-- Assumes nothing.
use Prim.Native.Nat.{ℕ, zero, suc, ◌+◌, ◌*◌, ◌/◌, ◌≤◌, ◌<◌}
use mathlib.Core.Path.{◌≡◌, refl, ap, ap₂, ◌∙◌}
use mathlib.Core.List.{List}
use mathlib.Core.Bool.{◌&&◌, ◌||◌}
use native.Mathlib.Omega.{arith}
use native.Mathlib.Nat.{div-mul-le_self}
use lib.ListN.{length, get_or, take, drop, length-drop}
use lib.Seq.{get_or-take, get_or-drop, length-take-le}
use lib.Dec.{eqb, ltb}
use borrow.Rule.Slice.Know.{Fit}
use borrow.Table.Referent.{f_int}
use mir.Syntax.{w8}
use Rattle.finite.specs.Tests.{all}
use Rattle.finite.proofs.Testing.{all_congr}
use Rattle.anf.specs.Terms.{before}
use Rattle.anf.specs.Tables.{entries_below}
use Rattle.records.specs.Bytes.{Bytes, u32_at}
use Rattle.design.specs.Reading.{entry_fits, previous, term_fits}

-- what a slice of bytes holds
pub bytes_held : (f : List ℕ) → Fit (f_int w8) 0 f → Bytes f
bytes_held f h i = omega (arith, h i)

module _ (f b : List ℕ) (from n : ℕ) (e : b ≡ take n (drop from f)) where
  pub byte_in : (i : ℕ) → i < n → get_or b i 0 ≡ get_or f (from + i) 0
  byte_in i h = ap (λ (x : List ℕ). get_or x i 0) e ∙ get_or-take n (drop from f) i 0 h ∙ get_or-drop from f i 0

  pub u32_in : (at : ℕ) → at + 4 ≤ n → u32_at b at ≡ u32_at f (from + at)
  unfolding u32_at
  u32_in at h =
      let k : (i : ℕ) → i < 4 → get_or b (at + i) 0 ≡ get_or f (from + at + i) 0 =
      λ i l. byte_in (at + i) (omega arith) ∙ (let q : from + (at + i) ≡ from + at + i = omega arith in ap (λ (x : ℕ). get_or f x 0) q) in
      let a : get_or b at 0 ≡ get_or f (from + at) 0 = byte_in at (omega arith) in
      rw (a, k 1 (omega arith), k 2 (omega arith), k 3 (omega arith)) refl

  module _ (l : from + n ≤ length f) where
    pub length_in : length b ≡ n
    length_in = ap (λ (x : List ℕ). length x) e ∙ length-take-le n (drop from f) (rw (length-drop from f) (omega arith))

    pub entries_in : (bound : ℕ) → entries_below b bound ≡ all n (entry_fits f from bound)
    unfolding entries_below entry_fits
    entries_in bound =
        rw length_in (all_congr n _ _ (λ i h. ap (λ (x : ℕ). ltb x bound) (byte_in i h)))

    u32_of : (j : ℕ) → j < n / 4 → u32_at b (0 + 4 * j) ≡ u32_at f (from + 4 * j)
    u32_of j h = let q : 0 + 4 * j ≡ 4 * j = omega arith in ap (λ (x : ℕ). u32_at b x) q ∙ u32_in (4 * j) (omega (arith, div-mul-le_self n 4))

    previous_in : (j : ℕ) → j < n / 4 → previous b 0 j ≡ previous f from j
    unfolding previous
    previous_in zero h = refl
    previous_in (suc j) h = u32_of j (omega arith)

    term_in : (bound j : ℕ) → j < n / 4 → term_fits b 0 bound j ≡ term_fits f from bound j
    unfolding term_fits
    term_in bound j h = ap₂ (λ (x y : ℕ). (eqb j 0 || before x y) && ltb y bound) (previous_in j h) (u32_of j h)

    pub terms_in : (bound : ℕ) → all (length b / 4) (term_fits b 0 bound) ≡ all (n / 4) (term_fits f from bound)
    terms_in bound = rw length_in (all_congr (n / 4) _ _ (term_in bound))
