-- The lists of a stage as they stand in a file that reads, by where its layout has the bodies start.
use Prim.Native.Nat.{ℕ, ◌+◌, ◌-◌, ◌*◌, ◌≤◌, ◌<◌}
use mathlib.Core.Path.{◌≡◌, refl, sym, ap, ◌∙◌}
use mathlib.Core.List.{List, []}
use native.Mathlib.Omega.{arith}
use lib.Arith.{digits_lt}
use lib.ListN.{length, get_or, take, drop, length-take, length-drop}
use lib.Seq.{ext_get_or, get_or-take, get_or-drop, take_all, length-take-le}
use Rattle.finite.proofs.Testing.{tabulate_length, tabulate_at}
use Rattle.records.specs.Bytes.{Bytes, u16_at, term_bytes}
use Rattle.records.specs.Design.{stage_of, list_of}
use Rattle.design.specs.Reading.{head_of, last_of, number_of, place, meaning}
use Rattle.design.specs.Layout.{Describes}
use Rattle.records.specs.Inside.Terms.{terms}
use Rattle.design.specs.Inside.StageLists.{body_in, LiesWithin, AllWithin, lists_of}
use Rattle.design.specs.Layout.{Layout}
use Rattle.design.specs.Limits.{greatest_records, greatest_terms}
use Rattle.design.proofs.Limits.{records}
use Rattle.records.proofs.TermBytes.{terms_of_bytes, length_term_bytes}
use Rattle.design.proofs.Walking.{place_next}
use Rattle.design.proofs.Layouts.{described}
use Rattle.design.proofs.FileRecords.{number_low}
use Rattle.design.proofs.Meaning.{list_part}

module _ (f starts : List ℕ) (first n : ℕ) where
  pub lists_of_length : length (lists_of f starts first n) ≡ n
  unfolding lists_of
  lists_of_length = tabulate_length n _

  pub lists_of_at : (i : ℕ) → i < n → get_or (lists_of f starts first n) i [] ≡ terms (body_in f starts (first + i))
  unfolding lists_of
  lists_of_at i h = tabulate_at n _ i [] h

pub lists_length : (f : List ℕ) (y : Layout) → Describes f y → (t : ℕ) → t < y.head.k → length (stage_of (meaning f) t).lists ≡ y.head.m * y.head.s
lists_length f y d t u = ((described d).formed.stage t u).count

-- a list has no more terms than a list may have
list_small : (f : List ℕ) (y : Layout) → Describes f y → (t l : ℕ) → t < y.head.k → l < y.head.m * y.head.s → length (list_of (meaning f) t l) ≤ greatest_terms
list_small f y d t l u h = (((described d).formed.stage t u).list l h).size

module _ (f : List ℕ) (b : Bytes f) (y : Layout) (d : Describes f y) (t : ℕ) (u : t < y.head.k) where
  -- list l: it lies in the file, and its bytes are those of the terms that the file means
  one : (l N : ℕ) → l < y.head.m * y.head.s → N ≡ number_of y.head t (l + 1)
      → LiesWithin f (get_or y.starts N 0) (get_or y.starts (N + 1) 0)
      × (body_in f y.starts N ≡ term_bytes (list_of (meaning f) t l))
  one l N h e =
      let low : N + 1 < last_of (head_of f) + 1 = (let q = number_low y.head t (l + 1) u (omega arith) in let z = ap last_of d.head in omega arith) in
      let s = d.starts N (omega arith) in
      let s' = d.starts (N + 1) low in
      let p = place_next f N in
      let w = list_part f b y d t l N (get_or y.starts N 0) u h e refl in
      let o : get_or y.starts N 0 - 4 ≡ place f N = omega arith in
      let fits : get_or y.starts N 0 + u16_at f (place f N) ≤ length f = rw o at w.1.fits in
      let is : take (u16_at f (place f N)) (drop (get_or y.starts N 0) f) ≡ term_bytes (list_of (meaning f) t l) = rw o at w.1.is in
      let n : get_or y.starts (N + 1) 0 - 4 - get_or y.starts N 0 ≡ u16_at f (place f N) = omega arith in
      let room : u16_at f (place f N) ≤ length (drop (get_or y.starts N 0) f) = rw length-drop (omega arith) in
      let size : u16_at f (place f N) ≡ 4 * length (list_of (meaning f) t l) =
      sym (length-take-le (u16_at f (place f N)) (drop (get_or y.starts N 0) f) room) ∙ ap length is ∙ length_term_bytes (list_of (meaning f) t l) in
      let small = list_small f y d t l u h in (
        (omega arith, omega arith, omega arith),
        ap (λ (k : ℕ). take k (drop (get_or y.starts N 0) f)) n ∙ is,
      )

  number_from : (from i : ℕ) → number_of y.head t (from + 1) + i ≡ number_of y.head t (from + i + 1)
  unfolding number_of
  number_from from i = omega arith

  -- n lists from the one numbered `from` on
  module _ (from n first : ℕ) (h : from + n ≤ y.head.m * y.head.s) (e : first ≡ number_of y.head t (from + 1)) where
    here : (i : ℕ) → i < n → LiesWithin f (get_or y.starts (first + i) 0) (get_or y.starts (first + i + 1) 0)
        × (body_in f y.starts (first + i) ≡ term_bytes (list_of (meaning f) t (from + i)))
    here i k = one (from + i) (first + i) (omega arith) (ap (λ (q : ℕ). q + i) e ∙ number_from from i)

    pub lists_inside : AllWithin f y.starts first n
    lists_inside i k = (here i k).0

    pub bodies_are : (i : ℕ) → i < n → body_in f y.starts (first + i) ≡ term_bytes (list_of (meaning f) t (from + i))
    bodies_are i k = (here i k).1

    -- their starts and the next are among those that a layout has room for
    pub lists_known : first + n < greatest_records
    unfolding number_of
    lists_known =
        let o = (described d).bounds in
        let r = records o.k_high o.bits in
        let g = digits_lt {r = from + n} {c = 1 + y.head.m * y.head.s} u (omega arith) in
        omega arith

    pub lists_are : lists_of f y.starts first n ≡ take n (drop from (stage_of (meaning f) t).lists)
    lists_are =
        let ls = (stage_of (meaning f) t).lists in
        let g : length (take n (drop from ls)) ≡ n = length-take n (drop from ls) ∙ (let k = length-drop from ls in let w = lists_length f y d t u in omega arith) in
        let a = lists_of_length f y.starts first n in
        ext_get_or [] (lists_of f y.starts first n) (take n (drop from ls)) (a ∙ sym g)
        (λ i k.
        let l : i < n = omega arith in
        lists_of_at f y.starts first n i l
        ∙ ap terms (bodies_are i l) ∙ terms_of_bytes (list_of (meaning f) t (from + i))
        ∙ sym (get_or-take n (drop from ls) i [] l ∙ get_or-drop from ls i []))

-- the lists of stage t, the first of them numbered first
pub record Stand (f : List ℕ) (y : Layout) (t first : ℕ) : Type 0 where
  pub inside : AllWithin f y.starts first (y.head.m * y.head.s)
  pub known : first + y.head.m * y.head.s < greatest_records
  pub all : lists_of f y.starts first (y.head.m * y.head.s) ≡ (stage_of (meaning f) t).lists
  pub bodies : (l : ℕ) → l < y.head.m * y.head.s → body_in f y.starts (first + l) ≡ term_bytes (list_of (meaning f) t l)

pub stand : (f : List ℕ) → Bytes f → (y : Layout) → Describes f y → (t : ℕ) → t < y.head.k → (first : ℕ) → first ≡ number_of y.head t 1 → Stand f y t first
stand f b y d t u first e =
    let n = y.head.m * y.head.s in
    let g = lists_length f y d t u in
    record {
      inside = lists_inside f b y d t u 0 n first (omega arith) e;
      known = lists_known f b y d t u 0 n first (omega arith) e;
      all = lists_are f b y d t u 0 n first (omega arith) e ∙ take_all n (stage_of (meaning f) t).lists (omega arith);
      bodies = λ l h. let z : 0 + l ≡ l = omega arith in rw z at (bodies_are f b y d t u 0 n first (omega arith) e l h);
    }
