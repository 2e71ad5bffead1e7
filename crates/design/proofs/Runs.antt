-- Runs of lists: what stands of them in the file, part of a run, and those of a stage.
-- Assumes nothing.
use Prim.Native.Nat.{ℕ, ◌+◌, ◌*◌, ◌-◌, ◌^◌, ◌≤◌, ◌<◌}
use mathlib.Core.Path.{◌≡◌, refl, sym, ap, ap₂, ◌∙◌}
use mathlib.Core.List.{List, []}
use native.Mathlib.Omega.{arith}
use lib.ListN.{length, get_or, take, drop, length-drop}
use lib.Seq.{ext_get_or, get_or-take, get_or-drop, length-take-le}
use borrow.Rule.Slice.PartMut.{mid_of}
use Rattle.finite.proofs.Testing.{tabulate_congr}
use Rattle.records.specs.Bytes.{Bytes, term_bytes}
use Rattle.records.specs.Inside.Terms.{terms}
use Rattle.design.specs.Limits.{greatest_records, greatest_share_bits}
use Rattle.records.specs.Design.{stage_of, list_of}
use Rattle.design.specs.Reading.{number_of, meaning}
use Rattle.design.specs.Heads.{numbers, laid}
use Rattle.design.specs.declared.heads.Head as heads
use Rattle.design.specs.Layout.{Describes}
use Rattle.design.specs.Inside.StageLists.{body_at, body_in, LiesWithin, AllWithin, lists_of, run_length, Stands, lists_in}
use Rattle.design.proofs.Layouts.{described}
use Rattle.design.proofs.StageLists.{lists_length, lists_of_length, lists_of_at, Stand, stand}

-- ---- a run of n lists, the starts from number `first` on

module _ (f starts run : List ℕ) (first n : ℕ) (room : first + n < length starts) (e : run ≡ take (n + 1) (drop first starts)) where
  run_size : length run ≡ n + 1
  run_size = ap (λ (x : List ℕ). length x) e ∙ length-take-le (n + 1) (drop first starts) (rw (length-drop first starts) (omega arith))

  run_length_lem : run_length run ≡ n
  run_length_lem = omega (arith, run_size)

  start_is : (i : ℕ) → i < n + 1 → get_or run i 0 ≡ get_or starts (first + i) 0
  start_is i h = ap (λ (x : List ℕ). get_or x i 0) e ∙ get_or-take (n + 1) (drop first starts) i 0 h ∙ get_or-drop first starts i 0

  starts_are : (i : ℕ) → i < n → (get_or run (0 + i) 0 ≡ get_or starts (first + i) 0) × (get_or run (0 + i + 1) 0 ≡ get_or starts (first + i + 1) 0)
  starts_are i h =
      let z : 0 + i ≡ i = omega arith in
      let q : first + (i + 1) ≡ first + i + 1 = omega arith in (
        ap (λ (x : ℕ). get_or run x 0) z ∙ start_is i (omega arith),
        ap (λ (x : ℕ). get_or run (x + 1) 0) z ∙ start_is (i + 1) (omega arith) ∙ ap (λ (x : ℕ). get_or starts x 0) q,
      )

  run_inside : AllWithin f starts first n → AllWithin f run 0 (run_length run)
  run_inside a i h =
      let w = starts_are i (omega (arith, run_length_lem)) in
      let b = a i (omega (arith, run_length_lem)) in
      rw (w.0, w.1) b

  pub run_stands : n ≤ greatest_share_bits → AllWithin f starts first n → Stands f run
  run_stands few a = record { some = omega (arith, run_size); few = omega (arith, run_length_lem); inside = run_inside a }

  -- list i has the bytes of the one at its place
  body_from : (i : ℕ) → i < n → body_in f run (0 + i) ≡ body_in f starts (first + i)
  body_from i h = let w = starts_are i h in ap₂ (body_at f) w.0 w.1

  pub run_body : (i : ℕ) → i < n → body_in f run i ≡ body_in f starts (first + i)
  run_body i h = let z : 0 + i ≡ i = omega arith in rw z at (body_from i h)

  pub run_lists : lists_in f run ≡ lists_of f starts first n
  unfolding lists_of
  run_lists = rw run_length_lem (tabulate_congr n _ _ (λ i h. ap terms (body_from i h)))

-- ---- `Lists`: a run that stands in the file

module _ (f starts : List ℕ) (s : Stands f starts) where
  pub len_is : length starts - 1 ≡ length (lists_in f starts)
  len_is = sym (lists_of_length f starts 0 (run_length starts))

  -- list i
  module _ (i : ℕ) (h : i < length (lists_in f starts)) where
    low : i < run_length starts
    low = omega (arith, len_is)

    here : LiesWithin f (get_or starts i 0) (get_or starts (i + 1) 0)
    here = let z : 0 + i ≡ i = omega arith in rw z at (s.inside i low)

    pub index_fits : i * 8 < 2 ^ 64
    index_fits = omega (arith, low, s.few)

    pub next_fits : (i + 1) * 8 < 2 ^ 64
    next_fits = omega (arith, low, s.few)

    pub next_number : i + 1 < 2 ^ 64
    next_number = omega (arith, low, s.few)

    pub index_there : i < length starts
    index_there = omega (arith, low)

    pub next_there : i + 1 < length starts
    next_there = omega (arith, low)

    pub head_before : 4 ≤ get_or starts (i + 1) 0
    head_before = omega (arith, here)

    pub body_ordered : get_or starts i 0 ≤ get_or starts (i + 1) 0 - 4
    body_ordered = omega (arith, here)

    pub list_held : (r : List ℕ) → r ≡ terms (body_in f starts i) → r ≡ get_or (lists_in f starts) i []
    list_held r e =
        let z : 0 + i ≡ i = omega arith in
        e ∙ sym (lists_of_at f starts 0 (run_length starts) i low ∙ ap (λ (x : ℕ). terms (body_in f starts x)) z)

  -- n of them, from `from` on
  module _ (from n : ℕ) (h : from + n ≤ length (lists_in f starts)) where
    room : from + n < length starts
    room = omega (arith, len_is, s.some)

    pub end_fits : from + n < 2 ^ 64
    end_fits = omega (arith, room, s.few)

    pub behind_fits : from + n + 1 < 2 ^ 64
    behind_fits = omega (arith, room, s.few)

    pub from_fits : from * 8 < 2 ^ 64
    from_fits = omega (arith, room, s.few)

    pub part_within : from + n + 1 ≤ length starts
    part_within = omega (arith, room)

    part_is : take (from + n + 1 - from) (drop from starts) ≡ take (n + 1) (drop from starts)
    part_is = let q : from + n + 1 - from ≡ n + 1 = omega arith in ap (λ (x : ℕ). take x (drop from starts)) q

    inside_from : AllWithin f starts from n
    inside_from i k =
        let z : 0 + (from + i) ≡ from + i = omega arith in
        rw z at (s.inside (from + i) (omega (arith, room)))

    pub part_stands : Stands f (take (from + n + 1 - from) (drop from starts))
    part_stands = run_stands f starts _ from n room part_is (omega (arith, room, s.few)) inside_from

    pub part_lists : lists_in f (take (from + n + 1 - from) (drop from starts)) ≡ take n (drop from (lists_in f starts))
    part_lists =
        let ls = lists_in f starts in
        let g : length (take n (drop from ls)) ≡ n = length-take-le n (drop from ls) (rw (length-drop from ls) (omega arith)) in
        let a = lists_of_length f starts from n in
        run_lists f starts _ from n room part_is
        ∙ ext_get_or [] (lists_of f starts from n) (take n (drop from ls)) (a ∙ sym g)
        (λ i k.
        let l : i < n = omega arith in
        let q : from + i < length ls = omega arith in
        lists_of_at f starts from n i l
        ∙ list_held (from + i) q _ refl
        ∙ sym (get_or-take n (drop from ls) i [] l ∙ get_or-drop from ls i []))

    pub part_bodies : (i : ℕ) → i < n → body_in f (take (from + n + 1 - from) (drop from starts)) i ≡ body_in f starts (from + i)
    part_bodies = run_body f starts _ from n room part_is

-- ---- the lists of stage t, the first of them numbered first; n is the number of share bits

module _ (f : List ℕ) (bytes : Bytes f) (h : heads.Head) (starts : List ℕ) (d : Describes f (laid h starts)) (t : ℕ) (u : t < h.k) where
  module _ (first : ℕ) (e : first ≡ number_of (numbers h) t 1) (n : ℕ) (en : n ≡ h.m * h.s) (room : length starts ≡ greatest_records) where
    whole : Stand f (laid h starts) t first
    whole = stand f bytes (laid h starts) d t u first e

    within : first + n < length starts
    within = rw (room, en) whole.known

    pub stage_within : first + n + 1 ≤ greatest_records
    stage_within = omega (arith, within, room)

    run_is : mid_of first (first + n + 1 - first) starts ≡ take (n + 1) (drop first starts)
    run_is = let q : first + n + 1 - first ≡ n + 1 = omega arith in ap (λ (x : ℕ). take x (drop first starts)) q

    pub stage_stands : Stands f (mid_of first (first + n + 1 - first) starts)
    stage_stands = run_stands f starts _ first n within run_is (rw en (described d).bounds.bits) (rw en whole.inside)

    pub stage_lists : lists_in f (mid_of first (first + n + 1 - first) starts) ≡ (stage_of (meaning f) t).lists
    stage_lists = run_lists f starts _ first n within run_is ∙ ap (lists_of f starts first) en ∙ whole.all

    pub stage_bodies : (l : ℕ) → l < h.m * h.s → body_in f (mid_of first (first + n + 1 - first) starts) l
        ≡ term_bytes (list_of (meaning f) t l)
    stage_bodies l k = run_body f starts _ first n within run_is l (rw en k) ∙ whole.bodies l k

    pub stage_lists_many : length (lists_in f (mid_of first (first + n + 1 - first) starts)) ≡ h.m * h.s
    stage_lists_many = ap (λ (x : List (List ℕ)). length x) stage_lists ∙ lists_length f (laid h starts) d t u
