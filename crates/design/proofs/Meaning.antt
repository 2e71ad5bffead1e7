-- A file of bytes that reads is the file of what it means: it is the records behind one another, each is its head and its body, and each body is
-- that of the design.
use Prim.Native.Nat.{ℕ, zero, suc, ◌+◌, ◌*◌, ◌-◌, ◌/◌, ◌%◌, ◌^◌, ◌≤◌, ◌<◌}
use mathlib.Core.Path.{◌≡◌, refl, sym, ap, ◌∙◌, fun_ext}
use mathlib.Core.List.{List, [], ◌∷◌, ◌++◌}
use mathlib.Core.Bool.{true}
use native.Mathlib.Omega.{arith}
use native.Mathlib.Numerals.{add-one}
use borrow.Author.Tests.{leb-true, eqb-true, eq-eqb, ne_eqb}
use lib.ListN.{length, get_or, take, drop, length-drop}
use lib.Seq.{take-add, take_all, drop-cons, length-take-le}
use lib.Dec.{eqb}
use Rattle.finite.specs.Tests.{tabulate}
use Rattle.finite.proofs.Testing.{tabulate_congr}
use Rattle.std.proofs.lemmas.Bool.{and_parts}
use Rattle.design.specs.Limits.{greatest_terms, Head}
use Rattle.records.specs.Bytes.{byte, u16_at, u32_at, term_bytes, Bytes}
use Rattle.records.specs.Design.{Design, stage_of, list_of}
use Rattle.std.specs.List.{concat}
use Rattle.records.specs.Records.{a_record}
use Rattle.design.specs.Layout.{Describes}
use Rattle.design.specs.Reading.{last_of, number_of, kind_due, size_due, length_due, means, reading, place, head_of, meaning, stage_at, table_at, list_at}
use Rattle.design.specs.Layout.{Layout}
use Rattle.design.proofs.Flat.{head_for, stage_body, body_of, record_of, flat}
use Rattle.design.proofs.Records.{Framed, frame_none, fault_framed}
use Rattle.design.proofs.Walking.{head_size}
use Rattle.design.proofs.FileRecords.{number_two, number_low, number_div, number_mod, record_cases, ends, fine, stage_is, list_is, table_framed, list_framed, Part}
use Rattle.records.proofs.Concat.{concat_snoc}

-- record i of the file f as it stands
abbrev span : List ℕ → ℕ → List ℕ
span f i = take (4 + u16_at f (place f i)) (drop (place f i) f)

spans : (f : List ℕ) (n : ℕ) → take (place f n) f ≡ concat (tabulate n (span f))
unfolding place tabulate
spans f zero = refl
spans f (suc n) =
    let e : place f n + 4 + u16_at f (place f n) ≡ place f n + (4 + u16_at f (place f n)) = omega arith in
    rw (e, take-add) (ap (λ (l : List ℕ). l ++ span f n) (spans f n) ∙ sym (concat_snoc (span f) n))

next : (f : List ℕ) (at to : ℕ) → at + 1 ≡ to → at < length f → drop at f ≡ byte f at ∷ drop to f
next f at to e h = rw (← e, add-one) (drop-cons f at 0 h)

-- the first four bytes apart
apart_drop : (f : List ℕ) (at : ℕ) → at + 4 ≤ length f → drop at f ≡ byte f at ∷ byte f (at + 1) ∷ byte f (at + 2) ∷ byte f (at + 3) ∷ drop (at + 4) f
apart_drop f at h =
    let a = next f at (at + 1) refl (omega arith) in
    let b = next f (at + 1) (at + 2) (omega arith) (omega arith) in
    let c = next f (at + 2) (at + 3) (omega arith) (omega arith) in
    let d = next f (at + 3) (at + 4) (omega arith) (omega arith) in
    cc

apart : (f : List ℕ) (at n : ℕ) → at + 4 ≤ length f → take (4 + n) (drop at f) ≡ byte f at ∷ byte f (at + 1) ∷ byte f (at + 2) ∷ byte f (at + 3) ∷ take n (drop (at + 4) f)
apart f at n h =
    let e : 4 + n ≡ suc (suc (suc (suc n))) = omega arith in
    rw (e, apart_drop f at h) refl

module _ (f : List ℕ) (b : Bytes f) where
  low : (at : ℕ) → u16_at f at % 256 ≡ byte f at
  unfolding u16_at
  low at = omega (arith, b at, b (at + 1))

  high : (at : ℕ) → u16_at f at / 256 ≡ byte f (at + 1)
  unfolding u16_at
  high at = omega (arith, b at, b (at + 1))

  byte0 : (at : ℕ) → u32_at f at % 256 ≡ byte f at
  unfolding u32_at
  byte0 at = omega (arith, b at)

  byte1 : (at : ℕ) → u32_at f at / 256 % 256 ≡ byte f (at + 1)
  unfolding u32_at
  byte1 at =
      let e : u32_at f at / 256 ≡ byte f (at + 1) + 256 * byte f (at + 2) + 65536 * byte f (at + 3) = omega (arith, b at) in
      rw e (omega (arith, b (at + 1)))

  byte2 : (at : ℕ) → u32_at f at / 65536 % 256 ≡ byte f (at + 2)
  unfolding u32_at
  byte2 at =
      let e : u32_at f at / 65536 ≡ byte f (at + 2) + 256 * byte f (at + 3) = omega (arith, b at, b (at + 1)) in
      rw e (omega (arith, b (at + 2)))

  byte3 : (at : ℕ) → u32_at f at / 16777216 ≡ byte f (at + 3)
  unfolding u32_at
  byte3 at = omega (arith, b at, b (at + 1), b (at + 2))

  -- the bytes of the terms that stand at p
  terms_are : (n p : ℕ) → p + 4 * n ≤ length f → term_bytes (tabulate n (λ j. u32_at f (p + 4 * j))) ≡ take (4 * n) (drop p f)
  unfolding term_bytes tabulate
  terms_are zero p h = refl
  terms_are (suc n) p h =
      let e : 4 * suc n ≡ 4 + 4 * n = omega arith in
      let z : p + 4 * 0 ≡ p = omega arith in
      let g : ◌≡◌ {A = ℕ → ℕ} (λ j. u32_at f (p + 4 * suc j)) (λ j. u32_at f (p + 4 + 4 * j)) = fun_ext (λ j. ap (u32_at f) (omega arith)) in
      rw (e, apart f p (4 * n) (omega arith), z, byte0 p, byte1 p, byte2 p, byte3 p, g)
      (ap (λ (l : List ℕ). byte f p ∷ byte f (p + 1) ∷ byte f (p + 2) ∷ byte f (p + 3) ∷ l) (terms_are n (p + 4) (omega arith)))

  -- a record that lies within the file is its frame and its body
  span_is : (at : ℕ) → at + 4 + u16_at f at ≤ length f → take (4 + u16_at f at) (drop at f) ≡ a_record (u16_at f (at + 2)) (take (u16_at f at) (drop (at + 4) f))
  unfolding a_record
  span_is at h =
      let l : length (take (u16_at f at) (drop (at + 4) f)) ≡ u16_at f at = length-take-le _ _ (rw length-drop (omega arith)) in
      let s : at + 2 + 1 ≡ at + 3 = omega arith in
      rw (apart f at (u16_at f at) (omega arith), l, low at, high at, low (at + 2), high (at + 2), s) refl

pub last_two : (h : Head) → 2 ≤ last_of h
unfolding last_of
last_two h = omega arith

pub list_size : (z n : ℕ) → length_due 3 z n ≡ true → (n % 4 ≡ 0) × (n ≤ z)
unfolding length_due
list_size z n e = (eqb-true _ _ (and_parts (eqb (n % 4) 0) _ e).0, leb-true _ _ (and_parts (eqb (n % 4) 0) _ e).1)

-- the body of a stage's record
pub body_stage : (d : Design) (t l : ℕ) → t < d.k → l ≤ d.m * d.s → body_of d (number_of (head_for d) t l) ≡ stage_body (stage_of d t) l
unfolding body_of
body_stage d t l a b =
    let n = number_of (head_for d) t l in
    let x : 2 ≤ n = number_two (head_for d) t l a b in
    let y : n < last_of (head_for d) = number_low (head_for d) t l a b in
    simp (ne_eqb n 0 (λ z. omega arith), ne_eqb n 1 (λ z. omega arith), ne_eqb n (last_of (head_for d)) (λ z. omega arith), number_div (head_for d) t l a b, number_mod (head_for d) t l a b)

-- the body of the end
pub body_end : (d : Design) → body_of d (last_of (head_for d)) ≡ []
unfolding body_of last_of
body_end d =
    let n = 2 + d.k * (1 + d.m * d.s) in
    simp (ne_eqb n 0 (λ z. omega arith), ne_eqb n 1 (λ z. omega arith), eq-eqb n n refl)

pub kind_end : (h : Head) → kind_due h (last_of h) ≡ 4
unfolding kind_due last_of
kind_end h =
    let n = 2 + h.k * (1 + h.m * h.s) in
    simp (ne_eqb n 0 (λ z. omega arith), ne_eqb n 1 (λ z. omega arith), eq-eqb n n refl)

module _ (f : List ℕ) (b : Bytes f) (r : reading f ≡ means (meaning f)) where
  -- the body of record i as it stands
  Stands : ℕ → Type 0
  Stands i = body_of (meaning f) i ≡ take (u16_at f (place f i)) (drop (place f i + 4) f)

  framed_at : (i : ℕ) → i < last_of (head_of f) + 1 → Framed f (place f i) (kind_due (head_of f) i) (size_due (head_of f) (kind_due (head_of f) i))
  framed_at i u = fault_framed f (head_of f) i (place f i) (fine f r i u)

  stands_head : Stands 0
  unfolding Stands body_of meaning place kind_due size_due
  stands_head =
      let z = head_size f (frame_none f (head_of f) 0 0 (fine f r 0 (omega arith))) in
      let x = next f 4 5 refl (omega arith) in
      let y = next f 5 6 refl (omega arith) in
      let w = next f 6 7 refl (omega arith) in
      rw (z.0, x, y, w) refl

  stands_box : Stands 1
  unfolding Stands body_of meaning kind_due size_due length_due table_at
  stands_box =
      let w = framed_at 1 (let q = last_two (head_of f) in omega arith) in
      let s : u16_at f (place f 1) ≡ 2 ^ (head_of f).m = eqb-true _ _ w.size in
      rw s refl

  stands_end : Stands (last_of (head_of f))
  unfolding Stands size_due length_due meaning
  stands_end =
      let w = rw (kind_end (head_of f)) at (framed_at (last_of (head_of f)) (omega arith)) in
      let s : u16_at f (place f (last_of (head_of f))) ≡ 0 = eqb-true _ _ w.size in
      rw s (body_end (meaning f))

  stands_table : (t : ℕ) → t < (head_of f).k → Stands (number_of (head_of f) t 0)
  unfolding Stands meaning stage_body stage_at table_at length_due
  stands_table t a =
      let w = table_framed f r t a in
      let s : u16_at f (place f (number_of (head_of f) t 0)) ≡ 2 ^ (head_of f).m = eqb-true _ _ w.size in
      body_stage (meaning f) t 0 a (omega arith) ∙ rw (s, stage_is f r t a) refl

  stands_list : (t l : ℕ) → t < (head_of f).k → l < (head_of f).m * (head_of f).s → Stands (number_of (head_of f) t (suc l))
  unfolding Stands meaning stage_body list_at
  stands_list t l a c =
      let at = place f (number_of (head_of f) t (l + 1)) in
      let w = list_framed f r t a l c in
      let v = list_size (4 * greatest_terms) (u16_at f at) w.size in
      let q : 4 * (u16_at f at / 4) ≡ u16_at f at = omega arith in
      let g : 4 * (u16_at f at / 4) + (at + 4) ≤ length f = omega arith in
      body_stage (meaning f) t (suc l) a c ∙ ap term_bytes (list_is f r t a l c) ∙ terms_are f b (u16_at f at / 4) (at + 4) (omega arith) ∙ (let z : suc l ≡ l + 1 = omega arith in rw (q, z) refl)

  stands_stage : (t l : ℕ) → t < (head_of f).k → l ≤ (head_of f).m * (head_of f).s → Stands (number_of (head_of f) t l)
  stands_stage t zero a c = stands_table t a
  stands_stage t (suc l) a c = stands_list t l a c

  stands : (i : ℕ) → i < last_of (head_of f) + 1 → Stands i
  stands = record_cases (head_of f) Stands stands_head stands_box stands_end stands_stage

  -- record i as it stands is that of the design
  record_is : (i : ℕ) → i < last_of (head_of f) + 1 → span f i ≡ record_of (meaning f) i
  unfolding Stands record_of meaning
  record_is i u =
      let w = framed_at i u in
      span_is f b (place f i) w.rest ∙ rw (w.kind, ← stands i u) refl

  pub written : f ≡ flat (meaning f)
  unfolding flat reading place meaning
  written =
      let e = ends f (head_of f) (meaning f) (last_of (head_of f) + 1) 0 0 r refl in
      let z : 0 + (last_of (head_of f) + 1) ≡ last_of (head_of f) + 1 = omega arith in
      sym (take_all (place f (last_of (head_of f) + 1)) f (rw z at e.1)) ∙ spans f (last_of (head_of f) + 1) ∙ ap concat (tabulate_congr _ (span f) (record_of (meaning f)) record_is)

-- a list's bytes as they stand, and where
pub list_part : (f : List ℕ) → Bytes f → (y : Layout) (d : Describes f y) (t l i from : ℕ) → t < y.head.k → l < y.head.m * y.head.s
    → i ≡ number_of y.head t (l + 1) → from ≡ get_or y.starts i 0
    → (4 ≤ from) × Part f from (u16_at f (from - 4)) (term_bytes (list_of (meaning f) t l))
unfolding list_at
list_part f b y d t l i from a₀ c₀ n₀ e₀ =
    let a : t < (head_of f).k = rw d.head at a₀ in
    let c : l < (head_of f).m * (head_of f).s = rw d.head at c₀ in
    let e : from ≡ get_or y.starts (number_of (head_of f) t (l + 1)) 0 = rw (n₀, d.head) at e₀ in
    let at = place f (number_of (head_of f) t (l + 1)) in
    let n = number_low (head_of f) t (l + 1) a (omega arith) in
    let g : from ≡ at + 4 = e ∙ d.starts (number_of (head_of f) t (l + 1)) (omega arith) in
    let k : from - 4 ≡ at = omega arith in
    let w = list_framed f d.read t a l c in
    let v = list_size (4 * greatest_terms) (u16_at f at) w.size in
    let q : 4 * (u16_at f at / 4) ≡ u16_at f at = omega arith in (
      omega arith,
      record {
        fits = rw k (omega arith);
        is = rw (k, g, list_is f d.read t a l c) (sym (terms_are f b (u16_at f at / 4) (at + 4) (omega arith) ∙ rw q refl));
      },
    )

-- reading gives one design at most, and a file that gives it is its file
pub read_means : (f : List ℕ) (d : Design) → reading f ≡ means d → d ≡ meaning f
unfolding reading place
read_means f d e = (ends f (head_of f) d (last_of (head_of f) + 1) 0 0 e refl).0

pub read_flat : (f : List ℕ) (d : Design) → Bytes f → reading f ≡ means d → f ≡ flat d
read_flat f d b e =
    let q = read_means f d e in
    rw q (written f b (e ∙ ap means q))
