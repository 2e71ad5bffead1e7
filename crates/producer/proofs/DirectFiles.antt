-- The file of a direct sharing: counting its bytes, and writing it piece by piece, over plain values, each premise as the code has it: of writing, w is the writer at
-- first, w₁, w₂, .. after each step.
use mathlib.Core.Path.{◌≡◌, refl, sym, ap, ◌∙◌, subst}
use mathlib.Core.Bool.{false}
use mathlib.Core.List.{List, [], ◌∷◌, ◌++◌}
use Prim.Native.Nat.{ℕ, ◌+◌, ◌*◌, ◌/◌, ◌%◌, ◌^◌, ◌≤◌, ◌<◌}
use native.Mathlib.Numerals.{add-one}
use native.Mathlib.Nat.{div-lt_iff_lt-mul, mul_comm}
use native.Mathlib.Omega.{arith}
use Rattle.std.proofs.Math.Nat.{pow-le-pow_left, pow-le-pow_right, mul-le-mul}
use lib.Pow.{pow_mono}
use lib.Count.{ones, ones-le}
use lib.ListN.{length, get_or, take, length-take, length-append}
use lib.Seq.{get_or-take, take_all}
use mir.Syntax.{w32, w64}
use mir.Val.{Fits}
use Rattle.finite.specs.Tests.{total}
use Rattle.finite.proofs.Testing.{tabulate_at, tabulate_length}
use Rattle.design.specs.Limits.{greatest_width, greatest_shares, broken}
use Rattle.records.specs.Records.{a_record, list_record, end_record}
use Rattle.records.specs.Encode.{front_bytes, lists_bytes}
use Rattle.records.specs.Inside.Writes.{Room, Writes}
use Rattle.records.specs.declared.writer.Writer.{Writer}
use Rattle.design.proofs.Limits.{bounds}
use Rattle.records.proofs.ListRecords.{two_records_length}
use Rattle.records.proofs.Writes.{room_first, room_then, writes_then}
use Rattle.records.proofs.Pieces.{encode_pieces, stage_pieces}
use Rattle.records.proofs.Pieces as pieces
use Rattle.direct.specs.Direct.{direct_list, direct_lists}
use Rattle.direct.specs.Inside.Outside.{most_terms}
use Rattle.producer.specs.Producing.{terms_count, produced_length}
use Rattle.producer.specs.Inside.Filing.{one_stage_file, word_bound, terms_bound}

-- ---- the lists

module _ (m s : ℕ) (limits : broken m s 1 ≡ false) where
  pub component_within : (i : ℕ) → i < m * s → i / m < s
  component_within i l = (div-lt_iff_lt-mul (omega (arith, (bounds m s 1 limits).m_low))).1 (omega (arith, mul_comm m s, l))

pub short_list : (l slice : List ℕ) → slice ≡ l → length l ≤ most_terms → 4 * length slice < 65536
short_list l slice e h = omega (arith, ap length e)

-- ---- the tables

module _ (m s : ℕ) (limits : broken m s 1 ≡ false) where
  pub table_short : (t : List ℕ) → length t ≡ 2 ^ m → length t < 65536
  table_short t e = omega (arith, pow_mono (bounds m s 1 limits).m_high)

-- ---- the lists of the direct sharing, of which l is list i, and slice the same

module _ (m s : ℕ) (place words : ℕ → ℕ) where
  abbrev lists : List (List ℕ)
  lists = direct_lists m s place words

  count : length lists ≡ m * s
  unfolding direct_lists
  count = tabulate_length (m * s) (λ i. direct_list m s place words (i / m) (i % m))

  pub no_list : (w : Writer) → Writes w w (lists_bytes (take 0 (direct_lists m s place words)))
  no_list = pieces.no_list lists

  module _ (i : ℕ) (h : i < m * s) (l slice : List ℕ) (e : l ≡ direct_list m s place words (i / m) (i % m)) (q : slice ≡ l)
      (w w₁ : Writer) (r : Room w (lists_bytes (direct_lists m s place words))) (g : Writes w w₁ (lists_bytes (take i (direct_lists m s place words)))) where
    slice_is : slice ≡ get_or lists i []
    unfolding direct_lists
    slice_is = q ∙ e ∙ sym (tabulate_at (m * s) (λ i. direct_list m s place words (i / m) (i % m)) i [] h)

    pub list_room : Room w₁ (list_record slice)
    list_room = rw slice_is (pieces.list_room lists w w₁ r i (omega (arith, count)) g)

    pub lists_more : (w₂ : Writer) → Writes w₁ w₂ (list_record slice) → Writes w w₂ (lists_bytes (take (i + 1) (direct_lists m s place words)))
    lists_more w₂ g₂ = pieces.list_more lists w w₁ r i (omega (arith, count)) g w₂ (rw slice_is at g₂)

  pub lists_all : (w w₁ : Writer) (i : ℕ) → m * s ≤ i → Writes w w₁ (lists_bytes (take i (direct_lists m s place words)))
      → Writes w w₁ (lists_bytes (direct_lists m s place words))
  lists_all w w₁ i b g = subst (Writes w w₁) (ap lists_bytes (take_all i lists (omega (arith, count)))) g

-- ---- the file: its front, the table, the lists, the end

module _ (m s : ℕ) (t : List ℕ) (ls : List (List ℕ)) where
  pub file_pieces : one_stage_file m s t ls ≡ front_bytes m s 1 t ++ (a_record 2 t ++ (lists_bytes ls ++ end_record))
  unfolding one_stage_file
  file_pieces =
      encode_pieces (record { m = m; s = s; k = 1; box = t; stages = record { table = t; lists = ls } ∷ [] })
      ∙ ap (λ (x : List ℕ). front_bytes m s 1 t ++ x) (stage_pieces (record { table = t; lists = ls }) end_record)

  -- there is room whatever the head's three numbers are
  module _ (w : Writer) (r : Room w (one_stage_file m s t ls)) (x y z : ℕ) where
    abbrev rest : List ℕ
    rest = a_record 2 t ++ (lists_bytes ls ++ end_record)

    room : Room w (front_bytes x y z t ++ rest)
    room = record {
      within =
          omega (
            arith,
            r.within,
            ap length file_pieces,
            length-append (front_bytes m s 1 t) rest,
            length-append (front_bytes x y z t) rest,
            two_records_length 1 2 (m ∷ s ∷ 1 ∷ []) t,
            two_records_length 1 2 (x ∷ y ∷ z ∷ []) t,
          );
    }

    pub front_room : Room w (front_bytes x y z t)
    front_room = room_first w _ _ room

    module _ (w₁ : Writer) (g₁ : Writes w w₁ (front_bytes x y z t)) where
      room₁ : Room w₁ rest
      room₁ = room_then w w₁ _ g₁ _ room

      pub table_room : Room w₁ (a_record 2 t)
      table_room = room_first w₁ _ _ room₁

      module _ (w₂ : Writer) (g₂ : Writes w₁ w₂ (a_record 2 t)) where
        room₂ : Room w₂ (lists_bytes ls ++ end_record)
        room₂ = room_then w₁ w₂ _ g₂ _ room₁

        pub lists_room : Room w₂ (lists_bytes ls)
        lists_room = room_first w₂ _ _ room₂

        module _ (w₃ : Writer) (g₃ : Writes w₂ w₃ (lists_bytes ls)) where
          pub end_room : Room w₃ end_record
          end_room = room_then w₂ w₃ _ g₃ _ room₂

          rest_written : (w₄ : Writer) → Writes w₃ w₄ end_record → Writes w₁ w₄ rest
          rest_written w₄ g₄ = writes_then w₁ w₂ _ g₂ w₄ _ _ room₁ (writes_then w₂ w₃ _ g₃ w₄ _ _ room₂ g₄)

  pub file_written : (w : Writer) → Room w (one_stage_file m s t ls) → (w₁ : Writer) → Writes w w₁ (front_bytes m s 1 t) → (w₂ : Writer) → Writes w₁ w₂ (a_record 2 t)
      → (w₃ : Writer) → Writes w₂ w₃ (lists_bytes ls) → (w₄ : Writer) → Writes w₃ w₄ end_record → Writes w w₄ (one_stage_file m s t ls)
  file_written w r w₁ g₁ w₂ g₂ w₃ g₃ w₄ g₄ =
      subst (Writes w w₄) (sym file_pieces) (writes_then w w₁ _ g₁ w₄ _ _ r (rest_written w r m s 1 w₁ g₁ w₂ g₂ w₃ g₃ w₄ g₄))

-- ---- `terms`: w are the coefficient words, of which the first k are gone over, and n is how many terms are counted before word u

pub record Counted (s : ℕ) (w : List ℕ) (u n : ℕ) : Type 0 where
  pub so_far : n ≡ total u (λ v. s ^ ones v * ones (get_or w v 0))
  pub most : n ≤ u * word_bound

module _ (m s : ℕ) (limits : broken m s 1 ≡ false) (w : List ℕ) where
  pub width_shifts : m < 64
  width_shifts = omega (arith, (bounds m s 1 limits).m_high)

  pub none_counted : Counted s w 0 0
  unfolding total
  none_counted = record { so_far = refl; most = omega arith }

  module _ (k : ℕ) (z : k ≡ 2 ^ m) (u n : ℕ) (g : Counted s w u n) where
    module _ (i : u < length (take k w)) where
      u_low : u < k
      u_low = omega (arith, length-take k w)

      pub term_fits : Fits w32 u
      term_fits = record { fits = omega (arith, u_low, pow_mono (bounds m s 1 limits).m_high) }

      power_most : s ^ ones u ≤ greatest_shares ^ greatest_width
      power_most =
          omega (
            arith,
            pow-le-pow_left (bounds m s 1 limits).s_high (ones u),
            pow-le-pow_right {n = greatest_shares} (omega arith) {i = ones u} {j = greatest_width} (omega (arith, ones-le m u (omega (arith, u_low)), (bounds m s 1 limits).m_high)),
          )

      pub power_fits : s ^ ones u < 18446744073709551616
      power_fits = omega (arith, power_most)

      module _ (b : get_or (take k w) u 0 < 256) (p : ℕ) (e : p ≡ s ^ ones u) where
        abbrev pub bits : ℕ
        bits = ones (get_or (take k w) u 0)

        word_most : p * bits ≤ word_bound
        word_most = mul-le-mul {n₂ = greatest_shares ^ greatest_width} {m₂ = 8} (omega (arith, power_most)) (ones-le 8 (get_or (take k w) u 0) b)

        pub word_fits : Fits w64 (p * bits)
        word_fits = record { fits = omega (arith, word_most) }

        pub sum_fits : Fits w64 (n + p * bits)
        sum_fits = record { fits = omega (arith, word_most, g.most, u_low, pow_mono (bounds m s 1 limits).m_high) }

        pub counted_more : Counted s w (u + 1) (n + p * bits)
        unfolding total
        counted_more = record {
          so_far = rw add-one (omega (arith, g.so_far, ap (λ (x : ℕ). x * bits) e, ap (λ (x : ℕ). s ^ ones u * ones x) (get_or-take k w u 0 u_low)));
          most = omega (arith, word_most, g.most);
        }

    module _ (r : 2 ^ m ≤ length w) (a : u ≤ length (take k w)) (b : length (take k w) ≤ u) where
      all_gone : u ≡ 2 ^ m
      all_gone = omega (arith, length-take k w)

      pub all_counted : (words : ℕ → ℕ) → words ≡ (λ v. get_or w v 0) → n ≡ terms_count m s words
      unfolding terms_count
      all_counted words ws = rw ws (g.so_far ∙ ap (λ (x : ℕ). total x (λ v. s ^ ones v * ones (get_or w v 0))) all_gone)

      pub all_within : n ≤ terms_bound
      all_within = omega (arith, g.most, all_gone, pow_mono (bounds m s 1 limits).m_high)

-- ---- `size`: k is how many terms there are, a what the head takes, b what a table takes, e what the end takes

pub heads_fit : (m s : ℕ) → broken m s 1 ≡ false → Fits w64 (4 * (m * s))
heads_fit m s limits = record { fits = omega (arith, (bounds m s 1 limits).bits) }

module _ (m s : ℕ) (limits : broken m s 1 ≡ false) (t : List ℕ) (h : length t ≡ 2 ^ m) where
  pub table_body : length t < 65536
  table_body = table_short m s limits t h

  module _ (a b : ℕ) (ea : a ≡ 4 + 3) (eb : b ≡ 4 + length t) where
    pub tables_twice : Fits w64 (2 * b)
    tables_twice = record { fits = omega (arith, table_body) }

    pub tables_sum : Fits w64 (a + 2 * b)
    tables_sum = record { fits = omega (arith, table_body) }

    module _ (k : ℕ) (l : k ≤ terms_bound) where
      pub terms_fit : Fits w64 (4 * k)
      terms_fit = record { fits = omega arith }

      pub lists_sum : Fits w64 (4 * (m * s) + 4 * k)
      lists_sum = record { fits = omega (arith, (bounds m s 1 limits).bits) }

      pub with_lists : Fits w64 (a + 2 * b + (4 * (m * s) + 4 * k))
      with_lists = record { fits = omega (arith, table_body, (bounds m s 1 limits).bits) }

      module _ (e : ℕ) (ee : e ≡ 4 + 0) where
        pub with_end : Fits w64 (a + 2 * b + (4 * (m * s) + 4 * k) + e)
        with_end = record { fits = omega (arith, table_body, (bounds m s 1 limits).bits) }

        pub size_all : (words : ℕ → ℕ) → k ≡ terms_count m s words → a + 2 * b + (4 * (m * s) + 4 * k) + e ≡ produced_length m s words
        unfolding produced_length
        size_all words ek = omega arith
