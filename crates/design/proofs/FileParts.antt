-- The ways out of the functions that take a part of a file over plain values: from is where the part starts, n how many bytes it has. A premise is what a
-- contract asks, or what a call's contract says of its result.
-- Assumes nothing.
use Prim.Native.Nat.{ℕ, ◌+◌, ◌-◌, ◌^◌, ◌≤◌, ◌<◌}
use mathlib.Core.Path.{◌≡◌, sym, ap, ◌∙◌}
use mathlib.Core.List.{List, ◌++◌, map, append_assoc}
use native.Mathlib.Omega.{arith}
use native.Mathlib.Nat.{add-sub_cancel_left}
use lib.ListN.{length, get_or, take, drop, length-drop}
use lib.Pow.{pow_mono}
use lib.Seq.{take_at, drop_at, length-take-le}
use mir.Syntax.{w64}
use mir.Val.{Fits}
use Rattle.records.specs.Bytes.{Bytes}
use Rattle.std.specs.List.{concat}
use Rattle.records.specs.Records.{a_record, end_record}
use Rattle.records.proofs.ListRecords.{two_records_length}
use Rattle.records.specs.Design.{Design, stage_of}
use Rattle.records.specs.Encode.{head_body, stage_bytes, encode}
use Rattle.design.specs.Layout.{Describes}
use Rattle.design.specs.Reading.{number_of, meaning}
use Rattle.design.specs.Layout.{Layout}
use Rattle.design.proofs.FileRecords.{Part, limited, box_part, table_part}
use Rattle.design.proofs.Layouts.{described}
use Rattle.design.proofs.FileLength.{parts_length}
use Rattle.design.proofs.Theorems.{read_encodes}

-- n bytes from `from` on, as a slice that ends at from + n
slice_is : (f b : List ℕ) (from n k : ℕ) → Part f from k b → n ≡ k → take (from + n - from) (drop from f) ≡ b
slice_is f b from n k p e = ap (λ (x : ℕ). take x (drop from f)) (add-sub_cancel_left from n ∙ e) ∙ p.is

-- it has as many bytes, where they are there
pub slice_length : (f : List ℕ) (from n p : ℕ) → n ≡ p → from + n ≤ length f → length (take (from + n - from) (drop from f)) ≡ p
slice_length f from n p e h = length-take-le _ (drop from f) (rw length-drop (omega arith)) ∙ add-sub_cancel_left from n ∙ e

module _ (f : List ℕ) (l : Layout) (d : Describes f l) where
  -- the box
  module _ (from : ℕ) (e : from ≡ get_or l.starts 1 0) where
    box : Part f from (2 ^ l.head.m) (meaning f).box
    box = box_part f l d from e

    module _ (n : ℕ) (en : n ≡ 2 ^ l.head.m) where
      pub box_there : from + n ≤ length f
      box_there = omega (arith, box.fits)

      pub box_fits : length f < 2 ^ 64 → Fits w64 (from + n)
      box_fits k = record { fits = omega (arith, box_there) }

      pub box_is : take (from + n - from) (drop from f) ≡ (meaning f).box
      box_is = slice_is f _ from n _ box en

  -- the table of stage t, record i
  module _ (t : ℕ) (a : t < l.head.k) (i : ℕ) (ei : i ≡ number_of l.head t 0) (from : ℕ) (e : from ≡ get_or l.starts i 0) where
    table : Part f from (2 ^ l.head.m) (stage_of (meaning f) t).table
    table = table_part f l d t i from a ei e

    module _ (n : ℕ) (en : n ≡ 2 ^ l.head.m) where
      pub table_there : from + n ≤ length f
      table_there = omega (arith, table.fits)

      pub table_fits : length f < 2 ^ 64 → Fits w64 (from + n)
      table_fits k = record { fits = omega (arith, table_there) }

      pub table_is : take (from + n - from) (drop from f) ≡ (stage_of (meaning f) t).table
      table_is = slice_is f _ from n _ table en

-- ---- the stages: what stands in the file of a design between the records of the head and the box and that of the end

module _ (d : Design) where
  abbrev front : List ℕ
  front = a_record 1 (head_body d) ++ a_record 2 d.box

  abbrev middle : List ℕ
  middle = concat (map stage_bytes d.stages)

  in_three : encode d ≡ front ++ (middle ++ end_record)
  unfolding encode
  in_three = sym (append_assoc (a_record 1 (head_body d)) (a_record 2 d.box) (middle ++ end_record))

  front_length : length front ≡ 7 + (4 + length d.box)
  front_length = two_records_length 1 2 (head_body d) d.box

  middle_is : (from n : ℕ) → from ≡ 7 + (4 + length d.box) → from + n + 4 ≡ length (encode d) → take n (drop from (encode d)) ≡ middle
  middle_is from n e q =
      ap (λ (x : List ℕ). take n (drop from x)) in_three ∙ ap (take n) (drop_at front (middle ++ end_record) from (front_length ∙ sym e))
      ∙ take_at middle end_record n (omega (arith, parts_length d))

-- p is the number of entries, a, b and e are what the records of the head, the box and the end take
module _ (f : List ℕ) (l : Layout) (d : Describes f l) where
  module _ (p : ℕ) (ep : p ≡ 2 ^ l.head.m) where
    pub entries_small : p < 65536
    entries_small = omega (arith, pow_mono (limited f l d).m_high)

    box_size : length (meaning f).box ≡ p
    box_size = (described d).formed.box.size ∙ sym ep

    module _ (b : ℕ) (eb : b ≡ 4 + p) where
      pub front_fits : (a : ℕ) → a ≡ 4 + 3 → Fits w64 (a + b)
      front_fits a ea = record { fits = omega (arith, entries_small) }

      module _ (e : ℕ) (ee : e ≡ 4 + 0) (bytes : Bytes f) where
        is_encoded : f ≡ encode (meaning f)
        is_encoded = read_encodes f (meaning f) bytes d.read

        its_length : length f ≡ 7 + (4 + p) + length (concat (map stage_bytes (meaning f).stages)) + 4
        its_length = omega (arith, ap length is_encoded, parts_length (meaning f), box_size)

        pub end_within : e ≤ length f
        end_within = omega (arith, its_length)

        module _ (a : ℕ) (ea : a ≡ 4 + 3) where
          pub front_within : a + b ≤ length f - e
          front_within = omega (arith, its_length)

          pub stages_are : take (length f - e - (a + b)) (drop (a + b) f) ≡ concat (map stage_bytes (meaning f).stages)
          stages_are =
              ap (λ (x : List ℕ). take (length f - e - (a + b)) (drop (a + b) x)) is_encoded
              ∙ middle_is (meaning f) (a + b) (length f - e - (a + b)) (omega (arith, box_size)) (omega (arith, its_length, ap length is_encoded))
