-- The file of two designs joined into one: its pieces, its length, and writing it. Premises stand as the code has them: w is the writer at first, w₁, w₂, ..
-- after each step.
-- Assumes nothing.
use mathlib.Core.Path.{◌≡◌, refl, sym, ap, ap₂, ◌∙◌, subst}
use mathlib.Core.List.{List, ◌++◌, map, append_assoc}
use Prim.Native.Nat.{ℕ, ◌+◌, ◌^◌, ◌≤◌, ◌<◌}
use native.Mathlib.Omega.{arith}
use lib.ListN.{length, take, length-append, length-map}
use lib.Pow.{pow_mono}
use lib.Seq.{take_all}
use Rattle.anf.specs.Tables.{entry}
use Rattle.records.specs.Records.{end_record}
use Rattle.records.specs.Design.{Design}
use Rattle.records.specs.Encode.{front_bytes, stage_bytes, stages_bytes, encode}
use Rattle.records.specs.Bytes.{Bytes}
use Rattle.records.specs.Inside.Writes.{Room, Writes}
use Rattle.records.specs.declared.writer.Writer.{Writer}
use Rattle.records.proofs.Concat.{concat_map_append}
use Rattle.records.proofs.Pieces.{encode_pieces}
use Rattle.records.proofs.Writes.{room_first, room_then, writes_then}
use Rattle.design.specs.Limits.{greatest_points, greatest_stages}
use Rattle.design.specs.Reading.{means, reading}
use Rattle.design.specs.WellFormed.{WellFormed}
use Rattle.design.proofs.FileLength.{parts_length}
use Rattle.design.proofs.Limits.{bounds}
use Rattle.design.proofs.Theorems.{read_encodes}
use Rattle.joiner.specs.Joining.{joined_design}
use Rattle.joiner.specs.Inside.Through.{Through}

-- ---- the box: t sent through u, of which the first x entries stand in the table b

pub record Sent (t u b : List ℕ) (x : ℕ) : Type 0 where
  pub room : length b ≡ 64
  pub so_far : take x b ≡ map (entry u) (take x t)

module _ (t u : List ℕ) (h : Through t u) where
  pub none_sent : (b : List ℕ) → length b ≡ 64 → Sent t u b 0
  none_sent b z = record { room = z; so_far = refl }

  module _ (b : List ℕ) (x : ℕ) (g : Sent t u b x) where
    pub all_sent : x ≤ length t → length t ≤ x → take (length t) b ≡ map (entry u) t
    all_sent a z = let e : length t ≡ x = omega arith in rw e (g.so_far ∙ ap (map (entry u)) (take_all x t z))

-- ---- the whole: its front, the stages of both and the end

module _ (d e : Design) where
  pub pieces : encode (joined_design d e) ≡ front_bytes d.m d.s (d.k + e.k) (map (entry e.box) d.box) ++ (stages_bytes d.stages ++ (stages_bytes e.stages ++ end_record))
  pieces =
      encode_pieces (joined_design d e)
      ∙ ap (λ (x : List ℕ). front_bytes d.m d.s (d.k + e.k) (map (entry e.box) d.box) ++ x)
      (ap (λ (x : List ℕ). x ++ end_record) (concat_map_append stage_bytes d.stages e.stages) ∙ append_assoc (stages_bytes d.stages) (stages_bytes e.stages) end_record)

  -- as long as the file of the first with the stages of the second
  pub joined_length : (f : List ℕ) → Bytes f → reading f ≡ means d → (stages : List ℕ) → stages ≡ stages_bytes e.stages
      → length f + length stages ≡ length (encode (joined_design d e))
  joined_length f b r stages es =
      omega (
        arith,
        ap length es,
        ap length (read_encodes f d b r) ∙ parts_length d,
        parts_length (joined_design d e),
        length-map d.box (entry e.box),
        ap length (concat_map_append stage_bytes d.stages e.stages) ∙ length-append (stages_bytes d.stages) (stages_bytes e.stages),
      )

module _ (d e : Design) (em : d.m ≡ e.m) (v : WellFormed d) (w : WellFormed e) (t u : List ℕ) (et : t ≡ d.box) (eu : u ≡ e.box) where
  box_few : length t ≤ greatest_points
  box_few = omega (arith, ap length et, v.box.size, pow_mono (bounds d.m d.s d.k v.limits).m_high)

  pub box_through : Through t u
  box_through = rw (et, eu) (record { size = rw et at box_few; below = λ x l. omega (arith, v.box.below x (omega (arith, v.box.size)), w.box.size, ap (λ (n : ℕ). 2 ^ n) em) })

pub stages_byte : (k n : ℕ) → k + n ≤ greatest_stages → k + n < 256
stages_byte k n h = omega arith

module _ (d e : Design) (t u b : List ℕ) (et : t ≡ d.box) (eu : u ≡ e.box) (eb : b ≡ map (entry u) t) where
  box_is : b ≡ map (entry e.box) d.box
  box_is = eb ∙ ap₂ (λ (x y : List ℕ). map (entry y) x) et eu

  module _ (w : Writer) (r : Room w (encode (joined_design d e))) where
    room : Room w (front_bytes d.m d.s (d.k + e.k) b ++ (stages_bytes d.stages ++ (stages_bytes e.stages ++ end_record)))
    room = rw box_is (subst (Room w) (pieces d e) r)

    pub front_room : Room w (front_bytes d.m d.s (d.k + e.k) b)
    front_room = room_first w _ _ room

    module _ (w₁ : Writer) (g₁ : Writes w w₁ (front_bytes d.m d.s (d.k + e.k) b)) where
      room₁ : Room w₁ (stages_bytes d.stages ++ (stages_bytes e.stages ++ end_record))
      room₁ = room_then w w₁ _ g₁ _ room

      module _ (first : List ℕ) (e₁ : first ≡ stages_bytes d.stages) where
        pub first_room : Room w₁ first
        first_room = rw e₁ (room_first w₁ _ _ room₁)

        module _ (w₂ : Writer) (g₂ : Writes w₁ w₂ first) where
          room₂ : Room w₂ (stages_bytes e.stages ++ end_record)
          room₂ = room_then w₁ w₂ _ (rw e₁ at g₂) _ room₁

          module _ (second : List ℕ) (e₂ : second ≡ stages_bytes e.stages) where
            pub second_room : Room w₂ second
            second_room = rw e₂ (room_first w₂ _ _ room₂)

            module _ (w₃ : Writer) (g₃ : Writes w₂ w₃ second) where
              pub end_room : Room w₃ end_record
              end_room = room_then w₂ w₃ _ (rw e₂ at g₃) _ room₂

              pub file_written : (w₄ : Writer) → Writes w₃ w₄ end_record → Writes w w₄ (encode (joined_design d e))
              file_written w₄ g₄ =
                  subst (Writes w w₄)
                  (ap (λ (x : List ℕ). front_bytes d.m d.s (d.k + e.k) x ++ (stages_bytes d.stages ++ (stages_bytes e.stages ++ end_record))) box_is ∙ sym (pieces d e))
                  (writes_then w w₁ _ g₁ w₄ _ _ r (writes_then w₁ w₂ _ (rw e₁ at g₂) w₄ _ _ room₁ (writes_then w₂ w₃ _ (rw e₂ at g₃) w₄ _ _ room₂ g₄)))
