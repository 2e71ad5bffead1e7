-- The pieces of a file: those of a whole file, those of one stage and those of stages of two designs; and the records of lists, written one behind the other.
use mathlib.Core.Path.{◌≡◌, sym, ap, ◌∙◌, subst}
use mathlib.Core.List.{List, [], ◌∷◌, ◌++◌, append_assoc, append-nil}
use Prim.Native.Nat.{ℕ, ◌+◌, ◌<◌}
use native.Mathlib.Omega.{arith}
use lib.ListN.{length, get_or, take, length-append}
use Rattle.records.specs.Design.{Stage, Design}
use Rattle.records.specs.Records.{a_record, list_record, end_record}
use Rattle.records.specs.Encode.{front_bytes, lists_bytes, stage_bytes, stages_bytes, encode}
use Rattle.records.specs.Inside.Writes.{Room, Writes}
use Rattle.records.specs.declared.writer.Writer.{Writer}
use Rattle.records.proofs.ListRecords.{records_more, records_none, records_within}
use Rattle.records.proofs.Writes.{room_then, writes_then, nothing_written}

-- its front, its stages and the end
pub encode_pieces : (d : Design) → encode d ≡ front_bytes d.m d.s d.k d.box ++ (stages_bytes d.stages ++ end_record)
unfolding encode
encode_pieces d = sym (append_assoc (a_record 1 (d.m ∷ d.s ∷ d.k ∷ [])) (a_record 2 d.box) (stages_bytes d.stages ++ end_record))

-- one stage: its table and its lists
pub stage_pieces : (g : Stage) (rest : List ℕ) → stages_bytes (g ∷ []) ++ rest ≡ a_record 2 g.table ++ (lists_bytes g.lists ++ rest)
unfolding stage_bytes
stage_pieces g rest =
    ap (λ (x : List ℕ). x ++ rest) (append-nil (a_record 2 g.table ++ lists_bytes g.lists)) ∙ append_assoc (a_record 2 g.table) (lists_bytes g.lists) rest

-- ---- lists: w is the writer at first, with room for all, w₁ after the first i, w₂ after one more

pub no_list : (ls : List (List ℕ)) (w : Writer) → Writes w w (lists_bytes (take 0 ls))
no_list ls w = subst (Writes w w) (sym (records_none ls)) (nothing_written w)

module _ (ls : List (List ℕ)) (w w₁ : Writer) (r : Room w (lists_bytes ls)) (i : ℕ) (h : i < length ls) (g : Writes w w₁ (lists_bytes (take i ls))) where
  pub list_room : Room w₁ (list_record (get_or ls i []))
  list_room =
      room_then w w₁ _ g (list_record (get_or ls i []))
      (record { within = omega (arith, r.within, records_within ls i h, length-append (lists_bytes (take i ls)) (list_record (get_or ls i []))) })

  pub list_more : (w₂ : Writer) → Writes w₁ w₂ (list_record (get_or ls i [])) → Writes w w₂ (lists_bytes (take (i + 1) ls))
  list_more w₂ g₂ = subst (Writes w w₂) (sym (records_more ls i h)) (writes_then w w₁ _ g w₂ _ _ r g₂)
