-- How much output is always enough for joining: the joined file has one head, one box and one end less than the two files, and all their stages.
-- Assumes nothing.
use mathlib.Core.Path.{◌≡◌, ap, ◌∙◌}
use mathlib.Core.Logic.{◌≢◌}
use mathlib.Core.List.{List, ◌++◌, map}
use Prim.Native.Nat.{ℕ, ◌+◌, ◌^◌, ◌≤◌}
use native.Mathlib.Omega.{arith}
use lib.ListN.{length, length-append}
use Rattle.records.specs.Bytes.{Bytes}
use Rattle.std.specs.List.{concat}
use Rattle.records.proofs.Concat.{concat_map_append}
use Rattle.records.specs.Design.{Stage, Design}
use Rattle.records.specs.Encode.{stage_bytes}
use Rattle.design.specs.Reading.{means, reading}
use Rattle.design.proofs.FileLength.{parts_length}
use Rattle.design.proofs.Theorems.{read_formed, read_encodes}
use Rattle.joiner.specs.Joining.{joined_design, joined, joined_reason, Joinable}
use Rattle.joiner.proofs.JoinedDesign.{joined_formed, joined_is}
use Rattle.joiner.proofs.Reasons.{joined_seventeen}

abbrev stages_length : List Stage → ℕ
stages_length gs = length (concat (map stage_bytes gs))

stages_length_lem : (a b : List Stage) → stages_length (a ++ b) ≡ stages_length a + stages_length b
stages_length_lem a b = ap length (concat_map_append stage_bytes a b) ∙ length-append (concat (map stage_bytes a)) (concat (map stage_bytes b))

-- a file that reads: head, box and end, and its stages
read_length : (f : List ℕ) (d : Design) → Bytes f → reading f ≡ means d → length f ≡ 2 ^ d.m + 15 + stages_length d.stages
read_length f d b e =
    let q = ap length (read_encodes f d b e) ∙ parts_length d in
    omega (arith, q, (read_formed f d e).box.size)

module _ (f g : List ℕ) (d e : Design) (j : Joinable f g d e) where
  pub joined_length : Bytes f → Bytes g → length (joined f g) + (2 ^ d.m + 15) ≡ length f + length g
  joined_length bf bg =
      omega (
        arith,
        read_length f d bf j.first,
        read_length g e bg j.second,
        ap (λ (m : ℕ). 2 ^ m) j.width,
        ap length (joined_is f g d e j.first j.second) ∙ parts_length (joined_design d e),
        (joined_formed f g d e j).box.size,
        stages_length_lem d.stages e.stages,
      )

-- so an output as long as both files is always enough
pub joined_room : (f g : List ℕ) (room : ℕ) → Bytes f → Bytes g → length f + length g ≤ room → joined_reason f g room ≢ 17
joined_room f g room bf bg h z =
    let p = (joined_seventeen f g room).0 z in
    omega (arith, p.3, joined_length f g p.0 p.1 p.2 bf bg)
