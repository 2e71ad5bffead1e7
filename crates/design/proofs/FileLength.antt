-- How long the file of a design is.
use Prim.Native.Nat.{ℕ, ◌+◌, ◌*◌}
use mathlib.Core.Path.{◌≡◌, ap, ◌∙◌}
use mathlib.Core.List.{[], ◌++◌, map}
use native.Mathlib.Omega.{arith}
use lib.ListN.{length, get_or, length-append}
use Rattle.finite.specs.Tests.{total}
use Rattle.finite.proofs.Counting.{total_congr}
use Rattle.std.specs.List.{concat}
use Rattle.records.specs.Records.{a_record, list_record, end_record}
use Rattle.records.proofs.TermBytes.{length_term_bytes}
use Rattle.records.proofs.ListRecords.{record_length}
use Rattle.records.proofs.Concat.{concat_length}
use Rattle.records.specs.Design.{Stage, Design, no_stage, stage_of}
use Rattle.records.specs.Encode.{head_body, lists_bytes, stage_bytes, encode}

-- a stage: its table, and four bytes a list and a term
pub stage_length : (g : Stage) → length (stage_bytes g) ≡ 4 + length g.table + total (length g.lists) (λ l. 4 + 4 * length (get_or g.lists l []))
unfolding stage_bytes lists_bytes
stage_length g =
    let a = length-append (a_record 2 g.table) (concat (map list_record g.lists)) in
    let b = record_length 2 g.table in
    let c = concat_length list_record g.lists [] in
    let e =
    total_congr (length g.lists) (λ l. length (list_record (get_or g.lists l []))) (λ l. 4 + 4 * length (get_or g.lists l []))
    (λ l h. record_length 3 _ ∙ ap (λ (x : ℕ). 4 + x) (length_term_bytes _)) in
    omega arith

-- a file: the head, the box, the stages, the end
pub parts_length : (d : Design) → length (encode d) ≡ 7 + (4 + length d.box) + length (concat (map stage_bytes d.stages)) + 4
unfolding encode
parts_length d =
    let a = length-append (a_record 1 (head_body d)) (a_record 2 d.box ++ (concat (map stage_bytes d.stages) ++ end_record)) in
    let b = length-append (a_record 2 d.box) (concat (map stage_bytes d.stages) ++ end_record) in
    let c = length-append (concat (map stage_bytes d.stages)) end_record in
    let p = record_length 1 (head_body d) in
    let q = record_length 2 d.box in
    let r = record_length 4 [] in
    omega arith

-- stage by stage
pub encode_length : (d : Design) → length (encode d) ≡ 7 + (4 + length d.box) + total (length d.stages) (λ t. length (stage_bytes (stage_of d t))) + 4
encode_length d = let s = concat_length stage_bytes d.stages no_stage in let r = parts_length d in omega arith
