-- The records of lists: how long one is, and those of some lists, one behind the other.
use mathlib.Core.Path.{◌≡◌, refl, sym, ap, ap₂, ◌∙◌}
use mathlib.Core.List.{List, [], ◌∷◌, ◌++◌, append_assoc}
use Prim.Native.Nat.{ℕ, ◌+◌, ◌*◌, ◌≤◌, ◌<◌}
use native.Mathlib.Numerals.{add-one}
use native.Mathlib.Omega.{arith}
use lib.ListN.{length, get_or, take, drop, length-take, length-append, take-append-drop}
use lib.Seq.{take-suc}
use Rattle.records.specs.Bytes.{four, term_bytes}
use Rattle.records.specs.Records.{a_record, list_record}
use Rattle.records.specs.Encode.{lists_bytes}
use Rattle.records.proofs.Concat.{concat_map_append, concat_more}
use Rattle.records.proofs.TermBytes.{length_term_bytes}

-- ---- one record

pub record_length : (kind : ℕ) (b : List ℕ) → length (a_record kind b) ≡ 4 + length b
unfolding a_record
record_length kind b = omega arith

pub two_records_length : (j k : ℕ) (a b : List ℕ) → length (a_record j a ++ a_record k b) ≡ 4 + length a + (4 + length b)
two_records_length j k a b = length-append (a_record j a) (a_record k b) ∙ ap₂ ◌+◌ (record_length j a) (record_length k b)

-- ---- terms

term_bytes_append : (a b : List ℕ) → term_bytes (a ++ b) ≡ term_bytes a ++ term_bytes b
unfolding term_bytes
term_bytes_append [] b = refl
term_bytes_append (t ∷ a) b = ap (λ (l : List ℕ). four t ++ l) (term_bytes_append a b) ∙ sym (append_assoc (four t) (term_bytes a) (term_bytes b))

pub term_bytes_more : (l : List ℕ) (j : ℕ) → j < length l → term_bytes (take (j + 1) l) ≡ term_bytes (take j l) ++ four (get_or l j 0)
unfolding term_bytes
term_bytes_more l j h =
    ap (λ (k : ℕ). term_bytes (take k l)) (add-one j) ∙ ap term_bytes (take-suc l j 0 h) ∙ term_bytes_append (take j l) (get_or l j 0 ∷ [])

pub taken_length : (l : List ℕ) (n : ℕ) → n ≤ length l → length (term_bytes (take n l)) ≡ 4 * n
taken_length l n h = length_term_bytes (take n l) ∙ omega (arith, length-take n l)

-- ---- the records of lists, one behind the other

records_append : (a b : List (List ℕ)) → lists_bytes (a ++ b) ≡ lists_bytes a ++ lists_bytes b
unfolding lists_bytes
records_append a b = concat_map_append list_record a b

pub records_none : (ls : List (List ℕ)) → lists_bytes (take 0 ls) ≡ []
unfolding lists_bytes
records_none ls = refl

pub records_more : (ls : List (List ℕ)) (i : ℕ) → i < length ls → lists_bytes (take (i + 1) ls) ≡ lists_bytes (take i ls) ++ list_record (get_or ls i [])
unfolding lists_bytes
records_more ls i h = concat_more list_record ls i [] h

pub records_within : (ls : List (List ℕ)) (i : ℕ) → i < length ls → length (lists_bytes (take i ls)) + length (list_record (get_or ls i [])) ≤ length (lists_bytes ls)
records_within ls i h =
    omega (
      arith,
      ap length (records_more ls i h),
      length-append (lists_bytes (take i ls)) (list_record (get_or ls i [])),
      ap length (ap lists_bytes (sym (take-append-drop (i + 1) ls)) ∙ records_append (take (i + 1) ls) (drop (i + 1) ls)),
      length-append (lists_bytes (take (i + 1) ls)) (lists_bytes (drop (i + 1) ls)),
    )
