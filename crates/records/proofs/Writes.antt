-- What a writer writes: bytes that follow one another are written as one, so a head and a body are a record, and a head and terms the record of a list; and
-- room for them is room for each.
-- w is the writer at first, w₁, w₂ after each step.
use mathlib.Core.Path.{◌≡◌, refl, sym, ap, ap₂, ◌∙◌, subst}
use mathlib.Core.List.{List, [], ◌∷◌, ◌++◌, append_assoc}
use Prim.Native.Nat.{ℕ, ◌+◌, ◌-◌, ◌*◌, ◌/◌, ◌%◌, ◌^◌, ◌≤◌, ◌<◌}
use native.Mathlib.Omega.{arith}
use lib.ListN.{length, length-append, length-take, length-drop, get_or, take, drop}
use lib.Seq.{drop-drop, take_all}
use borrow.Rule.Slice.PartMut.{mid_of, put_mid}
use mir.Val.{Fits}
use Rattle.std.proofs.lemmas.List.{length-take-le}
use Rattle.finite.proofs.Copying.{copied_whole}
use Rattle.std.specs.Int.{w16, w32, to_le_bytes}
use Rattle.records.specs.Bytes.{two, four, term_bytes}
use Rattle.records.specs.Records.{record_head, a_record, list_record, end_record}
use Rattle.records.specs.declared.writer.Writer.{Writer}
use Rattle.records.specs.Inside.Overwriting.{overwrite}
use Rattle.std.specs.Borrow.{MutBor}
use Rattle.records.specs.Encode.{front_bytes}
use Rattle.records.specs.Inside.Writes.{Starts, Room, Writes}
use Rattle.records.proofs.TermBytes.{length_term_bytes}
use Rattle.records.proofs.Overwriting.{overwrite_nil, overwrite_append}
use Rattle.records.proofs.ListRecords.{record_length, two_records_length, term_bytes_more, taken_length}

-- a part of the output over whose front these bytes are written, and which is no longer than they
pub part_written : (l b part : List ℕ) (at : ℕ) → at + length b ≤ length l → part ≡ b ++ drop (length b) (mid_of at (at + length b - at) l)
    → put_mid at (at + length b - at) l part ≡ overwrite l at b
unfolding overwrite
part_written l b part at h c =
    let n : at + length b - at ≡ length b = omega arith in
    let size : length b ≡ length (mid_of at (at + length b - at) l) = rw n (sym (length-take-le (length b) (drop at l) (omega (arith, length-drop at l)))) in
    let e : part ≡ b = copied_whole b (mid_of at (at + length b - at) l) part size c in
    rw (e, n) (ap (λ (x : List ℕ). take at l ++ (b ++ x)) (drop-drop (length b) at l) ∙ sym (append_assoc (take at l) b (drop (at + length b) l)))

overwrite_length : (l : List ℕ) (at : ℕ) (b : List ℕ) → at + length b ≤ length l → length (overwrite l at b) ≡ length l
unfolding overwrite
overwrite_length l at b h =
    simp (length-append, length-drop) (omega (arith, length-take at l))

-- ---- the law of room: where there is room for bytes one behind the other, there is for the first, and then for what follows them

pub room_first : (w : Writer) (a b : List ℕ) → Room w (a ++ b) → Room w a
room_first w a b r = record { within = omega (arith, r.within, length-append a b) }

module _ (w w₁ : Writer) (a : List ℕ) (g : Writes w w₁ a) where
  pub room_then : (b : List ℕ) → Room w (a ++ b) → Room w₁ b
  room_then b r = record {
    within =
        omega (arith, r.within, length-append a b, g.place, ap length g.output, overwrite_length w.out.now w.at a (omega (arith, r.within, length-append a b)));
  }

  -- what is written behind it and it are written as one
  pub writes_then : (w₂ : Writer) (b c : List ℕ) → Room w c → Writes w₁ w₂ b → Writes w w₂ (a ++ b)
  writes_then w₂ b c r h = record {
    same = h.same ∙ g.same;
    output = h.output ∙ ap₂ (λ (x : List ℕ) (y : ℕ). overwrite x y b) g.output g.place ∙ overwrite_append w.out.now w.at a (omega (arith, r.within)) b;
    place = omega (arith, g.place, h.place, length-append a b);
  }

-- ---- a head: its two numbers

two_bytes : (n : ℕ) → n < 65536 → to_le_bytes w16 n ≡ two n
two_bytes n h = ap₂ (λ (a b : ℕ). a ∷ b ∷ []) refl (omega arith)

module _ (w : Writer) (size k : ℕ) (r : Room w (record_head size k)) (a b : List ℕ) (ea : a ≡ to_le_bytes w16 size) where
  pub size_room : Room w a
  size_room = record { within = omega (arith, r.within, ap length ea) }

  module _ (n : ℕ) (eb : b ≡ to_le_bytes w16 n) (w₁ : Writer) (g : Writes w w₁ a) where
    pub kind_room : Room w₁ b
    kind_room = room_then w w₁ a g b (record { within = omega (arith, r.within, length-append a b, ap length ea, ap length eb) })

    pub head_written : n ≡ k → Fits w16 n → size < 65536 → (w₂ : Writer) → Writes w₁ w₂ b → Writes w w₂ (record_head size k)
    head_written en f l w₂ g₂ =
        subst (Writes w w₂) (ap₂ ◌++◌ (ea ∙ two_bytes size l) (eb ∙ two_bytes n f.fits ∙ ap two en)) (writes_then w w₁ a g w₂ b _ r g₂)

-- ---- a record: its head, then its body. There is room whatever the head's two numbers are.

module _ (w : Writer) (kind : ℕ) (body : List ℕ) (r : Room w (a_record kind body)) (n k : ℕ) where
  pub head_room : Room w (record_head n k)
  head_room = record { within = omega (arith, r.within, record_length kind body) }

  module _ (w₁ : Writer) (g : Writes w w₁ (record_head n k)) where
    pub body_room : Room w₁ body
    body_room = room_then w w₁ _ g body (record { within = omega (arith, r.within, record_length kind body, length-append (record_head n k) body) })

pub record_written : (w : Writer) (kind : ℕ) (body : List ℕ) → Room w (a_record kind body) → (w₁ : Writer) → Writes w w₁ (record_head (length body) kind)
    → (w₂ : Writer) → Writes w₁ w₂ body → Writes w w₂ (a_record kind body)
unfolding a_record
record_written w kind body r w₁ g w₂ g₂ = writes_then w w₁ _ g w₂ body _ r g₂

pub end_room : (w : Writer) → Room w end_record → (k : ℕ) → Room w (record_head 0 k)
end_room w r k = head_room w 4 [] r 0 k

pub end_written : (w w₁ : Writer) → Writes w w₁ (record_head 0 4) → Writes w w₁ end_record
unfolding a_record
end_written w w₁ g = g

-- ---- the front of a file: the record of the head, then that of the box. There is room whatever the head's three numbers are.

module _ (w : Writer) (m s k : ℕ) (box : List ℕ) (r : Room w (front_bytes m s k box)) (x y z : ℕ) where
  any_numbers : Room w (front_bytes x y z box)
  any_numbers = record { within = omega (arith, r.within, two_records_length 1 2 (m ∷ s ∷ k ∷ []) box, two_records_length 1 2 (x ∷ y ∷ z ∷ []) box) }

  pub numbers_room : Room w (a_record 1 (x ∷ y ∷ z ∷ []))
  numbers_room = room_first w _ _ any_numbers

  pub box_room : (w₁ : Writer) → Writes w w₁ (a_record 1 (x ∷ y ∷ z ∷ [])) → Room w₁ (a_record 2 box)
  box_room w₁ g = room_then w w₁ _ g _ any_numbers

pub front_written : (w : Writer) (m s k : ℕ) (box : List ℕ) → Room w (front_bytes m s k box) → (w₁ : Writer) → Writes w w₁ (a_record 1 (m ∷ s ∷ k ∷ []))
    → (w₂ : Writer) → Writes w₁ w₂ (a_record 2 box) → Writes w w₂ (front_bytes m s k box)
front_written w m s k box r w₁ g w₂ g₂ = writes_then w w₁ _ g w₂ _ _ r g₂

-- ---- the record of a list: its head, then its terms. w is the writer at first, w₀ behind the head, w₁ at a turn, w₂ after it.

four_bytes : (n : ℕ) → n < 2 ^ 32 → to_le_bytes w32 n ≡ four n
four_bytes n h = ap₂ (λ (a b : ℕ). n % 256 ∷ n / 256 % 256 ∷ a ∷ b ∷ []) (omega arith) (omega arith)

pub nothing_written : (w : Writer) → Writes w w []
nothing_written w = record { same = refl; output = sym (overwrite_nil w.out.now w.at); place = omega arith }

pub no_term_written : (w : Writer) (ts : List ℕ) → Writes w w (term_bytes (take 0 ts))
unfolding term_bytes
no_term_written w ts = nothing_written w

module _ (w : Writer) (ts : List ℕ) (r : Room w (list_record ts)) where
  pub list_head_room : (n k : ℕ) → Room w (record_head n k)
  list_head_room = head_room w 3 (term_bytes ts) r

  module _ (w₀ : Writer) (g₀ : Writes w w₀ (record_head (4 * length ts) 3)) where
    g₀' : Writes w w₀ (record_head (length (term_bytes ts)) 3)
    g₀' = rw (length_term_bytes ts) g₀

    behind_head : Room w₀ (term_bytes ts)
    behind_head = body_room w 3 (term_bytes ts) r (length (term_bytes ts)) 3 w₀ g₀'

    module _ (w₁ : Writer) (i : ℕ) (g : Writes w₀ w₁ (term_bytes (take i ts))) where
      pub term_room : i < length ts → (t : ℕ) (b : List ℕ) → b ≡ to_le_bytes w32 t → Room w₁ b
      term_room h t b eb =
          room_then w₀ w₁ _ g b
          (record { within = omega (arith, behind_head.within, length_term_bytes ts, length-append (term_bytes (take i ts)) b, taken_length ts i, ap length eb) })

      pub term_written : i < length ts → ((k : ℕ) → Fits w32 (get_or ts k 0)) → (b : List ℕ) → b ≡ to_le_bytes w32 (get_or ts i 0) → (w₂ : Writer) → Writes w₁ w₂ b
          → Writes w₀ w₂ (term_bytes (take (i + 1) ts))
      term_written h f b eb w₂ g₂ =
          subst (Writes w₀ w₂) (ap (λ (x : List ℕ). term_bytes (take i ts) ++ x) (eb ∙ four_bytes (get_or ts i 0) (f i).fits) ∙ sym (term_bytes_more ts i h))
          (writes_then w₀ w₁ _ g w₂ b _ behind_head g₂)

      pub list_written : length ts ≤ i → Writes w w₁ (list_record ts)
      list_written h = record_written w 3 (term_bytes ts) r w₀ g₀' w₁ (rw (take_all i ts h) at g)

-- ---- an output that a writer wrote, once it is let go: b is the output as the writer got it

pub whole_written : (b : MutBor (List ℕ)) (w w₁ : Writer) (file after : List ℕ) → Starts b w → Writes w w₁ file → (b.ghost_name ≡ w₁.out.ghost_name → after ≡ w₁.out.now)
    → after ≡ overwrite b.now 0 file
whole_written b w w₁ file after s g e =
    e (sym s.same ∙ sym g.same) ∙ g.output ∙ ap₂ (λ (x : List ℕ) (y : ℕ). overwrite x y file) s.output s.place
