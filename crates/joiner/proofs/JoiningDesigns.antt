-- The ways out of joining over plain values, each premise as the code has it: of the files f and g, and of the designs d and e.
-- Assumes nothing.
use mathlib.Core.Path.{◌≡◌, sym, ap₂, ◌∙◌}
use mathlib.Core.List.{List}
use Prim.Native.Nat.{ℕ, ◌+◌, ◌≤◌, ◌<◌}
use lib.ListN.{length}
use Rattle.std.specs.Prelude.{Ok, Err}
use Rattle.std.specs.Borrow.{MutBor}
use Rattle.reasons.specs.declared.Reason.{Reason}
use Rattle.reasons.specs.declared.Reason.TheVariants.{SharesDiffer, TooManyStages, OutputTooShort}
use Rattle.reasons.specs.Numbers.{number}
use Rattle.records.specs.Bytes.{Bytes}
use Rattle.records.specs.Design.{Design}
use Rattle.records.specs.Encode.{stages_bytes, encode}
use Rattle.records.specs.Writing.{Produced, writing_answer, writing_after, produced_of}
use Rattle.records.specs.Inside.Writes.{Starts, Room, Writes}
use Rattle.records.specs.declared.writer.Writer.{Writer}
use Rattle.records.proofs.Output.{Answered, refused as refused_for}
use Rattle.records.proofs.Output as output
use Rattle.design.specs.Limits.{greatest_stages}
use Rattle.design.specs.Reading.{refused, means, reading}
use Rattle.joiner.specs.Joining.{joined_design, joined, designs_reason, joined_reason, joining, joined_after}
use Rattle.joiner.specs.Inside.Designs.{designs_joining, designs_joined_after}
use Rattle.joiner.proofs.JoinedDesign.{joined_is}
use Rattle.joiner.proofs.JoinedFile.{joined_length}
use Rattle.joiner.proofs.Reasons.{differ_answered, exceed_answered, room_answered, first_answered, second_answered, both_answered}

-- ---- `join`: one of the files does not read, with reason r, or they read as d and e

module _ (f g : List ℕ) where
  module _ (r : Reason) (p : ℕ) (out : List ℕ) where
    pub first_unread : refused (number r) p ≡ reading f → Answered (joined_reason f g (length out)) (joined f g) out (produced_of (Err r)) out
    first_unread e = refused_for _ _ out r (first_answered f g (length out) _ _ (sym e))

    pub second_unread : refused (number r) p ≡ reading g → (d : Design) → means d ≡ reading f
        → Answered (joined_reason f g (length out)) (joined f g) out (produced_of (Err r)) out
    second_unread e d a = refused_for _ _ out r (second_answered f g (length out) d _ _ (sym a) (sym e))

  module _ (d e : Design) (a : means d ≡ reading f) (b : means e ≡ reading g) where
    reason_is : (room : ℕ) → designs_reason d e room ≡ joined_reason f g room
    reason_is room = sym (both_answered f g room d e (sym a) (sym b))

    file_is : encode (joined_design d e) ≡ joined f g
    file_is = sym (joined_is f g d e (sym a) (sym b))

    pub same_answer : (room : ℕ) (r : Produced) → r ≡ designs_joining d e room → r ≡ joining f g room
    same_answer room r q = q ∙ ap₂ writing_answer (reason_is room) file_is

    pub same_output : (out after : List ℕ) → after ≡ designs_joined_after d e out → after ≡ joined_after f g out
    same_output out after q = q ∙ ap₂ (λ (i : ℕ) (x : List ℕ). writing_after i x out) (reason_is (length out)) file_is

-- ---- `join_designs`

module _ (d e : Design) where
  abbrev Leaves : List ℕ → Reason → Type 0
  Leaves out k = Answered (designs_reason d e (length out)) (encode (joined_design d e)) out (produced_of (Err k)) out

  pub other_width : (d.m ≡ e.m → ⊥) → (out : List ℕ) → Leaves out SharesDiffer
  other_width z out = refused_for _ _ out SharesDiffer (differ_answered d e (length out) (λ p. z p.0))

  pub other_shares : (d.s ≡ e.s → ⊥) → (out : List ℕ) → Leaves out SharesDiffer
  other_shares z out = refused_for _ _ out SharesDiffer (differ_answered d e (length out) (λ p. z p.1))

  module _ (em : d.m ≡ e.m) (es : d.s ≡ e.s) where
    pub too_many : greatest_stages < d.k + e.k → (out : List ℕ) → Leaves out TooManyStages
    too_many h out = refused_for _ _ out TooManyStages (exceed_answered d e (length out) em es h)

  -- what is written is as long as the file f of the first with the stages of the second
  module _ (f : List ℕ) (b : Bytes f) (r : reading f ≡ means d) (stages : List ℕ) (y : stages ≡ stages_bytes e.stages) (out : List ℕ) where
    pub too_short : d.m ≡ e.m → d.s ≡ e.s → d.k + e.k ≤ greatest_stages → length out < length f + length stages → Leaves out OutputTooShort
    too_short em es few = output.too_short _ out _ (joined_length d e f b r stages y) _ (room_answered d e (length out) em es few)

    module _ (h : length f + length stages ≤ length out) (m : MutBor (List ℕ)) (q : m.now ≡ out) (w : Writer) (s : Starts m w) where
      pub file_room : Room w (encode (joined_design d e))
      file_room = output.file_room _ out _ (joined_length d e f b r stages y) h m q w s

      pub file_written : d.m ≡ e.m → d.s ≡ e.s → d.k + e.k ≤ greatest_stages → (w₁ : Writer) → Writes w w₁ (encode (joined_design d e))
          → (after : List ℕ) → (m.ghost_name ≡ w₁.out.ghost_name → after ≡ w₁.out.now)
          → Answered (designs_reason d e (length out)) (encode (joined_design d e)) out (produced_of (Ok (length f + length stages))) after
      file_written em es few = output.file_written _ out _ (joined_length d e f b r stages y) h m q w s _ (room_answered d e (length out) em es few)
