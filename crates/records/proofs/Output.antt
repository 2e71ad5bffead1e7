-- What is answered of a file that is written, and what is left in the output, on a refusal and on success, whatever the file is.
-- Assumes nothing.
use mathlib.Core.Path.{◌≡◌, refl, sym, ap, ◌∙◌}
use mathlib.Core.Logic.{◌≢◌}
use mathlib.Core.List.{List, [], ◌∷◌, ◌++◌}
use Prim.Native.Nat.{ℕ, ◌≤◌, ◌<◌}
use native.Mathlib.Omega.{arith}
use lib.Dec.{eqb, ltb}
use lib.ListN.{length, take, drop}
use lib.Seq.{take-append_seam, drop-append_seam}
use borrow.Author.Tests.{eq-eqb, ne_eqb, lt-ltb, le-ltb}
use Rattle.finite.proofs.Testing.{pick_true, pick_false}
use Rattle.finite.specs.Faults.{first_fault}
use Rattle.finite.proofs.Faults.{fault_here, fault_past, fault_none}
use Rattle.std.specs.Prelude.{Ok, Err}
use Rattle.std.specs.Borrow.{MutBor}
use Rattle.reasons.specs.Numbers.{number}
use Rattle.reasons.specs.declared.Reason.{Reason}
use Rattle.reasons.specs.declared.Reason.TheVariants.{OutputTooShort}
use Rattle.reasons.proofs.Numbers.{number_some}
use Rattle.records.specs.Writing.{Produced, writing_answer, writing_after, produced_of}
use Rattle.records.specs.Inside.Overwriting.{overwrite}
use Rattle.records.specs.Inside.Writes.{Starts, Room, Writes}
use Rattle.records.specs.declared.writer.Writer.{Writer}
use Rattle.records.proofs.Overwriting.{overwrite_front}
use Rattle.records.proofs.Writes.{whole_written}

module _ (reason : ℕ) (file : List ℕ) where
  -- ---- a refusal

  refusal_answer : reason ≢ 0 → record { reason = reason; length = 0 } ≡ writing_answer reason file
  unfolding writing_answer
  refusal_answer n = rw (ne_eqb reason 0 n) refl

  pub refusal_after : reason ≢ 0 → (out : List ℕ) → writing_after reason file out ≡ out
  unfolding writing_after
  refusal_after n out = pick_false (eqb reason 0) _ out (ne_eqb reason 0 n)

  -- ---- success

  success_answer : reason ≡ 0 → record { reason = 0; length = length file } ≡ writing_answer reason file
  unfolding writing_answer
  success_answer e = rw e refl

  success_after : reason ≡ 0 → (out : List ℕ) → writing_after reason file out ≡ file ++ drop (length file) out
  unfolding writing_after
  success_after e out = pick_true (eqb reason 0) _ out (eq-eqb reason 0 e)

  -- the file is written over the front of the output
  pub success_written : reason ≡ 0 → (out : List ℕ) → overwrite out 0 file ≡ writing_after reason file out
  success_written e out = overwrite_front out file ∙ sym (success_after e out)

  -- so it stands there, whatever stood there before
  pub success_file : reason ≡ 0 → (out : List ℕ) → take (length file) (writing_after reason file out) ≡ file
  success_file e out = ap (take (length file)) (success_after e out) ∙ take-append_seam file (drop (length file) out)

  -- and past it nothing has changed
  pub success_rest : reason ≡ 0 → (out : List ℕ) → drop (length file) (writing_after reason file out) ≡ drop (length file) out
  success_rest e out = ap (drop (length file)) (success_after e out) ∙ drop-append_seam file (drop (length file) out)

-- ---- as code has it: r is answered, and the output is `after`

pub record Answered (reason : ℕ) (file out : List ℕ) (r : Produced) (after : List ℕ) : Type 0 where
  pub answer : r ≡ writing_answer reason file
  pub output : after ≡ writing_after reason file out

-- as a contract has it
pub answered : {reason : ℕ} {file out : List ℕ} {r : Produced} {after : List ℕ} → Answered reason file out r after
    → record { value : r ≡ writing_answer reason file; output_after : after ≡ writing_after reason file out }
answered a = record { value = a.answer; output_after = a.output }

module _ (reason : ℕ) (file out : List ℕ) where
  -- refused for the reason k
  pub refused : (k : Reason) → reason ≡ number k → Answered reason file out (produced_of (Err k)) out
  refused k e =
      let n : reason ≢ 0 = λ z. number_some k (sym e ∙ z) in
      record { answer = rw (sym e) (refusal_answer reason file n); output = sym (refusal_after reason file n out) }

  -- written, with this length
  pub written : (size : ℕ) (after : List ℕ) → size ≡ length file → reason ≡ 0 → after ≡ overwrite out 0 file → Answered reason file out (produced_of (Ok size)) after
  written size after es e w = record { answer = rw es (success_answer reason file e); output = w ∙ success_written reason file e out }

-- ---- a file that is written if it fits: k is its length, b the output as the writer w gets it

module _ (file out : List ℕ) (k : ℕ) (ek : k ≡ length file) where
  module _ (reason : ℕ) (last : reason ≡ first_fault ((ltb (length out) (length file), 17) ∷ []) 0) where
    pub too_short : length out < k → Answered reason file out (produced_of (Err OutputTooShort)) out
    too_short h = refused reason file out OutputTooShort (last ∙ fault_here _ 17 _ 0 (lt-ltb _ _ (rw ek at h)))

  module _ (h : k ≤ length out) (b : MutBor (List ℕ)) (eb : b.now ≡ out) (w : Writer) (s : Starts b w) where
    pub file_room : Room w file
    file_room = record { within = omega (arith, s.place, ap length s.output, ap length eb) }

    module _ (reason : ℕ) (last : reason ≡ first_fault ((ltb (length out) (length file), 17) ∷ []) 0) where
      pub file_written : (w₁ : Writer) → Writes w w₁ file → (after : List ℕ) → (b.ghost_name ≡ w₁.out.ghost_name → after ≡ w₁.out.now)
          → Answered reason file out (produced_of (Ok k)) after
      file_written w₁ g after q =
          written reason file out k after ek (last ∙ fault_past _ 17 _ 0 (le-ltb _ _ (rw ek at h)) ∙ fault_none 0)
          (whole_written b w w₁ file after s g q ∙ ap (λ (x : List ℕ). overwrite x 0 file) eb)
