-- The ways out of producing over plain values, each premise as the code has it: zeros is what `words` is at first, words what the transform leaves of it, q
-- whether an entry repeats, d the degree that is found, k the length of the file.
use mathlib.Core.Path.{◌≡◌, refl, sym, ap, ◌∙◌}
use mathlib.Core.Bool.{Bool, true, false}
use mathlib.Core.List.{List}
use Prim.Native.Nat.{ℕ, ◌^◌, ◌≤◌, ◌<◌}
use native.Mathlib.Omega.{arith}
use lib.Pow.{pow_mono}
use lib.Dec.{eqb}
use lib.ListN.{length, get_or, take, length-take}
use borrow.Author.Tests.{eqb-true, eqb-false}
use Rattle.finite.specs.Maps.{repeats}
use Rattle.anf.specs.Tables.{entries_below, entry}
use Rattle.anf.specs.Inside.Words.{words_degree}
use Rattle.anf.specs.Transform.{greatest_width, transform_reason, transform_after}
use Rattle.anf.proofs.TransformAnswer.{InputPasses, reason_input, input_answer, uneven, large}
use Rattle.anf.specs.NormalForm.{degree}
use Rattle.design.specs.Limits.{Head, broken, checked}
use Rattle.design.proofs.Limits.{bounds, one_stage, head_refused, head_made}
use Rattle.std.specs.Prelude.{Result, Ok, Err}
use Rattle.std.specs.Borrow.{MutBor}
use Rattle.reasons.specs.Numbers.{number}
use Rattle.reasons.specs.declared.Reason.{Reason}
use Rattle.reasons.proofs.Numbers.{number_some}
use Rattle.reasons.specs.declared.Reason.TheVariants.{BoxRepeats, BadPlacement, DegreeTooHigh, OutputTooShort}
use Rattle.records.specs.Writing.{Produced, produced_of}
use Rattle.records.specs.Inside.Writes.{Starts, Room, Writes}
use Rattle.records.specs.declared.writer.Writer.{Writer}
use Rattle.records.proofs.Output.{Answered, refused as refused_for}
use Rattle.records.proofs.Output as output
use Rattle.direct.specs.Direct.{loads}
use Rattle.direct.specs.Inside.Placing.{Ruled, place_by}
use Rattle.direct.specs.declared.Rule.{Rule}
use Rattle.producer.specs.Producing.{produced, produced_reason, producing, output_after, produced_length}
use Rattle.producer.specs.Inside.Filing.{words_file}
use Rattle.producer.proofs.Tests.{TableTested, DegreeTested, reason_head, reason_size, reason_entry, reason_repeat, table_tested, reason_placement, reason_degree}
use Rattle.producer.proofs.Tests.{found_degree, found_ready, file_is, length_is}

-- refused for the reason k
abbrev Leaves : (m s : ℕ) → List ℕ → List ℕ → List ℕ → Reason → Type 0
Leaves m s t l out k = Answered (produced_reason m s t l (length out)) (produced m s t l) out (produced_of (Err k)) out

refuses : (m s : ℕ) (t l out : List ℕ) (k : Reason) → produced_reason m s t l (length out) ≡ number k → Leaves m s t l out k
refuses m s t l out k e = refused_for _ (produced m s t l) out k e

-- ---- `produce`: the head of m, s and one stage

pub beyond : (m s : ℕ) (r : Reason) → ◌≡◌ {A = Result Head Reason} (Err r) (checked m s 1) → (t l out : List ℕ) → Leaves m s t l out r
beyond m s r e t l out =
    let h = head_refused m s 1 r e in refuses m s t l out r (reason_head m s t l (length out) h.1 ∙ ap number (sym h.0))

module _ (m s : ℕ) (h : Head) (e : ◌≡◌ {A = Result Head Reason} (Ok h) (checked m s 1)) (t l out : List ℕ) where
  pub head_value : (r : Produced) → r ≡ producing h.m h.s t l (length out) → r ≡ producing m s t l (length out)
  head_value r p = p ∙ ap (λ (x : Head). producing x.m x.s t l (length out)) (head_made m s 1 h e)

  pub head_output : (after : List ℕ) → after ≡ output_after h.m h.s t l out → after ≡ output_after m s t l out
  head_output after p = p ∙ ap (λ (x : Head). output_after x.m x.s t l out) (head_made m s 1 h e)

-- ---- `produce_for`: j is the head's number of stages, which is not looked at

module _ (m s j : ℕ) (limits : broken m s j ≡ false) where
  points_most : 2 ^ m ≤ 64
  points_most = omega (arith, pow_mono (bounds m s j limits).m_high)

  pub points_within : (n : ℕ) → n ≡ 2 ^ m → (words : List ℕ) → length words ≡ 64 → n ≤ length words
  points_within n en words size = omega (arith, points_most)

  pub words_taken : (n : ℕ) → n ≡ 2 ^ m → (words : List ℕ) → length words ≡ 64 → n ≡ length (take n words)
  words_taken n en words size = omega (arith, points_most, length-take n words)

  pub all_words : (l : List ℕ) (rule : Rule) → Ruled m s l rule → (words : List ℕ) → length words ≡ 64 → 2 ^ rule.m ≤ length words
  all_words l rule u words size = rw u.width (omega (arith, points_most))

-- the transform refuses the table with the number r
module _ (m s : ℕ) (t l zeros out : List ℕ) (r : Reason) (e : number r ≡ transform_reason m t (length zeros)) (size : length zeros ≡ 64) (j : ℕ) (limits : broken m s j ≡ false) where
  one : broken m s 1 ≡ false
  one = one_stage m s j limits

  low : 1 ≤ m
  low = (bounds m s j limits).m_low

  high : m ≤ greatest_width
  high = (bounds m s j limits).m_high

  -- so producing does
  with_size : length t ≡ 2 ^ m → (b : Bool) → b ≡ entries_below t (2 ^ m) → produced_reason m s t l (length out) ≡ number r
  with_size z false eb = reason_entry m s t l (length out) one z (sym eb) ∙ (large m t zeros low high (2 ^ m) refl z false eb refl).reason ∙ sym e
  with_size z true eb =
      let a : InputPasses m t (length zeros) = record { least = low; most = high; size = z; below = sym eb; room_enough = omega (arith, points_most m s j limits) } in
      absurd (number_some r (e ∙ (input_answer m t zeros a).0))

  same_number : (b : Bool) → eqb (length t) (2 ^ m) ≡ b → produced_reason m s t l (length out) ≡ number r
  same_number true h = with_size (eqb-true _ _ h) (entries_below t (2 ^ m)) refl
  same_number false h =
      let z = eqb-false _ _ h in
      reason_size m s t l (length out) one z ∙ (uneven m t zeros low high (2 ^ m) refl z).reason ∙ sym e

  pub input_refused : Leaves m s t l out r
  input_refused = refuses m s t l out r (same_number (eqb (length t) (2 ^ m)) refl)

-- it takes the table
module _ (m s : ℕ) (t l zeros out : List ℕ) (e : 0 ≡ transform_reason m t (length zeros)) where
  input : InputPasses m t (length zeros)
  input = reason_input m t (length zeros) (sym e)

  pub sized : (rule : Rule) → Ruled m s l rule → length t ≡ 2 ^ rule.m
  sized rule u = rw u.width input.size

  module _ (j : ℕ) (limits : broken m s j ≡ false) (q : Bool) (eq : q ≡ repeats (length t) (entry t)) where
    repeated : (v : Bool) → q ≡ v → repeats (2 ^ m) (entry t) ≡ v
    repeated v h = ap (λ (k : ℕ). repeats k (entry t)) (sym input.size) ∙ sym eq ∙ h

    pub entry_repeats : q ≡ true → Leaves m s t l out BoxRepeats
    entry_repeats h = refuses m s t l out BoxRepeats (reason_repeat m s t l (length out) (one_stage m s j limits) input.size input.below (repeated true h))

    module _ (h : q ≡ false) where
      tested : TableTested m s t l (length out)
      tested = table_tested m s t l (length out) (one_stage m s j limits) input.size input.below (repeated false h)

      pub unloaded : loads s l ≡ false → Leaves m s t l out BadPlacement
      unloaded f = refuses m s t l out BadPlacement (reason_placement m s t l (length out) tested f)

      module _ (words : List ℕ) (ew : words ≡ transform_after m t zeros) (size : length zeros ≡ 64) (n : ℕ) (en : n ≡ 2 ^ m)
          (d : ℕ) (ed : d ≡ words_degree (take n words)) (a : loads s l ≡ true) where
        degree_is : d ≡ degree m (entry t)
        degree_is = ed ∙ found_degree m s t l (length out) tested zeros words ew size n en

        pub degree_high : s ≤ d → Leaves m s t l out DegreeTooHigh
        degree_high g = refuses m s t l out DegreeTooHigh (reason_degree m s t l (length out) tested a (omega (arith, degree_is)))

        pub ready : d < s → length words ≡ length zeros → DegreeTested m s t l words (length out)
        ready g same = found_ready m s t l (length out) tested zeros words ew size a (omega (arith, degree_is)) same

-- the rule is that of the placement, and k is the length that is found by it
module _ (m s : ℕ) (t l out words : List ℕ) (r : DegreeTested m s t l words (length out)) (rule : Rule) (u : Ruled m s l rule)
    (k : ℕ) (ek : k ≡ produced_length rule.m rule.s (λ u. get_or words u 0)) where
  size_is : k ≡ length (produced m s t l)
  size_is = ek ∙ rw (u.width, u.shares) (length_is m s t l words (length out) r)

  pub too_short : length out < k → Leaves m s t l out OutputTooShort
  too_short = output.too_short _ out k size_is _ r.passed

  file_by : words_file rule.m rule.s (place_by rule) t words ≡ produced m s t l
  file_by = rw (u.width, u.shares, u.placement) (file_is m s t l words (length out) r)

  module _ (h : k ≤ length out) (b : MutBor (List ℕ)) (eb : b.now ≡ out) (w : Writer) (g : Starts b w) where
    pub file_room : Room w (words_file rule.m rule.s (place_by rule) t words)
    file_room = rw file_by (output.file_room _ out k size_is h b eb w g)

    pub file_written : (w₁ : Writer) → Writes w w₁ (words_file rule.m rule.s (place_by rule) t words) → (after : List ℕ) → (b.ghost_name ≡ w₁.out.ghost_name → after ≡ w₁.out.now)
        → Answered (produced_reason m s t l (length out)) (produced m s t l) out (produced_of (Ok k)) after
    file_written w₁ g₁ = output.file_written _ out k size_is h b eb w g _ r.passed w₁ (rw file_by at g₁)
