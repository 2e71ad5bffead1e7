-- What a layout says that is the reader's answer: with reason 0 the file reads, what it means is well formed, and the head is the design's; with another
-- reason the definition refuses with that reason and place.
use Prim.Native.Nat.{ℕ, ◌+◌, ◌<◌}
use mathlib.Core.Path.{◌≡◌, refl, sym, ap, ◌∙◌, subst}
use mathlib.Core.List.{List}
use native.Mathlib.Omega.{arith}
use lib.ListN.{get_or, get_or-append, drop}
use Rattle.finite.specs.Tests.{tabulate}
use Rattle.finite.proofs.Testing.{tabulate_length, tabulate_at}
use Rattle.records.specs.Design.{Design}
use Rattle.design.specs.WellFormed.{WellFormed}
use Rattle.design.specs.Reading.{Reading, refused, means, reading, meaning, head_of, place, last_of}
use Rattle.design.specs.Layout.{no_starts, refused_layout, read_layout, layout_of_reading, layout_of, starts_to, start_of}
use Rattle.design.specs.Layout.{Describes}
use Rattle.design.specs.Limits.{Head}
use Rattle.design.specs.Layout.{Layout}
use Rattle.design.specs.Heads.{design_by}
use Rattle.reasons.specs.Numbers.{number}
use Rattle.design.specs.Errors.{fault_reason}
use Rattle.design.specs.declared.errors.Fault.{Fault}
use Rattle.reasons.proofs.Numbers.{number_some}
use Rattle.design.proofs.Limits.{Bounds}
use Rattle.design.proofs.FileRecords.{limited}
use Rattle.design.proofs.WellFormed.{formed}
use Rattle.design.proofs.Reasons.{reason_range}
use Rattle.design.proofs.Meaning.{read_means}

-- the layout l describes the file f: the design that it reads as, by the numbers of its head
pub record Readable (f : List ℕ) (l : Layout) : Type 0 where
  pub reads : reading f ≡ means (design_by l.head f)
  pub formed : WellFormed (design_by l.head f)
  pub bounds : Bounds l.head.m l.head.s l.head.k

pub described : {f : List ℕ} {l : Layout} → Describes f l → Readable f l
unfolding meaning
described {f} {l} d =
    let e : meaning f ≡ design_by l.head f = ap (λ (h : Head). design_by h f) (sym d.head) in
    record { reads = d.read ∙ ap means e; formed = subst WellFormed e (formed f d.read); bounds = limited f l d }

starts_at : (f : List ℕ) (n i : ℕ) → i < n → get_or (starts_to f n) i 0 ≡ place f i + 4
unfolding starts_to start_of
starts_at f n i h =
    get_or-append (tabulate n (start_of f)) (drop n no_starts) 0 i (rw (tabulate_length n (start_of f)) h) ∙ tabulate_at n (start_of f) i 0 h

-- ---- l is what `read` answers of the file f

-- reason 0 is answered of files that read, and of no other
zero_reads : (f : List ℕ) (r : Reading) → reading f ≡ r → (layout_of_reading f r).reason ≡ 0 → (d : Design) × (r ≡ means d)
zero_reads f (refused x y) e z = absurd (omega (arith, reason_range f x y e, z))
zero_reads f (means d) e z = (d, refl)

module _ (f : List ℕ) (l : Layout) (a : l ≡ layout_of f) where
  layout_means : (d : Design) → reading f ≡ means d → l ≡ read_layout f
  unfolding layout_of
  layout_means d e = a ∙ ap (layout_of_reading f) e

  -- a file that the definition reads is answered with reason 0
  answers_zero : (d : Design) → reading f ≡ means d → l.reason ≡ 0
  answers_zero d e = ap (λ (x : Layout). x.reason) (layout_means d e)

  pub answers_described : l.reason ≡ 0 → Describes f l
  unfolding layout_of starts_to start_of
  answers_described z =
      let w = zero_reads f (reading f) refl (rw a at z) in
      let q = layout_means w.0 w.1 in
      record {
        read = w.1 ∙ ap means (read_means f w.0 w.1);
        head = ap (λ (x : Layout). x.head) q;
        starts = λ i h. ap (λ (x : Layout). get_or x.starts i 0) q ∙ starts_at f (last_of (head_of f) + 1) i h;
      }

  refuses : (l.reason ≡ 0 → ⊥) → reading f ≡ refused l.reason l.place
  unfolding layout_of
  refuses n = go (reading f) refl
    where
      go : (r : Reading) → reading f ≡ r → r ≡ refused l.reason l.place
      go (refused x y) e = let q : l ≡ refused_layout x y = a ∙ ap (layout_of_reading f) e in rw q refl
      go (means d) e = absurd (n (answers_zero d e))

pub refused_as : (f : List ℕ) (r : Fault) (p : ℕ) → refused_layout (number (fault_reason r)) p ≡ layout_of f → refused (number (fault_reason r)) p ≡ reading f
refused_as f r p a = sym (refuses f _ a (number_some (fault_reason r)))
