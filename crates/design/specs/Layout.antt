-- What a reader of design files promises (RULES 5.5): its answer is `layout_of`, every field of it, on refusals too. A maker's own reader that answers just this
-- may stand in the place of ours: of a file that reads, what judging, running and joining rely on is `Describes`, which the layout meets.
use Rattle.std.specs.Prelude.{ℕ, ◌+◌, ◌<◌, ◌≡◌, List, get_or, ◌++◌, drop, replicate, eqb}
use Rattle.finite.specs.Tests.{pick, tabulate}
use Rattle.design.specs.Limits.{Head, greatest_records}
use Rattle.design.specs.Reading.{Reading, refused, means, head_of, head_fault, last_of, place, meaning, reading}

-- what reading the head record alone finds: the reason of a refusal, or 0 and the head
pub record HeadRead : Type 0 where
  pub reason : ℕ
  pub head : Head

-- what reading finds: the reason and the place of a refusal, or zeros, the head and where each record's body starts
pub record Layout : Type 0 where
  pub reason : ℕ
  pub place : ℕ
  pub head : Head
  pub starts : List ℕ

abbrev pub no_head : Head
no_head = record { m = 0; s = 0; k = 0 }

-- ---- of the head record alone

-- where it is refused: the reason, and nothing else
abbrev pub refused_head : ℕ → HeadRead
refused_head r = record { reason = r; head = no_head }

unfoldable pub head_read : List ℕ → HeadRead
head_read f = pick (eqb (head_fault f) 0) (record { reason = 0; head = head_of f }) (refused_head (head_fault f))

-- ---- of the whole file

-- as many zeros as a file has records at most
abbrev pub no_starts : List ℕ
no_starts = replicate greatest_records 0

-- where the body of record i starts
unfoldable pub start_of : List ℕ → ℕ → ℕ
start_of f i = place f i + 4

-- the starts of the first n records, and zeros
unfoldable pub starts_to : List ℕ → ℕ → List ℕ
starts_to f n = tabulate n (start_of f) ++ drop n no_starts

-- of a file that is refused: the reason and the place, and nothing else
abbrev pub refused_layout : ℕ → ℕ → Layout
refused_layout r p = record { reason = r; place = p; head = no_head; starts = no_starts }

-- of a file that reads: its head, and the start of every record up to the end
abbrev pub read_layout : List ℕ → Layout
read_layout f = record { reason = 0; place = 0; head = head_of f; starts = starts_to f (last_of (head_of f) + 1) }

abbrev pub layout_of_reading : List ℕ → Reading → Layout
layout_of_reading f (refused r p) = refused_layout r p
layout_of_reading f (means d) = read_layout f

unfoldable pub layout_of : List ℕ → Layout
layout_of f = layout_of_reading f (reading f)

-- ---- what is relied on

-- the layout is that of the file f, which reads: its head, and where the body of each record starts, up to the end
pub record Describes (f : List ℕ) (l : Layout) : Type 0 where
  pub read : reading f ≡ means (meaning f)
  pub head : l.head ≡ head_of f
  pub starts : (i : ℕ) → i < last_of (head_of f) + 1 → get_or l.starts i 0 ≡ place f i + 4
