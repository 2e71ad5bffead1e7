-- Joining (RULES 11): two designs joined into one; the answer of joining their files, and the output afterwards.
use Rattle.std.specs.Prelude.{ℕ, ◌+◌, ◌≤◌, ◌<◌, ◌≡◌, Bool, not, ◌&&◌, List, [], ◌∷◌, ◌++◌, map, eqb, ltb, length}
use Rattle.reasons.specs.Numbers.{number}
use Rattle.reasons.specs.declared.Reason.TheVariants.{OutputTooShort, SharesDiffer, TooManyStages}
use Rattle.finite.specs.Faults.{first_fault}
use Rattle.anf.specs.Tables.{entry}
use Rattle.records.specs.Writing.{Produced, writing_answer, writing_after}
use Rattle.design.specs.Limits.{greatest_stages}
use Rattle.records.specs.Design.{Design}
use Rattle.records.specs.Encode.{encode}
use Rattle.design.specs.Reading.{Reading, refused, means, reading, meaning}

-- S of the second after S of the first: each entry of the first is sent through the second. The stages of the first, then those of the second.
abbrev pub joined_design : Design → Design → Design
joined_design d e = record {
  m = d.m;
  s = d.s;
  k = d.k + e.k;
  box = map (entry e.box) d.box;
  stages = d.stages ++ e.stages;
}

-- the file that is written
unfoldable pub joined : List ℕ → List ℕ → List ℕ
joined f g = encode (joined_design (meaning f) (meaning g))

-- equal widths and share counts
abbrev pub same_shares : Design → Design → Bool
same_shares d e = eqb d.m e.m && eqb d.s e.s

-- the refusals of two designs in the published order
abbrev pub joined_faults : Design → Design → ℕ → List (Bool × ℕ)
joined_faults d e room =
    -- the widths or the share counts differ
    (not (same_shares d e), number SharesDiffer) ∷
    -- the stages are too many
    (ltb greatest_stages (d.k + e.k), number TooManyStages) ∷
    -- the file does not fit the lent output
    (ltb room (length (encode (joined_design d e))), number OutputTooShort) ∷
    []

-- the number of their refusal, or 0
unfoldable pub designs_reason : Design → Design → ℕ → ℕ
designs_reason d e room = first_fault (joined_faults d e room) 0

-- of two files before it: the first does not read, the second does not read
abbrev pub reason_by : Reading → Reading → ℕ → ℕ
reason_by (refused r p) y room = r
reason_by (means d) (refused r p) room = r
reason_by (means d) (means e) room = designs_reason d e room

unfoldable pub joined_reason : List ℕ → List ℕ → ℕ → ℕ
joined_reason f g room = reason_by (reading f) (reading g) room

-- the answer: a refusal has length 0
abbrev pub joining : List ℕ → List ℕ → ℕ → Produced
joining f g room = writing_answer (joined_reason f g room) (joined f g)

-- the output afterwards: untouched on a refusal, else the file and then what stood past it
abbrev pub joined_after : List ℕ → List ℕ → List ℕ → List ℕ
joined_after f g out = writing_after (joined_reason f g (length out)) (joined f g) out

-- ---- as propositions

-- the files read as d and e, which can be joined: equal widths and share counts, and together no more stages than a design may have
pub record Joinable (f g : List ℕ) (d e : Design) : Type 0 where
  pub first : reading f ≡ means d
  pub second : reading g ≡ means e
  pub width : d.m ≡ e.m
  pub shares : d.s ≡ e.s
  pub stages : d.k + e.k ≤ greatest_stages

-- the answer explained, one case for each in the published order: the refusal that it names is there and none before it is, or none is there
pub data JoiningExplained (f g : List ℕ) (room : ℕ) : ℕ → Type 0 where
  first_refused : (r p : ℕ) → reading f ≡ refused r p → JoiningExplained f g room r
  second_refused : (d : Design) (r p : ℕ) → reading f ≡ means d → reading g ≡ refused r p → JoiningExplained f g room r
  shares_differ : (d e : Design) → reading f ≡ means d → reading g ≡ means e → ¬ ((d.m ≡ e.m) × (d.s ≡ e.s)) → JoiningExplained f g room (number SharesDiffer)
  stages_exceed : (d e : Design) → reading f ≡ means d → reading g ≡ means e → d.m ≡ e.m → d.s ≡ e.s → greatest_stages < d.k + e.k → JoiningExplained f g room (number TooManyStages)
  output_short : (d e : Design) → Joinable f g d e → room < length (joined f g) → JoiningExplained f g room (number OutputTooShort)
  joins : (d e : Design) → Joinable f g d e → length (joined f g) ≤ room → JoiningExplained f g room 0
