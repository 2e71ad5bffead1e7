-- What a refusal of reading says of the file, as propositions (RULES 5.1). Records are numbered from 0 on; record i starts at `place f i`.
use Rattle.std.specs.Prelude.{ℕ, ◌+◌, ◌*◌, ◌/◌, ◌%◌, ◌^◌, ◌≤◌, ◌<◌, ◌≡◌, true, List, length}
use Rattle.reasons.specs.Numbers.{number}
use Rattle.reasons.specs.declared.Reason.TheVariants.{CutShort, WrongKind, WrongLength, LimitBroken, EntryTooLarge, BadTerm, BytesFollow}
use Rattle.records.specs.Kinds.{code}
use Rattle.records.specs.declared.kind.Kind.TheVariants as kinds
use Rattle.anf.specs.Terms.{before}
use Rattle.records.specs.Bytes.{byte, u16_at, u32_at}
use Rattle.design.specs.Limits.{greatest_width, least_shares, greatest_shares, greatest_share_bits, greatest_stages, greatest_terms}
use Rattle.design.specs.Reading.{head_of, last_of, kind_due, place}
use Rattle.design.specs.Limits.{Head}

-- ---- what is due of record i, and what stands there

abbrev pub due_at : List ℕ → ℕ → ℕ
due_at f i = kind_due (head_of f) i

abbrev pub length_at : List ℕ → ℕ → ℕ
length_at f i = u16_at f (place f i)

abbrev pub kind_at : List ℕ → ℕ → ℕ
kind_at f i = u16_at f (place f i + 2)

-- byte x of its body
abbrev pub entry_at : List ℕ → ℕ → ℕ → ℕ
entry_at f i x = byte f (place f i + 4 + x)

-- term j of its body
abbrev pub term_at : List ℕ → ℕ → ℕ → ℕ
term_at f i j = u32_at f (place f i + 4 + 4 * j)

-- ---- a record without fault

-- no head number breaks a limit
pub record HeadFits (f : List ℕ) : Type 0 where
  pub least_m : 1 ≤ (head_of f).m
  pub greatest_m : (head_of f).m ≤ greatest_width
  pub least_s : least_shares ≤ (head_of f).s
  pub greatest_s : (head_of f).s ≤ greatest_shares
  pub greatest_bits : (head_of f).m * (head_of f).s ≤ greatest_share_bits
  pub least_k : 1 ≤ (head_of f).k
  pub greatest_k : (head_of f).k ≤ greatest_stages

-- n is a length that a record of this kind may have
pub record LengthFits (h : Head) (kind n : ℕ) : Type 0 where
  pub of_head : kind ≡ code kinds.Head → n ≡ 3
  pub of_table : kind ≡ code kinds.Table → n ≡ 2 ^ h.m
  pub of_list : kind ≡ code kinds.List → (n % 4 ≡ 0) × (n ≤ 4 * greatest_terms)
  pub of_end : kind ≡ code kinds.End → n ≡ 0

-- term j is below 2^(m × s), and stands behind the one before it
pub record TermFits (f : List ℕ) (i j : ℕ) : Type 0 where
  pub below : term_at f i j < 2 ^ ((head_of f).m * (head_of f).s)
  pub rises : (l : ℕ) → j ≡ l + 1 → before (term_at f i l) (term_at f i j) ≡ true

-- record i stands in the file, with the kind and a length that are due
pub record RecordStands (f : List ℕ) (i : ℕ) : Type 0 where
  pub head : place f i + 4 ≤ length f
  pub kind : kind_at f i ≡ due_at f i
  pub size : LengthFits (head_of f) (due_at f i) (length_at f i)
  pub rest : place f i + 4 + length_at f i ≤ length f

-- and its body has no fault
pub record RecordFits (f : List ℕ) (i : ℕ) : Type 0 where
  pub stands : RecordStands f i
  pub limits : i ≡ 0 → HeadFits f
  pub entries : due_at f i ≡ code kinds.Table → (x : ℕ) → x < 2 ^ (head_of f).m → entry_at f i x < 2 ^ (head_of f).m
  pub terms : due_at f i ≡ code kinds.List → (j : ℕ) → j < length_at f i / 4 → TermFits f i j

-- the records before number i have no fault
abbrev pub FitBefore : List ℕ → ℕ → Type 0
FitBefore f i = (j : ℕ) → j < i → RecordFits f j

-- the file has a record i, and none before it has a fault
abbrev pub Reached : List ℕ → ℕ → Type 0
Reached f i = (i ≤ last_of (head_of f)) × FitBefore f i

-- ---- Reason r and place p: the tests before the one that fails are passed.

pub data RefusedFor (f : List ℕ) : ℕ → ℕ → Type 0 where
  -- record i's head is cut short
  head_cut : (i : ℕ) → Reached f i → length f < place f i + 4 → RefusedFor f (number CutShort) (place f i)
  -- its kind is not the one due
  kind_wrong : (i : ℕ) → Reached f i → place f i + 4 ≤ length f → ¬ (kind_at f i ≡ due_at f i) → RefusedFor f (number WrongKind) (place f i)
  -- its length is not one that is due
  length_wrong : (i : ℕ) → Reached f i → place f i + 4 ≤ length f → kind_at f i ≡ due_at f i
      → ¬ LengthFits (head_of f) (due_at f i) (length_at f i) → RefusedFor f (number WrongLength) (place f i)
  -- its body is cut short
  body_cut : (i : ℕ) → Reached f i → place f i + 4 ≤ length f → kind_at f i ≡ due_at f i → LengthFits (head_of f) (due_at f i) (length_at f i)
      → length f < place f i + 4 + length_at f i → RefusedFor f (number CutShort) (place f i)
  -- the first record is the head, and one of its numbers breaks a limit
  limit_broken : RecordStands f 0 → ¬ HeadFits f → RefusedFor f (number LimitBroken) (place f 0)
  -- record i is a table, and x its first entry that is 2^m or more
  entry_high : (i x : ℕ) → Reached f i → RecordStands f i → due_at f i ≡ code kinds.Table → x < 2 ^ (head_of f).m → ((y : ℕ) → y < x → entry_at f i y < 2 ^ (head_of f).m)
      → 2 ^ (head_of f).m ≤ entry_at f i x → RefusedFor f (number EntryTooLarge) (place f i)
  -- record i is a list, and j its first term that names a variable beyond m × s or does not rise
  term_wrong : (i j : ℕ) → Reached f i → RecordStands f i → due_at f i ≡ code kinds.List → j < length_at f i / 4 → ((l : ℕ) → l < j → TermFits f i l)
      → ¬ TermFits f i j → RefusedFor f (number BadTerm) (place f i)
  -- no record has a fault, and bytes follow the end
  bytes_follow : FitBefore f (last_of (head_of f) + 1) → place f (last_of (head_of f) + 1) < length f → RefusedFor f (number BytesFollow) (place f (last_of (head_of f) + 1))
