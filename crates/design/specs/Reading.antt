-- Reading (RULES 5): the first fault of a file with its place, or the design that it means.
use Rattle.std.specs.Prelude.{ℕ, zero, suc, ◌+◌, ◌*◌, ◌-◌, ◌/◌, ◌%◌, ◌^◌, List, [], ◌∷◌, ◌++◌, Bool, ◌&&◌, ◌||◌, not, length, take, drop, ltb, leb, eqb}
use Rattle.reasons.specs.Numbers.{number}
use Rattle.reasons.specs.declared.Reason.TheVariants.{CutShort, WrongKind, WrongLength, EntryTooLarge, BadTerm, BytesFollow}
use Rattle.records.specs.Kinds.{code}
use Rattle.records.specs.declared.kind.Kind.TheVariants as kinds
use Rattle.finite.specs.Tests.{pick, all, tabulate}
use Rattle.finite.specs.Faults.{first_fault}
use Rattle.anf.specs.Terms.{before}
use Rattle.design.specs.Limits.{Head, greatest_terms, broken, checked, head_answer}
use Rattle.records.specs.Design.{Stage, Design}
use Rattle.records.specs.Bytes.{byte, u16_at, u32_at}

-- a refusal has a reason and a place
pub data Reading : Type 0 where
  refused : ℕ → ℕ → Reading
  means : Design → Reading

-- ---- The records that are due (RULES 4.3), numbered from 0 on.

-- the three numbers of the head
abbrev pub head_of : List ℕ → Head
head_of f = record { m = byte f 4; s = byte f 5; k = byte f 6 }

-- the number of the end record
unfoldable pub last_of : Head → ℕ
last_of h = 2 + h.k * (1 + h.m * h.s)

-- the number of a record of stage t, counted from 0: its table at l = 0, its list l - 1 after that
unfoldable pub number_of : Head → ℕ → ℕ → ℕ
number_of h t l = 2 + t * (1 + h.m * h.s) + l

-- the kind due at record i
unfoldable pub kind_due : Head → ℕ → ℕ
kind_due h i =
    pick (eqb i 0) (code kinds.Head)
    (pick (eqb i 1) (code kinds.Table)
    (pick (eqb i (last_of h)) (code kinds.End)
    (pick (eqb ((i - 2) % (1 + h.m * h.s)) 0) (code kinds.Table) (code kinds.List))))

-- the length due of a kind; of kind 3 the greatest
unfoldable pub size_due : Head → ℕ → ℕ
size_due h kind = pick (eqb kind (code kinds.Head)) 3 (pick (eqb kind (code kinds.Table)) (2 ^ h.m) (pick (eqb kind (code kinds.List)) (4 * greatest_terms) 0))

-- whether a record of this kind may have the length n: of kind 3 a multiple of 4 up to size, else size itself
unfoldable pub length_due : ℕ → ℕ → ℕ → Bool
length_due kind size n = pick (eqb kind (code kinds.List)) (eqb (n % 4) 0 && leb n size) (eqb n size)

-- ---- The faults of one record: tests in the published order, each with the number that it gives.

-- of its head and its length
abbrev pub frame_faults : List ℕ → ℕ → ℕ → ℕ → List (Bool × ℕ)
frame_faults f at kind size =
    -- the four-byte head is cut short
    (ltb (length f - at) 4, number CutShort) ∷
    -- the kind is not the one due
    (not (eqb (u16_at f (at + 2)) kind), number WrongKind) ∷
    -- the length is not the one due
    (not (length_due kind size (u16_at f at)), number WrongLength) ∷
    -- the body is cut short
    (ltb (length f - at - 4) (u16_at f at), number CutShort) ∷
    []

-- a table's entry x is below bound
unfoldable pub entry_fits : List ℕ → ℕ → ℕ → ℕ → Bool
entry_fits f start bound x = ltb (byte f (start + x)) bound

-- the term before term j of a list, 0 for the first
unfoldable pub previous : List ℕ → ℕ → ℕ → ℕ
previous f start zero = 0
previous f start (suc j) = u32_at f (start + 4 * j)

-- a list's term j rises, and is below bound
unfoldable pub term_fits : List ℕ → ℕ → ℕ → ℕ → Bool
term_fits f start bound j =
    (eqb j 0 || before (previous f start j) (u32_at f (start + 4 * j))) && ltb (u32_at f (start + 4 * j)) bound

-- a fault that only records of one kind can have
abbrev pub only_of : ℕ → ℕ → Bool × ℕ → Bool × ℕ
only_of one kind fault = (eqb kind one && fault.0, fault.1)

-- of its body of n bytes from start
abbrev pub body_faults : List ℕ → Head → ℕ → ℕ → ℕ → List (Bool × ℕ)
body_faults f h kind start n =
    -- a head number breaks a limit: the number of the head's answer
    only_of (code kinds.Head) kind (broken h.m h.s h.k, (head_answer (checked h.m h.s h.k)).0) ∷
    -- a table entry is 2^m or more
    only_of (code kinds.Table) kind (not (all n (entry_fits f start (2 ^ h.m))), number EntryTooLarge) ∷
    -- a term names a variable beyond m × s or does not rise
    only_of (code kinds.List) kind (not (all (n / 4) (term_fits f start (2 ^ (h.m * h.s)))), number BadTerm) ∷
    []

-- the first fault of record i, which starts at `at`, or 0
unfoldable pub fault_at : List ℕ → Head → ℕ → ℕ → ℕ
fault_at f h i at =
    first_fault (frame_faults f at (kind_due h i) (size_due h (kind_due h i)) ++ body_faults f h (kind_due h i) (at + 4) (u16_at f at)) 0

-- of the head record
abbrev pub head_fault : List ℕ → ℕ
head_fault f = fault_at f (head_of f) 0 0

-- ---- The design that a file without fault means.

-- where record i starts: each is four bytes and its body behind the one before
unfoldable pub place : List ℕ → ℕ → ℕ
place f zero = 0
place f (suc i) = place f i + 4 + u16_at f (place f i)

unfoldable pub table_at : List ℕ → ℕ → ℕ → List ℕ
table_at f at n = take n (drop (at + 4) f)

unfoldable pub list_at : List ℕ → ℕ → List ℕ
list_at f at = tabulate (u16_at f at / 4) (λ j. u32_at f (at + 4 + 4 * j))

unfoldable pub stage_at : List ℕ → Head → ℕ → Stage
stage_at f h t = record {
  table = table_at f (place f (number_of h t 0)) (2 ^ h.m);
  lists = tabulate (h.m * h.s) (λ l. list_at f (place f (number_of h t (l + 1))));
}

unfoldable pub meaning : List ℕ → Design
meaning f = record {
  m = (head_of f).m;
  s = (head_of f).s;
  k = (head_of f).k;
  box = table_at f (place f 1) (2 ^ (head_of f).m);
  stages = tabulate (head_of f).k (stage_at f (head_of f));
}

-- ---- Records go in file order and the first fault is given.

-- `left` records from number i on, which starts at `at`; then bytes that follow the end
unfoldable pub walk : List ℕ → Head → ℕ → ℕ → ℕ → Reading
walk f h zero i at = pick (ltb at (length f)) (refused (number BytesFollow) at) (means (meaning f))
walk f h (suc left) i at =
    let onward = walk f h left (suc i) (at + 4 + u16_at f at) in
    pick (eqb (fault_at f h i at) 0) onward (refused (fault_at f h i at) at)

unfoldable pub reading : List ℕ → Reading
reading f = walk f (head_of f) (last_of (head_of f) + 1) 0 0

-- the reason, 0 where the file reads
abbrev pub reason_of : Reading → ℕ
reason_of (refused r p) = r
reason_of (means d) = 0

-- the place, 0 where the file reads
abbrev pub place_of : Reading → ℕ
place_of (refused r p) = p
place_of (means d) = 0
