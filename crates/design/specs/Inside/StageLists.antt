-- The lists of a stage as they stand in a file, by where the bodies of its records start.
use Rattle.std.specs.Prelude.{ℕ, ◌+◌, ◌*◌, ◌-◌, ◌≤◌, ◌<◌, List, length, get_or, take, drop}
use Rattle.finite.specs.Tests.{tabulate}
use Rattle.design.specs.Limits.{greatest_terms, greatest_share_bits}
use Rattle.records.specs.Inside.Terms.{terms}

-- the body that starts at a place, where the next one is known to start: four bytes stand between them, the next head
abbrev pub body_at : List ℕ → ℕ → ℕ → List ℕ
body_at f start next = take (next - 4 - start) (drop start f)

-- it lies inside the file, and is no longer than a list may be
abbrev pub LiesWithin : List ℕ → ℕ → ℕ → Type 0
LiesWithin f start next = (start + 4 ≤ next) × (next ≤ length f + 4) × (next ≤ start + 4 + 4 * greatest_terms)

-- so do n bodies, from the one that the list of starts has at `first` on
abbrev pub AllWithin : List ℕ → List ℕ → ℕ → ℕ → Type 0
AllWithin f starts first n = (i : ℕ) → i < n → LiesWithin f (get_or starts (first + i) 0) (get_or starts (first + i + 1) 0)

-- body i of those whose starts are these
abbrev pub body_in : List ℕ → List ℕ → ℕ → List ℕ
body_in f starts i = body_at f (get_or starts i 0) (get_or starts (i + 1) 0)

-- the lists of terms of those n bodies
unfoldable pub lists_of : List ℕ → List ℕ → ℕ → ℕ → List (List ℕ)
lists_of f starts first n = tabulate n (λ i. terms (body_in f starts (first + i)))

-- n bodies of a run of records: where each starts, and where that of the record behind them does
abbrev pub run_length : List ℕ → ℕ
run_length starts = length starts - 1

-- a run of the lists of a stage stands in the file
pub record Stands (f starts : List ℕ) : Type 0 where
  pub some : 1 ≤ length starts
  pub few : run_length starts ≤ greatest_share_bits
  pub inside : AllWithin f starts 0 (run_length starts)

-- its lists of terms
abbrev pub lists_in : List ℕ → List ℕ → List (List ℕ)
lists_in f starts = lists_of f starts 0 (run_length starts)
