-- Which designs have a file, and when two have one meaning (RULES 4.6, 4.8, 5.4).
use Rattle.std.specs.Prelude.{ℕ, ◌*◌, ◌^◌, ◌≤◌, ◌<◌, ◌≡◌, List, [], length, get_or}
use Rattle.anf.specs.Terms.{IsTermList, value_at}
use Rattle.anf.specs.Tables.{TableFits}
use Rattle.records.specs.Design.{Stage, Design, stage_of, list_of}
use Rattle.design.specs.Limits.{greatest_terms, WithinLimits}

-- up to the greatest number of terms, in n variables, strictly rising
pub record ListFits (n : ℕ) (ts : List ℕ) : Type 0 where
  pub size : length ts ≤ greatest_terms
  pub terms : IsTermList n ts

pub record StageFits (m s : ℕ) (g : Stage) : Type 0 where
  pub table : TableFits m g.table
  pub count : length g.lists ≡ m * s
  pub list : (l : ℕ) → l < m * s → ListFits (m * s) (get_or g.lists l [])

pub record WellFormed (d : Design) : Type 0 where
  pub limits : WithinLimits d.m d.s d.k
  pub box : TableFits d.m d.box
  pub count : length d.stages ≡ d.k
  pub stage : (t : ℕ) → t < d.k → StageFits d.m d.s (stage_of d t)

-- equal m, s, k, tables and component functions: list l of stage t has equal values at every sharing
pub record SameMeaning (d e : Design) : Type 0 where
  pub m : d.m ≡ e.m
  pub s : d.s ≡ e.s
  pub k : d.k ≡ e.k
  pub box : d.box ≡ e.box
  pub table : (t : ℕ) → t < d.k → (stage_of d t).table ≡ (stage_of e t).table
  pub component : (t l : ℕ) → t < d.k → l < d.m * d.s → (x : ℕ) → x < 2 ^ (d.m * d.s) → value_at (list_of d t l) x ≡ value_at (list_of e t l) x
