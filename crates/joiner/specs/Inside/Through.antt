-- One table sent through another.
use Rattle.std.specs.Prelude.{ℕ, ◌≤◌, ◌<◌, List, length}
use Rattle.anf.specs.Tables.{entry}
use Rattle.design.specs.Limits.{greatest_points}

-- every entry of the table t has an entry in the table u
pub record Through (t u : List ℕ) : Type 0 where
  pub size : length t ≤ greatest_points
  pub below : (x : ℕ) → x < length t → entry t x < length u
