-- A list of terms that grows.
use Rattle.std.specs.Prelude.{ℕ, List, [], ◌∷◌, insert}
use Rattle.std.specs.List.{position_or_len}
use Rattle.anf.specs.Terms.{before}

-- the list l with t too, before the first term that t stands before
abbrev pub inserted : ℕ → List ℕ → List ℕ
inserted t l = insert l (position_or_len (before t) l) t

-- the list with the terms of another too, one after the other
unfoldable pub inserted_all : List ℕ → List ℕ → List ℕ
inserted_all [] l = l
inserted_all (t ∷ ts) l = inserted_all ts (inserted t l)
