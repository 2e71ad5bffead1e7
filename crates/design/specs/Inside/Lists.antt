-- A run of lists of a stage, as the definitions see it.
use Rattle.std.specs.Prelude.{ℕ, List}
use Rattle.design.specs.Inside.StageLists.{body_in, lists_in}
use Rattle.design.specs.declared.lists.Lists.{Lists}

abbrev pub lists_held : Lists → List (List ℕ)
lists_held x = lists_in x.file.now x.starts.now

-- the bytes of list i
abbrev pub body_held : Lists → ℕ → List ℕ
body_held x i = body_in x.file.now x.starts.now i
