-- The first fault in a published order: a list of tests read from the top, each with what is answered where it finds a fault.
use Rattle.std.specs.Prelude.{Bool, List, [], ◌∷◌}
use Rattle.finite.specs.Tests.{pick}

-- the answer of the first test that finds a fault; `good` where none does
unfoldable pub first_fault : {A : Type 0} → List (Bool × A) → A → A
first_fault [] good = good
first_fault (f ∷ fs) good = pick f.0 f.1 (first_fault fs good)
