-- The placement of a rule, and what is made by it.
use Rattle.std.specs.Prelude.{ℕ, ◌≡◌, List, true, false, get_or, Result, MatchResult}
use Rattle.reasons.specs.declared.Reason.{Reason}
use Rattle.reasons.specs.declared.Reason.TheVariants.{BadPlacement}
use Rattle.direct.specs.Direct.{loads, placed, direct_list}
use Rattle.direct.specs.Inside.Expanding.{emitted}
use Rattle.direct.specs.declared.Rule.{Rule}

-- the rule has these numbers and this placement, which loads
pub record Ruled (m s : ℕ) (l : List ℕ) (r : Rule) : Type 0 where
  pub width : r.m ≡ m
  pub shares : r.s ≡ s
  pub placement : r.placement.now ≡ l
  pub loaded : loads s l ≡ true

-- there is none: the placement does not load
pub record Unloaded (s : ℕ) (l : List ℕ) (r : Reason) : Type 0 where
  pub reason : r ≡ BadPlacement
  pub unloaded : loads s l ≡ false

-- the rule of m bits in s shares by a placement, if it loads
abbrev pub RuleBy : ℕ → ℕ → List ℕ → Result Rule Reason → Type 0
RuleBy m s l r = MatchResult r (Ruled m s l) (Unloaded s l)

-- the component to which the rule sends a product, by its chosen shares
abbrev pub place_by : Rule → ℕ → ℕ
place_by r = placed r.s r.placement.now

-- the products of the variables of u, on top of p, for which the shares J are chosen so far, that go to component c
abbrev pub emits : Rule → ℕ → ℕ → ℕ → ℕ → List ℕ
emits r u c p J = emitted r.m r.s (place_by r) u c r.m p J

-- the list of bit b of component c, by the coefficient words of a box
abbrev pub list_by : Rule → List ℕ → ℕ → ℕ → List ℕ
list_by r words c b = direct_list r.m r.s (place_by r) (λ u. get_or words u 0) c b
