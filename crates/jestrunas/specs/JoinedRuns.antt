-- A run that goes on (RULES 11.7).
use Rattle.std.specs.Prelude.{ℕ, List, eqb}
use Rattle.finite.specs.Tests.{pick}
use Rattle.threshold.specs.Running.{running, Ran}

-- running the file g on what a run gave; a refused run stays as it is
abbrev pub running_onward : List ℕ → Ran → Ran
running_onward g r = pick (eqb r.reason 0) (running g r.shares) r
