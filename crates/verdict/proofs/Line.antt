-- What the program answers: 18, or the verdict; and that as much of an input as it reads is enough.
use mathlib.Core.Path.{◌≡◌, sym, ap, ◌∙◌, subst}
use mathlib.Core.List.{List}
use Prim.Native.Nat.{ℕ, ◌+◌, ◌<◌, ◌≤◌}
use native.Mathlib.Decide.{dec_lt}
use native.Mathlib.Omega.{arith}
use lib.Dec.{ltb}
use lib.ListN.{length, take, replicate, length-replicate}
use Rattle.std.proofs.lemmas.List.{take_all, length-take-le}
use borrow.Author.Tests.{lt-ltb, le-ltb}
use Rattle.std.specs.Prelude.{Result, Ok, Err, OnOk, IfSome, Option, Some, None}
use Rattle.std.specs.Io.KnownBytes.{Appends}
use Rattle.finite.proofs.Testing.{pick_true, pick_false}
use Rattle.reasons.specs.Numbers.{number}
use Rattle.reasons.specs.declared.Reason.TheVariants.{InputTooLong}
use Rattle.checker.specs.Verdict as verdict
use Rattle.checker.specs.Trials.{judging}
use Rattle.jestrunas.specs.Published.{c_verdict, c_judged}
use Rattle.jestrunas.specs.declared.answers.Verdict.{Verdict}
use Rattle.jestrunas.specs.declared.answers.Judged.{Judged}
use Rattle.verdict.specs.Program.{most_bytes, workspace, answered, line_text, line}

pub too_long : (l : List ℕ) (r : ℕ) → most_bytes < length l → r ≡ number InputTooLong → record { reason = r; place = 0; component = 0 } ≡ c_verdict (answered l)
unfolding answered
too_long l r h e = rw e (ap c_verdict (sym (pick_true (ltb most_bytes (length l)) _ _ (lt-ltb most_bytes (length l) h))))

pub judged_line : (l : List ℕ) (j : Judged) (v : Verdict) → length l ≤ most_bytes → j ≡ c_judged (judging l (length {A = ℕ} (replicate workspace 0))) → v ≡ j.verdict → v ≡ c_verdict (answered l)
unfolding answered judging
judged_line l j v h e p =
    p ∙ ap (λ (x : Judged). x.verdict) e
    ∙ ap c_verdict (ap (verdict.verdict l) (length-replicate {A = ℕ} workspace 0) ∙ sym (pick_false (ltb most_bytes (length l)) _ _ (le-ltb most_bytes (length l) h)))

-- as many bytes as are read tell what all do
read_enough : (l : List ℕ) → answered (take (most_bytes + 1) l) ≡ answered l
unfolding answered
read_enough l = go (dec_lt most_bytes (length l))
  where
    go : Dec (most_bytes < length l) → answered (take (most_bytes + 1) l) ≡ answered l
    go (yes h) =
        let e : length (take (most_bytes + 1) l) ≡ most_bytes + 1 = length-take-le (most_bytes + 1) l h in
        pick_true (ltb most_bytes (length (take (most_bytes + 1) l))) _ _ (lt-ltb most_bytes _ (omega arith)) ∙ sym (pick_true (ltb most_bytes (length l)) _ _ (lt-ltb most_bytes (length l) h))
    go (no h) = ap answered (take_all (most_bytes + 1) l (omega arith))

-- the verdict on what was read is that on the input, where reading ended well
pub judged_whole : {E : Type 0} (known : Option (List ℕ)) (r : Result Unit E) (bytes lent : List ℕ) (most : ℕ) (v : Verdict)
    → OnOk r (IfSome known (λ input. bytes ≡ take most input)) → most ≡ most_bytes + 1 → lent ≡ bytes → v ≡ c_verdict (answered lent)
    → OnOk r (IfSome known (λ input. v ≡ c_verdict (answered input)))
judged_whole (Some input) (Ok u) bytes lent most v read e same judged =
    judged ∙ ap c_verdict (ap answered (same ∙ read ∙ ap (λ (n : ℕ). take n input) e) ∙ read_enough input)
judged_whole (Some input) (Err x) bytes lent most v read e same judged = tt
judged_whole None (Ok u) bytes lent most v read e same judged = tt
judged_whole None (Err x) bytes lent most v read e same judged = tt

-- the line of a verdict that is the input's
pub line_written : {E : Type 0} (known : Option (List ℕ)) (old new : Option (List ℕ)) (r : Result Unit E) (v : Verdict)
    → OnOk r (IfSome known (λ input. v ≡ c_verdict (answered input))) → Appends old new (line_text v)
    → OnOk r (IfSome known (λ input. Appends old new (line input)))
line_written (Some input) old new (Ok u) v judged wrote = subst (λ (x : Verdict). Appends old new (line_text x)) judged wrote
line_written (Some input) old new (Err x) v judged wrote = tt
line_written None old new (Ok u) v judged wrote = tt
line_written None old new (Err x) v judged wrote = tt
