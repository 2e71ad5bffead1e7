-- A read of k bytes into a buffer, behind the n that were read before.
use mathlib.Core.Path.{◌≡◌, sym, ap, ◌∙◌}
use mathlib.Core.List.{List, ◌++◌}
use Prim.Native.Nat.{ℕ, ◌+◌, ◌≤◌}
use lib.ListN.{length, take}
use native.Mathlib.Omega.{arith}
use Rattle.std.proofs.lemmas.List.{append_assoc, length-append, length-take-le, take-append-le}
use Rattle.std.proofs.Math.Seq.{take-append-add}
use Rattle.std.specs.Prelude.{Option, Some, None}
use Rattle.std.specs.Io.KnownBytes.{Consumes}
use borrow.Rule.Slice.PartMut.{put_mid}

-- all of them stand in the buffer
pub room_read : (bytes part : List ℕ) (n m k : ℕ) → n ≤ length bytes → k ≤ length part → n + k ≤ length (put_mid n m bytes part)
room_read bytes part n m k within fits = simp (length-append, length-take-le n bytes within) (omega arith)

-- and are what the reader gave
pub more_read : (a b c : Option (List ℕ)) (bytes part : List ℕ) (n m k : ℕ) → n ≤ length bytes → k ≤ length part
    → Consumes a b (take n bytes) → Consumes b c (take k part) → Consumes a c (take (n + k) (put_mid n m bytes part))
more_read None b c bytes part n m k within fits before read = tt
more_read (Some x) None c bytes part n m k within fits before read = absurd before
more_read (Some x) (Some y) None bytes part n m k within fits before read = absurd read
more_read (Some x) (Some y) (Some z) bytes part n m k within fits before read =
    let front : List ℕ = take n bytes in
    let whole : take (n + k) (put_mid n m bytes part) ≡ front ++ take k part =
    ap (λ (l : ℕ). take (l + k) (put_mid n m bytes part)) (sym (length-take-le n bytes within))
    ∙ take-append-add front _ k
    ∙ ap (λ (l : List ℕ). front ++ l) (take-append-le k part _ fits) in
    before ∙ ap (λ (l : List ℕ). front ++ l) read ∙ sym (append_assoc front (take k part) z) ∙ ap (λ (l : List ℕ). l ++ z) (sym whole)
