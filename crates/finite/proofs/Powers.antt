-- Powers of two, and what is below one. Assumes nothing.
use mathlib.Core.Path.{◌≡◌, ap, ◌∙◌}
use mathlib.Core.Bool.{true, ◌&&◌}
use Prim.Native.Nat.{ℕ, ◌+◌, ◌-◌, ◌*◌, ◌/◌, ◌%◌, ◌^◌, ◌<◌, ◌≤◌}
use native.Mathlib.Nat.{mul-mod_left, div-eq_of_lt, lt-mul-div-succ}
use native.Mathlib.Omega.{arith}
use borrow.Author.Tests.{lt-ltb, ltb-true, eq-eqb, eqb-true}
use lib.Bits.{bit_or, or_lt, or_add_and, and_le_l, and_le_r}
use lib.Dec.{eqb, ltb}
use lib.Pow.{pow-add}
use Rattle.std.proofs.lemmas.Nat.{pow_pos}
use Rattle.finite.proofs.Testing.{bool_ext}
use Rattle.std.proofs.lemmas.Bool.{and_from, and_parts}

-- from 2^3 on, a multiple of 8
pub eights : (e : ℕ) → 3 ≤ e → 2 ^ e % 8 ≡ 0
eights e h =
    let q : e ≡ e - 3 + 3 = omega arith in
    ap (λ (x : ℕ). 2 ^ x % 8) q ∙ ap (λ (x : ℕ). x % 8) (pow-add 2 (e - 3) 3) ∙ mul-mod_left (2 ^ (e - 3)) 8

-- below a power of two is what has no bit from there on
pub none_above : (n x : ℕ) → eqb (x / 2 ^ n) 0 ≡ ltb x (2 ^ n)
none_above n x = bool_ext _ _ (λ e. lt-ltb _ _ (below e)) (λ e. eq-eqb _ _ (div-eq_of_lt (ltb-true _ _ e)))
  where
    below : eqb (x / 2 ^ n) 0 ≡ true → x < 2 ^ n
    below e = let h : x < 2 ^ n * (x / 2 ^ n + 1) = lt-mul-div-succ x (pow_pos n) in let q : x < 2 ^ n * (0 + 1) = rw (eqb-true _ _ e) at h in omega (arith, q)

-- a union is below a power of two when both its parts are
pub union_below : (n x y : ℕ) → ltb (bit_or x y) (2 ^ n) ≡ (ltb x (2 ^ n) && ltb y (2 ^ n))
union_below n x y = bool_ext _ _ parts whole
  where
    parts : ltb (bit_or x y) (2 ^ n) ≡ true → (ltb x (2 ^ n) && ltb y (2 ^ n)) ≡ true
    parts e =
        let l : x < 2 ^ n = omega (arith, or_add_and x y, and_le_r x y, ltb-true _ _ e) in
        let r : y < 2 ^ n = omega (arith, or_add_and x y, and_le_l x y, ltb-true _ _ e) in
        and_from _ _ (lt-ltb _ _ l) (lt-ltb _ _ r)

    whole : (ltb x (2 ^ n) && ltb y (2 ^ n)) ≡ true → ltb (bit_or x y) (2 ^ n) ≡ true
    whole e = lt-ltb _ _ (or_lt n x y (ltb-true _ _ (and_parts (ltb x (2 ^ n)) (ltb y (2 ^ n)) e).0) (ltb-true _ _ (and_parts (ltb x (2 ^ n)) (ltb y (2 ^ n)) e).1))
