-- The products of a term: share by share, a product takes a subset of the term's variables, and the shares below it take the others.
-- So a product tells its term, and products of different terms are different: nothing cancels.
use mathlib.Core.Path.{◌≡◌, refl, sym, ap, ◌∙◌}
use mathlib.Core.Bool.{Bool, true, false, ◌&&◌}
use Prim.Native.Nat.{ℕ, suc, ◌+◌, ◌*◌, ◌^◌, ◌<◌}
use native.Mathlib.Nat.{zero-add}
use native.Mathlib.Omega.{arith}
use lib.Pow.{pow_pos}
use lib.Dec.{eqb}
use lib.Bits.{bit_xor}
use borrow.Author.Tests.{eqb-true, eq-eqb, ne_eqb}
use Rattle.finite.specs.Tests.{implies, bit, count, total}
use Rattle.finite.specs.Sets.{subset, has}
use Rattle.finite.proofs.Testing.{bool_ext, all_at, all_intro, all_congr, all_and}
use Rattle.finite.proofs.Counting.{count_congr, bit_inj}
use Rattle.finite.proofs.Elements.{has_none, sets-eq, unlike, has_xor, subset_all, has_low}
use Rattle.sharing.specs.Sharing.{share}
use Rattle.sharing.proofs.Sharing.{place_lt, share_lt, share_has}
use Rattle.direct.specs.Direct.{is_product}

pub product_at : (m s u p : ℕ) → is_product m s u p ≡ true → (v : ℕ) → v < m → count s (λ j. has p (m * j + v)) ≡ bit (has u v)
unfolding is_product
product_at m s u p e v l = eqb-true _ _ (all_at m _ e v l)

pub at_product : (m s u p : ℕ) → ((v : ℕ) → v < m → count s (λ j. has p (m * j + v)) ≡ bit (has u v)) → is_product m s u p ≡ true
unfolding is_product
at_product m s u p h = all_intro m _ (λ v l. eq-eqb _ _ (h v l))

-- a product tells its term
pub product_term : (m s u u' p : ℕ) → u < 2 ^ m → u' < 2 ^ m → is_product m s u p ≡ true → is_product m s u' p ≡ true → u ≡ u'
product_term m s u u' p l l' e e' =
    sets-eq m u u' l l' (λ v k. bit_inj (has u v) (has u' v) (sym (product_at m s u p e v k) ∙ product_at m s u' p e' v k))

-- ---- one more share

-- for each variable: the new share may take it where the term has it, and then none below takes it
one_more : (t u : Bool) (c : ℕ) → eqb (bit t + c) (bit u) ≡ (implies t u && eqb c (bit (unlike u t)))
one_more true true c = bool_ext _ _ (λ e. eq-eqb c 0 (omega (arith, eqb-true (1 + c) 1 e))) (λ e. eq-eqb (1 + c) 1 (omega (arith, eqb-true c 0 e)))
one_more true false c = ne_eqb (1 + c) 0 (λ e. omega arith)
one_more false u c = ap (λ (x : ℕ). eqb x (bit u)) (zero-add c) ∙ same u
  where
    same : (u : Bool) → eqb c (bit u) ≡ eqb c (bit (unlike u false))
    same true = refl
    same false = refl

pub product_more : (m s u p : ℕ) → is_product m (suc s) u p ≡ (subset (share m s p) u && is_product m s (bit_xor u (share m s p)) p)
unfolding is_product total
product_more m s u p =
    all_congr m _ (λ v. implies (has (share m s p) v) (has u v) && eqb (count s (λ j. has p (m * j + v))) (bit (has (bit_xor u (share m s p)) v)))
    (λ v l. ap (λ (b : Bool). eqb (bit b + count s (λ j. has p (m * j + v))) (bit (has u v))) (sym (share_has m s p v l))
    ∙ one_more (has (share m s p) v) (has u v) (count s (λ j. has p (m * j + v)))
    ∙ ap (λ (b : Bool). implies (has (share m s p) v) (has u v) && eqb (count s (λ j. has p (m * j + v))) (bit b)) (sym (has_xor u (share m s p) v)))
    ∙ all_and m _ _
    ∙ ap (λ (b : Bool). b && is_product m s (bit_xor u (share m s p)) p) (sym (subset_all m (share m s p) u (share_lt m s p)))

-- the shares past s are not looked at
pub product_low : (m s u a r : ℕ) → r < 2 ^ (m * s) → is_product m s u (a * 2 ^ (m * s) + r) ≡ is_product m s u r
unfolding is_product
product_low m s u a r l =
    all_congr m _ _ (λ v k. ap (λ (c : ℕ). eqb c (bit (has u v)))
    (count_congr s (λ j. has (a * 2 ^ (m * s) + r) (m * j + v)) (λ j. has r (m * j + v)) (λ j h. has_low (m * s) a r (m * j + v) (place_lt m s j v h k))))

-- with no share at all only the empty term has a product
pub product_none : (m u p : ℕ) → u < 2 ^ m → is_product m 0 u p ≡ eqb u 0
unfolding is_product total
product_none m u p l =
    bool_ext _ _
    (λ e. eq-eqb u 0 (sets-eq m u 0 l (pow_pos m) (λ v k. sym (bit_inj false (has u v) (eqb-true _ _ (all_at m _ e v k))) ∙ sym (has_none v))))
    (λ e. all_intro m _ (λ v k. eq-eqb 0 (bit (has u v)) (sym (ap (λ (x : ℕ). bit (has x v)) (eqb-true u 0 e) ∙ ap bit (has_none v)))))
