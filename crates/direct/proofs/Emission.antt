-- The emission of products, as the recursion over the variables left in a term makes it: from the highest variable down, and share by share.
use mathlib.Core.Path.{◌≡◌, refl, sym, ap, ap₂, ◌∙◌}
use mathlib.Core.Bool.{true}
use mathlib.Core.List.{List, [], ◌∷◌, ◌++◌}
use Prim.Native.Nat.{ℕ, zero, suc, ◌+◌, ◌-◌, ◌*◌, ◌^◌, ◌≤◌, ◌<◌}
use native.Mathlib.Nat.{pow-suc}
use native.Mathlib.Numerals.{add-one}
use native.Mathlib.Decide.{dec_lt, ℕ_discrete}
use native.Mathlib.Omega.{arith}
use lib.Dec.{eqb}
use lib.Bits.{bit_or}
use lib.Count.{ones}
use lib.Pow.{pow_mono}
use lib.ListN.{length, length-append}
use borrow.Author.Tests.{eq-eqb, ne_eqb}
use Rattle.finite.specs.Tests.{pick}
use Rattle.finite.specs.Sets.{has}
use Rattle.finite.proofs.Elements.{has_low, has_odd, has_beyond, ones_top}
use Rattle.finite.proofs.Testing.{below, pick_true, pick_false}
use Rattle.direct.specs.Inside.Expanding.{appended, ending, emitted}
use Rattle.design.specs.Inside.Inserting.{inserted_all}
use Rattle.design.proofs.Inserting.{inserted_all_append}

-- ---- appended lists

appended_more : (n : ℕ) (f : ℕ → List ℕ) → appended (n + 1) f ≡ appended n f ++ f n
unfolding appended
appended_more n f = rw add-one refl

pub appended_within : (n j : ℕ) (f : ℕ → List ℕ) → j < n → length (appended j f) + length (f j) ≤ length (appended n f)
unfolding appended
appended_within zero j f l = absurd (omega arith)
appended_within (suc n) j f l =
    below l
    (λ e. omega (arith, length-append (appended n f) (f n), ap (λ (k : ℕ). length (appended k f)) e, ap (λ (k : ℕ). length (f k)) e))
    (λ k. omega (arith, length-append (appended n f) (f n), appended_within n j f k))

-- ---- the end

pub ending_here : (place : ℕ → ℕ) (c p J : ℕ) → place J ≡ c → ending place c p J ≡ p ∷ []
unfolding ending
ending_here place c p J e = pick_true (eqb (place J) c) (p ∷ []) [] (eq-eqb _ _ e)

pub ending_other : (place : ℕ → ℕ) (c p J : ℕ) → (place J ≡ c → ⊥) → ending place c p J ≡ []
unfolding ending
ending_other place c p J e = pick_false (eqb (place J) c) (p ∷ []) [] (ne_eqb _ _ e)

-- ---- one variable more

-- what share j of variable v gives
abbrev pub through : ℕ → ℕ → (ℕ → ℕ) → ℕ → ℕ → ℕ → ℕ → ℕ → ℕ → List ℕ
through m s place u c v p J j = emitted m s place u c v (bit_or p (2 ^ (m * j + v))) (bit_or J (2 ^ j))

emitted_variable : (m s : ℕ) (place : ℕ → ℕ) (u c v p J : ℕ) → has u v ≡ true → emitted m s place u c (suc v) p J ≡ appended s (through m s place u c v p J)
unfolding emitted
emitted_variable m s place u c v p J e = pick_true (has u v) _ _ e

-- ---- the variables of a set from the highest down

-- places above the set are passed over
emitted_high : (m s : ℕ) (place : ℕ → ℕ) (u c n k p J : ℕ) → u < 2 ^ n → n ≤ k → emitted m s place u c k p J ≡ emitted m s place u c n p J
unfolding emitted
emitted_high m s place u c n zero p J l h = let e : n ≡ 0 = omega arith in rw e refl
emitted_high m s place u c n (suc k) p J l h = at (λ g. emitted_high m s place u c n k p J l g) (ℕ_discrete n (suc k))
  where
    at : (n ≤ k → emitted m s place u c k p J ≡ emitted m s place u c n p J) → Dec (n ≡ suc k) → emitted m s place u c (suc k) p J ≡ emitted m s place u c n p J
    at ih (yes e) = ap (λ (x : ℕ). emitted m s place u c x p J) (sym e)
    at ih (no f) =
        let g : n ≤ k = omega arith in
        pick_false (has u k) _ _ (has_beyond u k (omega (arith, pow_mono g))) ∙ ih g

-- the empty set: what stands so far is a product
pub emitted_end : (m s : ℕ) (place : ℕ → ℕ) (u c p J : ℕ) → u ≡ 0 → emitted m s place u c m p J ≡ ending place c p J
unfolding emitted
emitted_end m s place u c p J e = emitted_high m s place u c 0 m p J (omega arith) (omega arith)

appended_congr : (n : ℕ) (f g : ℕ → List ℕ) → ((j : ℕ) → f j ≡ g j) → appended n f ≡ appended n g
unfolding appended
appended_congr zero f g h = refl
appended_congr (suc n) f g h = ap₂ ◌++◌ (appended_congr n f g h) (h n)

-- sets that are alike below a place give the same below it
emitted_alike : (m s : ℕ) (place : ℕ → ℕ) (u r c k p J : ℕ) → ((w : ℕ) → w < k → has u w ≡ has r w) → emitted m s place u c k p J ≡ emitted m s place r c k p J
unfolding emitted
emitted_alike m s place u r c zero p J h = refl
emitted_alike m s place u r c (suc k) p J h =
    rw (h k (omega arith)) (ap₂ (λ (x : List ℕ) (y : List ℕ). pick (has r k) x y)
    (appended_congr s _ _ (λ j. emitted_alike m s place u r c k (bit_or p (2 ^ (m * j + k))) (bit_or J (2 ^ j)) (λ w l. h w (omega arith))))
    (emitted_alike m s place u r c k p J (λ w l. h w (omega arith))))

-- what share j of variable v gives, where the set r of variables is left
unfoldable pub onward : ℕ → ℕ → (ℕ → ℕ) → ℕ → ℕ → ℕ → ℕ → ℕ → ℕ → List ℕ
onward m s place c r v p J j = emitted m s place r c m (bit_or p (2 ^ (m * j + v))) (bit_or J (2 ^ j))

-- v is the highest variable of u
module _ (m s u v : ℕ) (t : 2 ^ v ≤ u) (h : u < 2 * 2 ^ v) (l : u < 2 ^ m) where
  pub variable_lt : v < m
  variable_lt = at (dec_lt v m)
    where
      at : Dec (v < m) → v < m
      at (yes k) = k
      at (no f) = let g : m ≤ v = omega arith in absurd (omega (arith, pow_mono g))

  left_lt : u - 2 ^ v < 2 ^ v
  left_lt = omega arith

  whole : u ≡ 1 * 2 ^ v + (u - 2 ^ v)
  whole = omega arith

  pub fewer : ones (u - 2 ^ v) < ones u
  fewer = let e : u ≡ 2 ^ v + (u - 2 ^ v) = omega arith in omega (arith, ap ones e ∙ ones_top v (u - 2 ^ v) left_lt)

  pub emitted_each : (place : ℕ → ℕ) (c p J : ℕ) → emitted m s place u c m p J ≡ appended s (onward m s place c (u - 2 ^ v) v p J)
  unfolding onward
  emitted_each place c p J =
      emitted_high m s place u c (suc v) m p J (omega (arith, pow-suc 2 v)) variable_lt
      ∙ emitted_variable m s place u c v p J (ap (λ (x : ℕ). has x v) whole ∙ has_odd v 0 (u - 2 ^ v) left_lt)
      ∙ appended_congr s _ _ rest
    where
      rest : (j : ℕ) → emitted m s place u c v (bit_or p (2 ^ (m * j + v))) (bit_or J (2 ^ j)) ≡ emitted m s place (u - 2 ^ v) c m (bit_or p (2 ^ (m * j + v))) (bit_or J (2 ^ j))
      rest j =
          emitted_alike m s place u (u - 2 ^ v) c v _ _ (λ w k. ap (λ (x : ℕ). has x w) whole ∙ has_low v 1 (u - 2 ^ v) w k)
          ∙ sym (emitted_high m s place (u - 2 ^ v) c v m _ _ left_lt (omega (arith, variable_lt)))

-- a turn of a loop that puts each list f j into its place
pub appended_turn : (f : ℕ → List ℕ) (j : ℕ) (l₀ : List ℕ) → inserted_all (f j) (inserted_all (appended j f) l₀) ≡ inserted_all (appended (j + 1) f) l₀
appended_turn f j l₀ = sym (inserted_all_append (appended j f) (f j) l₀) ∙ ap (λ (x : List ℕ). inserted_all x l₀) (sym (appended_more j f))

pub appended_zero : (f : ℕ → List ℕ) (l : List ℕ) → l ≡ inserted_all (appended 0 f) l
unfolding appended inserted_all
appended_zero f l = refl
