-- The lists that `expand` and `gather` of Rule make, over plain values, each premise as the code has it: l₀ is a list at first, l before a step and l' after
-- it.
use mathlib.Core.Path.{◌≡◌, sym, ap, ap₂, ◌∙◌}
use mathlib.Core.Bool.{Bool, true, false}
use mathlib.Core.List.{List, [], ◌∷◌}
use Prim.Native.Nat.{ℕ, ◌+◌, ◌-◌, ◌*◌, ◌^◌, ◌≤◌, ◌<◌}
use native.Mathlib.Omega.{arith}
use lib.Pow.{pow_mono}
use lib.Bits.{bit_or}
use lib.Count.{ones}
use lib.ListN.{length, get_or, take, length-take}
use lib.Seq.{get_or-take}
use mir.Syntax.{w32, w64}
use mir.Val.{Fits}
use Rattle.finite.specs.Sets.{has}
use Rattle.finite.proofs.Testing.{pick_true, pick_false}
use Rattle.design.specs.Limits.{broken}
use Rattle.direct.specs.Inside.Outside.{Outside, most_terms}
use Rattle.design.proofs.Limits.{bounds}
use Rattle.sharing.proofs.Sharing.{place_lt}
use Rattle.direct.specs.Direct.{direct_list}
use Rattle.direct.specs.Inside.Expanding.{appended, emitted}
use Rattle.design.specs.Inside.Inserting.{inserted, inserted_all}
use Rattle.design.proofs.Inserting.{inserted_one, inserted_none}
use Rattle.direct.proofs.Emission.{ending_here, ending_other, emitted_end, onward, variable_lt, fewer, emitted_each, appended_within, appended_turn, appended_zero}
use Rattle.design.proofs.Inserting.{inserted_all_length}
use Rattle.direct.proofs.DirectList.{bringing, bringing_fits, gathered_all}

-- ---- `expand`: the products of the variables of u, on top of p, for which the shares J are chosen

-- no variable is left, and k is the component for J
module _ (m s : ℕ) (place : ℕ → ℕ) (u c p J : ℕ) (z : u ≡ 0) (k : ℕ) (e : k ≡ place J) where
  one : k ≡ c → emitted m s place u c m p J ≡ p ∷ []
  one q = emitted_end m s place u c p J z ∙ ending_here place c p J (sym e ∙ q)

  pub room_here : k ≡ c → (l : List ℕ) → length l + length (emitted m s place u c m p J) ≤ most_terms → length l < most_terms
  room_here q l r = omega (arith, ap length (one q))

  pub goes_here : k ≡ c → (l l' : List ℕ) → l' ≡ inserted p l → l' ≡ inserted_all (emitted m s place u c m p J) l
  goes_here q l l' i = i ∙ sym (ap (λ (ts : List ℕ). inserted_all ts l) (one q) ∙ inserted_one p l)

  pub goes_elsewhere : (k ≡ c → ⊥) → (l : List ℕ) → l ≡ inserted_all (emitted m s place u c m p J) l
  goes_elsewhere f l = sym (ap (λ (ts : List ℕ). inserted_all ts l) (emitted_end m s place u c p J z ∙ ending_other place c p J (λ q. f (e ∙ q))) ∙ inserted_none l)

-- v is the highest variable of u, and r is what is left without it
module _ (m s u v : ℕ) (t : 2 ^ v ≤ u) (h : u < 2 * 2 ^ v) (l : u < 2 ^ m) where
  pub fewer_left : (r k : ℕ) → r ≡ u - 2 ^ v → ones u ≡ k → ones r < k
  fewer_left r k e z = rw (e, ← z) (fewer m s u v t h l)

  pub left_within : (r : ℕ) → r ≡ u - 2 ^ v → r < 2 ^ m
  left_within r e = omega arith

  module _ (place : ℕ → ℕ) (c p J r : ℕ) (e : r ≡ u - 2 ^ v) where
    shared : emitted m s place u c m p J ≡ appended s (onward m s place c r v p J)
    shared = emitted_each m s u v t h l place c p J ∙ ap (λ (x : ℕ). appended s (onward m s place c x v p J)) (sym e)

    -- q and K are p and J with share j too
    pub room_share : (l₀ l₁ : List ℕ) → length l₀ + length (emitted m s place u c m p J) ≤ most_terms → (j q K : ℕ) → j < s → l₁ ≡ inserted_all (appended j (onward m s place c r v p J)) l₀
        → q ≡ bit_or p (2 ^ (m * j + v)) → K ≡ bit_or J (2 ^ j) → length l₁ + length (emitted m s place r c m q K) ≤ most_terms
    room_share l₀ l₁ o j q K i le qe Ke =
        let this : emitted m s place r c m q K ≡ onward m s place c r v p J j = unfold onward in ap₂ (emitted m s place r c m) qe Ke in
        omega (
          arith,
          ap length this,
          ap length le,
          inserted_all_length (appended j (onward m s place c r v p J)) l₀,
          appended_within s j (onward m s place c r v p J) i,
          ap length shared,
        )

    pub shares_all : (l₀ l₁ : List ℕ) (j : ℕ) → j ≤ s → s ≤ j → l₁ ≡ inserted_all (appended j (onward m s place c r v p J)) l₀ → l₁ ≡ inserted_all (emitted m s place u c m p J) l₀
    shares_all l₀ l₁ j a b le =
        let q : j ≡ s = omega arith in
        le ∙ ap (λ (ts : List ℕ). inserted_all ts l₀) (ap (λ (k : ℕ). appended k (onward m s place c r v p J)) q ∙ sym shared)

-- a turn of the loop over the shares
pub shares_more : (m s : ℕ) (place : ℕ → ℕ) (r c v p J j q K : ℕ) (l₀ l l' : List ℕ) → l ≡ inserted_all (appended j (onward m s place c r v p J)) l₀ → l' ≡ inserted_all (emitted m s place r c m q K) l
    → q ≡ bit_or p (2 ^ (m * j + v)) → K ≡ bit_or J (2 ^ j) → l' ≡ inserted_all (appended (j + 1) (onward m s place c r v p J)) l₀
shares_more m s place r c v p J j q K l₀ l l' le e qe Ke =
    let this : emitted m s place r c m q K ≡ onward m s place c r v p J j = unfold onward in ap₂ (emitted m s place r c m) qe Ke in
    e ∙ ap₂ (λ (ts x : List ℕ). inserted_all ts x) this le ∙ appended_turn (onward m s place c r v p J) j l₀

-- ---- the sets of shares and of share bits

module _ (m s : ℕ) (limits : broken m s 1 ≡ false) where
  pub share_low : (j : ℕ) → j < s → j < 32
  share_low j k = omega (arith, (bounds m s 1 limits).s_high)

  pub width_low : m < 32
  width_low = omega (arith, (bounds m s 1 limits).m_high)

  pub width_shifts : m < 64
  width_shifts = omega (arith, width_low)

  pub bit_low : (b : ℕ) → b < m → b < 32
  bit_low b l = omega (arith, width_low)

  module _ (u v j : ℕ) (k : j < s) (t : 2 ^ v ≤ u) (h : u < 2 * 2 ^ v) (l : u < 2 ^ m) where
    pub place_low : m * j + v < 32
    place_low = omega (arith, (bounds m s 1 limits).bits, place_lt m s j v k (variable_lt m s u v t h l))

    pub place_fits : Fits w64 (m * j + v)
    place_fits = record { fits = omega (arith, place_low) }

    pub row_fits : Fits w64 (m * j)
    row_fits = record { fits = omega (arith, place_low) }

-- ---- `gather`: w are the coefficient words, of which the first k are gone over, and x is word u

module _ (m s : ℕ) (place : ℕ → ℕ) (limits : broken m s 1 ≡ false) (c b u : ℕ) (w : List ℕ) (l : List ℕ) (e : l ≡ inserted_all (appended u (bringing m s place c b w)) []) (k : ℕ) (z : k ≡ 2 ^ m) where
  module _ (i : u < length (take k w)) where
    u_low : u < k
    u_low = omega (arith, length-take k w)

    pub term_cast : Fits w32 u
    term_cast = record { fits = omega (arith, u_low, pow_mono (bounds m s 1 limits).m_high) }

    module _ (x : ℕ) (ex : x ≡ get_or (take k w) u 0) (h : Bool) (q : h ≡ has x b) where
      has_word : h ≡ has (get_or w u 0) b
      has_word = q ∙ ap (λ (y : ℕ). has y b) (ex ∙ get_or-take k w u 0 u_low)

      module _ (t : h ≡ true) where
        brought_is : bringing m s place c b w u ≡ emitted m s place u c m 0 0
        unfolding bringing
        brought_is = pick_true (has (get_or w u 0) b) _ [] (sym has_word ∙ t)

        pub room_term : Outside s place → c < s → length l + length (emitted m s place u c m 0 0) ≤ most_terms
        room_term o lc = let j : u < 2 ^ m = omega (arith, u_low) in omega (arith, ap length e, ap length brought_is, bringing_fits m s place limits c b w o lc u j)

        pub gathers_more : (l' : List ℕ) → l' ≡ inserted_all (emitted m s place u c m 0 0) l → l' ≡ inserted_all (appended (u + 1) (bringing m s place c b w)) []
        gathers_more l' o = o ∙ ap₂ (λ (ts y : List ℕ). inserted_all ts y) (sym brought_is) e ∙ appended_turn (bringing m s place c b w) u []

      pub gathers_none : h ≡ false → l ≡ inserted_all (appended (u + 1) (bringing m s place c b w)) []
      unfolding bringing
      gathers_none f =
          let so_far = inserted_all (appended u (bringing m s place c b w)) [] in
          e ∙ sym (inserted_none so_far) ∙ ap (λ (ts : List ℕ). inserted_all ts so_far) (sym (pick_false (has (get_or w u 0) b) _ [] (sym has_word ∙ f)))
          ∙ appended_turn (bringing m s place c b w) u []

  pub all_gathered : 2 ^ m ≤ length w → u ≤ length (take k w) → length (take k w) ≤ u → (words : ℕ → ℕ) → words ≡ (λ v. get_or w v 0) → l ≡ direct_list m s place words c b
  all_gathered r i o words ws =
      let d : u ≡ 2 ^ m = omega (arith, length-take k w) in
      e ∙ ap (λ (n : ℕ). inserted_all (appended n (bringing m s place c b w)) []) d ∙ gathered_all m s place limits c b w ∙ sym (ap (λ (f : ℕ → ℕ). direct_list m s place f c b) ws)

pub gathered_none : (f : ℕ → List ℕ) (l : List ℕ) → l ≡ [] → l ≡ inserted_all (appended 0 f) []
gathered_none f l e = e ∙ appended_zero f []
