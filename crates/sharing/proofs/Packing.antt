-- A sharing packed of its shares: it is told by them. Assumes nothing.
use mathlib.Core.Path.{◌≡◌, refl, sym, ap, ◌∙◌, subst}
use mathlib.Core.List.{List}
use Prim.Native.Nat.{ℕ, zero, suc, ◌+◌, ◌*◌, ◌^◌, ◌<◌}
use native.Mathlib.Nat.{not-suc-le-zero, mul_comm, add_comm, le_refl, le_step}
use native.Mathlib.Numerals.{add-one}
use native.Mathlib.Decide.{ℕ_discrete}
use lib.Arith.{digits_lt}
use lib.ListN.{length, get_or, set}
use lib.Seq.{get_or-set_same, get_or-set_other}
use Rattle.finite.specs.Tests.{total}
use Rattle.finite.proofs.Testing.{below}
use Rattle.sharing.specs.Sharing.{share, setting, with_share, packed}
use Rattle.sharing.proofs.Sharing.{share_low, share_top, share_put, share_with, with_lt, pow_step, pow_zeroth, shares_eq}

pub packed_none : (w : ℕ) (l : List ℕ) → packed w 0 l ≡ 0
unfolding packed total
packed_none w l = refl

packed_suc : (w s : ℕ) (l : List ℕ) → packed w (suc s) l ≡ get_or l s 0 * 2 ^ (w * s) + packed w s l
unfolding packed total
packed_suc w s l = refl

pub packed_next : (w s : ℕ) (l : List ℕ) → packed w (s + 1) l ≡ packed w s l + get_or l s 0 * 2 ^ (w * s)
packed_next w s l = rw add-one (packed_suc w s l ∙ add_comm (get_or l s 0 * 2 ^ (w * s)) (packed w s l))

pub packed_lt : (w s : ℕ) (l : List ℕ) → ((j : ℕ) → j < s → get_or l j 0 < 2 ^ w) → packed w s l < 2 ^ (w * s)
packed_lt w zero l h = rw (packed_none, pow_zeroth) (le_refl 1)
packed_lt w (suc s) l h =
    rw (packed_suc w s l, pow_step w s)
    (subst (λ (x : ℕ). get_or l s 0 * 2 ^ (w * s) + packed w s l < x) (mul_comm (2 ^ w) (2 ^ (w * s)))
    (digits_lt (h s (le_refl (suc s))) (packed_lt w s l (λ j k. h j (le_step k)))))

-- share j of them is byte j
pub share_packed : (w s : ℕ) (l : List ℕ) → ((j : ℕ) → j < s → get_or l j 0 < 2 ^ w) → (j : ℕ) → j < s → share w j (packed w s l) ≡ get_or l j 0
share_packed w zero l h j k = absurd (not-suc-le-zero k)
share_packed w (suc s) l h j k =
    let below' : (i : ℕ) → i < s → get_or l i 0 < 2 ^ w = λ i u. h i (le_step u) in
    let r = packed_lt w s l below' in
    ap (share w j) (packed_suc w s l)
    ∙ below k
    (λ e. rw e (share_top w s (get_or l s 0) (packed w s l) (h s (le_refl (suc s))) r))
    (λ u. share_low w s j (get_or l s 0) (packed w s l) u r ∙ share_packed w s l below' j u)

-- a change of byte j alone
pub packed_set : (w s : ℕ) (l : List ℕ) → length l ≡ s → ((i : ℕ) → i < s → get_or l i 0 < 2 ^ w) → (j v : ℕ) → j < s → v < 2 ^ w
    → packed w s (set l j v) ≡ with_share w j v (packed w s l)
packed_set w s l n h j v k hv =
    shares_eq w s (packed w s (set l j v)) (with_share w j v (packed w s l)) (packed_lt w s (set l j v) (λ i u. small i u (ℕ_discrete i j)))
    (with_lt w s j v (packed w s l) k hv (packed_lt w s l h))
    (λ i u. share_packed w s (set l j v) (λ a b. small a b (ℕ_discrete a j)) i u ∙ go i u (ℕ_discrete i j))
  where
    same : get_or (set l j v) j 0 ≡ v
    same = get_or-set_same l j v 0 (subst (λ (x : ℕ). j < x) (sym n) k)

    small : (i : ℕ) → i < s → Dec (i ≡ j) → get_or (set l j v) i 0 < 2 ^ w
    small i u (yes e) = rw (e, same) hv
    small i u (no e) = rw (get_or-set_other l j i v 0 e) (h i u)

    go : (i : ℕ) → i < s → Dec (i ≡ j) → get_or (set l j v) i 0 ≡ share w i (with_share w j v (packed w s l))
    go i u (yes e) = rw e (same ∙ sym (share_put w j v (setting w j (packed w s l)) hv))
    go i u (no e) = get_or-set_other l j i v 0 e ∙ sym (share_with w j i v (packed w s l) e hv ∙ share_packed w s l h i u)
