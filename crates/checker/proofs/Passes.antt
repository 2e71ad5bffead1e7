-- Passes over the sharings of a stage, and the trials that they add up to.
-- Assumes nothing.
use mathlib.Core.Path.{◌≡◌, refl, sym, ap, ◌∙◌}
use Rattle.std.specs.Prelude.{Option, Some, None, is_some}
use mathlib.Core.Bool.{Bool, true, false, not, ◌||◌}
use Prim.Native.Nat.{ℕ, zero, suc, ◌+◌, ◌*◌, ◌-◌, ◌^◌, ◌<◌, ◌≤◌}
use native.Mathlib.Nat.{mul-add, add-mul, mul-le-mul}
use native.Mathlib.Numerals.{add-one}
use native.Mathlib.Omega.{arith}
use lib.Dec.{eqb}
use lib.Pow.{pow_mono}
use borrow.Author.Tests.{le-leb}
use Rattle.finite.specs.Tests.{pick, any, first, tried, total}
use Rattle.finite.specs.Maps.{repeats}
use Rattle.std.proofs.lemmas.Bool.{and_from}
use Rattle.finite.proofs.Testing.{pick_true, pick_false, any_at, any_not, first_found, first_is, tried_all, tried_most}
use Rattle.finite.proofs.Faults.{fault_either, fault_none}
use Rattle.design.specs.Limits.{greatest_share_bits, greatest_stages}
use Rattle.records.specs.Design.{Stage, Design, stage_of}
use Rattle.sharing.specs.Stages.{output, correct}
use Rattle.checker.specs.Trials.{sums_wrong, output_met, correctness_tries, uniformity_tries, correctness_at, uniformity_at, both_passes, trials_of}
use Rattle.checker.specs.Inside.Parts.{found, FoundBelow, tries_until, stage_judged, stage_tries}
use Rattle.checker.specs.Verdict.{Verdict}

-- ---- the first that is found

module _ (n : ℕ) (p : ℕ → Bool) where
  pub found_at : (x : ℕ) → x < n → any x p ≡ false → p x ≡ true → Some x ≡ found n p
  unfolding found
  found_at x l a h = ap Some (sym (first_found n p x l a h)) ∙ sym (pick_true (any n p) _ _ (any_at n p x l h))

  pub found_none : any n p ≡ false → None ≡ found n p
  unfolding found
  found_none a = sym (pick_false (any n p) _ _ a)

  pub some_found : is_some (found n p) ≡ any n p
  unfolding found
  some_found = go (any n p)
    where
      go : (b : Bool) → is_some (pick b (Some (first n p)) None) ≡ b
      go true = refl
      go false = refl

  pub found_is : (x : ℕ) → Some x ≡ found n p → (any n p ≡ true) × (first n p ≡ x)
  unfolding found
  found_is x = go (any n p)
    where
      go : (b : Bool) → Some x ≡ pick b (Some (first n p)) None → (b ≡ true) × (first n p ≡ x)
      go true e = (refl, cc)
      go false e = absurd (cc)

  pub none_found : None ≡ found n p → any n p ≡ false
  unfolding found
  none_found = go (any n p)
    where
      go : (b : Bool) → None ≡ pick b (Some (first n p)) None → b ≡ false
      go true e = absurd (cc)
      go false e = refl

  found_below : FoundBelow n (found n p)
  unfolding found FoundBelow
  found_below = go (any n p) refl
    where
      go : (b : Bool) → any n p ≡ b → FoundBelow n (pick b (Some (first n p)) None)
      go true e = (first_is n p e).0
      go false e = tt

  pub below : (r : Option ℕ) → r ≡ found n p → FoundBelow n r
  below r e = rw e found_below

  pub tries_found : tries_until n (found n p) ≡ tried n p
  unfolding found tries_until tried
  tries_found = go (any n p)
    where
      go : (b : Bool) → tries_until n (pick b (Some (first n p)) None) ≡ pick b (first n p + 1) n
      go true = refl
      go false = refl

-- ---- what it says of a stage

module _ (w s : ℕ) (g : Stage) where
  pub correctness_stopped : is_some (found (2 ^ (w * s)) (sums_wrong w s g)) ≡ not (correct w s g)
  unfolding correct
  correctness_stopped = some_found (2 ^ (w * s)) _ ∙ any_not (2 ^ (w * s)) _

  pub uniformity_stopped : is_some (found (2 ^ (w * s)) (output_met g)) ≡ repeats (2 ^ (w * s)) (output g.lists)
  unfolding repeats
  uniformity_stopped = some_found (2 ^ (w * s)) _

  pub correctness_all : correct w s g ≡ true → correctness_tries w s g ≡ 2 ^ (w * s)
  unfolding correct
  correctness_all e = tried_all _ _ (any_not (2 ^ (w * s)) _ ∙ ap not e)

  pub uniformity_all : repeats (2 ^ (w * s)) (output g.lists) ≡ false → uniformity_tries w s g ≡ 2 ^ (w * s)
  unfolding repeats
  uniformity_all e = tried_all _ _ e

-- ---- the trials of the first stages

pub twice_more : (n c : ℕ) → 2 * suc n * c ≡ 2 * n * c + c + c
twice_more n c = omega (arith, mul-add 2 1 n, add-mul 2 (2 * n) c)

-- so many sharings are counted in 32 bits
pub few_sharings : (bits : ℕ) → bits ≤ greatest_share_bits → 2 ^ bits < 4294967296
few_sharings bits h = let q : 2 ^ bits ≤ 2 ^ greatest_share_bits = pow_mono h in omega arith

-- within the limits there are few
pub few_trials : (bits t : ℕ) → bits ≤ greatest_share_bits → t ≤ greatest_stages → 2 * t * 2 ^ bits ≤ 2 * greatest_stages * 2 ^ greatest_share_bits
few_trials bits t b h = mul-le-mul {n₁ = 2 * t} {m₁ = 2 ^ bits} {n₂ = 2 * greatest_stages} {m₂ = 2 ^ greatest_share_bits} (omega arith) (pow_mono b)

module _ (d : Design) where
  pub both_none : both_passes d 0 ≡ 0
  unfolding both_passes total
  both_none = refl

  pub both_more : (t : ℕ) → both_passes d (t + 1) ≡ correctness_at d t + uniformity_at d t + both_passes d t
  unfolding both_passes total
  both_more t = rw add-one refl

  module _ (t : ℕ) where
    pub correctness_most : correctness_at d t ≤ 2 ^ (d.m * d.s)
    correctness_most = tried_most (2 ^ (d.m * d.s)) (sums_wrong d.m d.s (stage_of d t))

    pub uniformity_most : uniformity_at d t ≤ 2 ^ (d.m * d.s)
    uniformity_most = tried_most (2 ^ (d.m * d.s)) (output_met (stage_of d t))

  -- two passes over all sharings for each of n stages
  pub both_most : (n : ℕ) → both_passes d n ≤ 2 * n * 2 ^ (d.m * d.s)
  unfolding both_passes total
  both_most zero = omega arith
  both_most (suc n) =
      omega (arith, correctness_most n, uniformity_most n, both_most n, twice_more n (2 ^ (d.m * d.s)))

-- ---- a verdict with 1 to 11 takes none

module _ (d : Design) where
  pub untried : (v : Verdict) → 1 ≤ v.reason → v.reason ≤ 11 → trials_of d v ≡ 0
  unfolding trials_of
  untried v l h = pick_true _ _ _ (and_from _ _ (le-leb 1 v.reason l) (le-leb v.reason 11 h))

-- ---- the trials of one stage

module _ (d : Design) (t : ℕ) where
  pub tries_most : (reason : ℕ) → stage_tries d t reason ≤ 2 ^ (d.m * d.s) + 2 ^ (d.m * d.s)
  tries_most reason = go (eqb reason 12 || eqb reason 13)
    where
      go : (b : Bool) → correctness_at d t + pick b 0 (uniformity_at d t) ≤ 2 ^ (d.m * d.s) + 2 ^ (d.m * d.s)
      go true = omega (arith, correctness_most d t)
      go false = omega (arith, correctness_most d t, uniformity_most d t)

  -- the trials of a verdict that names a fault of stage t are those of the stages before and of this one
  pub at_fault : ((stage_judged d t).reason ≡ 0 → ⊥) → trials_of d (stage_judged d t) ≡ both_passes d t + stage_tries d t (stage_judged d t).reason
  unfolding stage_judged trials_of
  at_fault =
      fault_either Counts _ _ _ _ (λ e n. one (t + 1 - 1) (omega arith))
      (λ e. fault_either Counts _ _ _ _ (λ e n. one (t + 1 - 1) (omega arith))
      (λ e. fault_either Counts _ _ _ _ (λ e n. both) (λ e. rw fault_none (λ n. absurd (n refl)))))
    where
      Counts : Verdict → Type 0
      Counts v = (v.reason ≡ 0 → ⊥) → trials_of d v ≡ both_passes d t + stage_tries d t v.reason

      one : (x : ℕ) → x ≡ t → both_passes d x + correctness_at d x ≡ both_passes d t + (correctness_at d t + 0)
      one x q = rw q (omega arith)

      both : both_passes d (t + 1) ≡ both_passes d t + (correctness_at d t + uniformity_at d t)
      both = omega (arith, both_more d t)
