-- What joining answers and leaves: every number explained, 0 exactly when the files can be joined and the joined file fits, and what stands in the output.
-- Each test is one case and means its fact. Assumes nothing.
use mathlib.Core.Path.{◌≡◌, refl, sym, ap, ◌∙◌, subst}
use mathlib.Core.Logic.{◌↔◌, ◌≢◌}
use mathlib.Core.Bool.{Bool, true, false, not}
use mathlib.Core.List.{List, [], ◌∷◌}
use Prim.Native.Nat.{ℕ, ◌+◌, ◌≤◌, ◌<◌}
use native.Mathlib.Omega.{arith}
use lib.Dec.{eqb, ltb}
use lib.ListN.{length, take, drop}
use borrow.Author.Tests.{eqb-true, eq-eqb, ltb-true, ltb-false, lt-ltb, le-ltb, not-true, not-false}
use Rattle.finite.specs.Faults.{first_fault}
use Rattle.finite.proofs.Testing.{clash}
use Rattle.std.proofs.lemmas.Bool.{false_from_ne_true, and_from, and_parts}
use Rattle.finite.proofs.Faults.{fault_here, fault_past, fault_either, fault_none}
use Rattle.records.proofs.Output.{success_file, success_rest, refusal_after}
use Rattle.design.specs.Limits.{greatest_stages}
use Rattle.records.specs.Design.{Design}
use Rattle.records.specs.Encode.{encode}
use Rattle.design.specs.Reading.{Reading, refused, means, reading}
use Rattle.design.proofs.Reasons.{reason_range}
use Rattle.joiner.specs.Joining.{joined_design, joined, same_shares, designs_reason, reason_by, joined_reason, joined_after, Joinable, JoiningExplained}
use Rattle.joiner.specs.Joining.{first_refused, second_refused, shares_differ, stages_exceed, output_short, joins}
use Rattle.joiner.proofs.JoinedDesign.{joined_is}

-- equal widths and share counts, as a test
module _ (d e : Design) where
  same_shares_lem : d.m ≡ e.m → d.s ≡ e.s → same_shares d e ≡ true
  same_shares_lem p q = and_from _ _ (eq-eqb _ _ p) (eq-eqb _ _ q)

  shares_same : same_shares d e ≡ true → (d.m ≡ e.m) × (d.s ≡ e.s)
  shares_same h = (eqb-true _ _ (and_parts (eqb d.m e.m) _ h).0, eqb-true _ _ (and_parts (eqb d.m e.m) _ h).1)

-- ---- each number of two designs

module _ (d e : Design) (room : ℕ) where
  pub differ_answered : ¬ ((d.m ≡ e.m) × (d.s ≡ e.s)) → designs_reason d e room ≡ 19
  unfolding designs_reason
  differ_answered n = fault_here _ 19 _ 0 (ap not (false_from_ne_true _ (λ h. n (shares_same d e h))))

  module _ (em : d.m ≡ e.m) (es : d.s ≡ e.s) where
    same : not (same_shares d e) ≡ false
    same = ap not (same_shares_lem d e em es)

    pub exceed_answered : greatest_stages < d.k + e.k → designs_reason d e room ≡ 20
    unfolding designs_reason
    exceed_answered l = fault_past _ 19 _ 0 same ∙ fault_here _ 20 _ 0 (lt-ltb _ _ l)

    -- only the room is left to be tested
    pub room_answered : d.k + e.k ≤ greatest_stages → designs_reason d e room ≡ first_fault ((ltb room (length (encode (joined_design d e))), 17) ∷ []) 0
    unfolding designs_reason
    room_answered h = fault_past _ 19 _ 0 same ∙ fault_past _ 20 _ 0 (le-ltb _ _ h)

-- ---- explained

module _ (f g : List ℕ) (room : ℕ) where
  -- a test and those after it
  either : (b : Bool) (r : ℕ) (fs : List (Bool × ℕ)) → (b ≡ true → JoiningExplained f g room r) → (b ≡ false → JoiningExplained f g room (first_fault fs 0))
      → JoiningExplained f g room (first_fault ((b, r) ∷ fs) 0)
  either b r fs = fault_either (JoiningExplained f g room) b r fs 0

  designs_explained : (d e : Design) → reading f ≡ means d → reading g ≡ means e → JoiningExplained f g room (designs_reason d e room)
  unfolding designs_reason
  designs_explained d e a b =
      let size : length (joined f g) ≡ length (encode (joined_design d e)) = ap length (joined_is f g d e a b) in
      either (not (same_shares d e)) _ _
      (λ h. shares_differ _ _ a b (λ p. clash (same_shares_lem d e p.0 p.1) (not-true _ h)))
      (λ h. let p = shares_same d e (not-false _ h) in
      either (ltb greatest_stages (d.k + e.k)) _ _
      (λ h. stages_exceed _ _ a b p.0 p.1 (ltb-true _ _ h))
      (λ h. let j : Joinable f g d e = record { first = a; second = b; width = p.0; shares = p.1; stages = ltb-false _ _ h } in
      either (ltb room (length (encode (joined_design d e)))) _ _
      (λ h. output_short _ _ j (rw size (ltb-true _ _ h)))
      (λ h. rw (fault_none {A = ℕ} 0) (joins _ _ j (rw size (ltb-false _ _ h))))))

  files_explained : (x y : Reading) → reading f ≡ x → reading g ≡ y → JoiningExplained f g room (reason_by x y room)
  files_explained (refused r p) y a b = first_refused r p a
  files_explained (means d) (refused r p) a b = second_refused d r p a b
  files_explained (means d) (means e) a b = designs_explained d e a b

  reason_explained : JoiningExplained f g room (joined_reason f g room)
  unfolding joined_reason
  reason_explained = files_explained (reading f) (reading g) refl refl

-- ---- the other way: what is explained is answered

module _ (f g : List ℕ) (room : ℕ) where
  pub first_answered : (r p : ℕ) → reading f ≡ refused r p → joined_reason f g room ≡ r
  unfolding joined_reason
  first_answered r p a = rw a refl

  pub second_answered : (d : Design) (r p : ℕ) → reading f ≡ means d → reading g ≡ refused r p → joined_reason f g room ≡ r
  unfolding joined_reason
  second_answered d r p a b = rw (a, b) refl

  pub both_answered : (d e : Design) → reading f ≡ means d → reading g ≡ means e → joined_reason f g room ≡ designs_reason d e room
  unfolding joined_reason
  both_answered d e a b = rw (a, b) refl

  joinable_answered : (d e : Design) → Joinable f g d e → joined_reason f g room ≡ first_fault ((ltb room (length (joined f g)), 17) ∷ []) 0
  joinable_answered d e j =
      both_answered d e j.first j.second ∙ room_answered d e room j.width j.shares j.stages
      ∙ ap (λ (x : List ℕ). first_fault ((ltb room (length x), 17) ∷ []) 0) (sym (joined_is f g d e j.first j.second))

  explained_answered : (r : ℕ) → JoiningExplained f g room r → joined_reason f g room ≡ r
  explained_answered n (first_refused r p a) = first_answered r p a
  explained_answered n (second_refused d r p a b) = second_answered d r p a b
  explained_answered n (shares_differ d e a b h) = both_answered d e a b ∙ differ_answered d e room h
  explained_answered n (stages_exceed d e a b em es l) = both_answered d e a b ∙ exceed_answered d e room em es l
  explained_answered n (output_short d e j l) = joinable_answered d e j ∙ fault_here _ 17 _ 0 (lt-ltb _ _ l)
  explained_answered n (joins d e j l) = joinable_answered d e j ∙ fault_past _ 17 _ 0 (le-ltb _ _ l) ∙ fault_none 0

-- a number is answered exactly when it is explained
pub joined_explained : (f g : List ℕ) (room r : ℕ) → (joined_reason f g room ≡ r) ↔ JoiningExplained f g room r
joined_explained f g room r = (λ e. subst (JoiningExplained f g room) e (reason_explained f g room), explained_answered f g room r)

-- ---- 0 and 17

module _ (f g : List ℕ) (room : ℕ) where
  -- 0 is answered exactly when the files can be joined and the joined file fits
  pub joined_exactly : (joined_reason f g room ≡ 0) ↔ ((d : Design) × (e : Design) × Joinable f g d e × (length (joined f g) ≤ room))
  joined_exactly = (λ z. to _ (reason_explained f g room) z, λ p. explained_answered f g room 0 (joins p.0 p.1 p.2 p.3))
    where
      to : (r : ℕ) → JoiningExplained f g room r → r ≡ 0 → (d : Design) × (e : Design) × Joinable f g d e × (length (joined f g) ≤ room)
      to n (first_refused r p a) z = absurd (omega (arith, reason_range f r p a))
      to n (second_refused d r p a b) z = absurd (omega (arith, reason_range g r p b))
      to n (shares_differ d e a b h) z = absurd (omega arith)
      to n (stages_exceed d e a b em es l) z = absurd (omega arith)
      to n (output_short d e j l) z = absurd (omega arith)
      to n (joins d e j l) z = (d, e, j, l)

  -- 17 exactly when they can be joined and it does not fit
  pub joined_seventeen : (joined_reason f g room ≡ 17) ↔ ((d : Design) × (e : Design) × Joinable f g d e × (room < length (joined f g)))
  joined_seventeen = (λ z. to _ (reason_explained f g room) z, λ p. explained_answered f g room 17 (output_short p.0 p.1 p.2 p.3))
    where
      to : (r : ℕ) → JoiningExplained f g room r → r ≡ 17 → (d : Design) × (e : Design) × Joinable f g d e × (room < length (joined f g))
      to n (first_refused r p a) z = absurd (omega (arith, reason_range f r p a))
      to n (second_refused d r p a b) z = absurd (omega (arith, reason_range g r p b))
      to n (shares_differ d e a b h) z = absurd (omega arith)
      to n (stages_exceed d e a b em es l) z = absurd (omega arith)
      to n (output_short d e j l) z = (d, e, j, l)
      to n (joins d e j l) z = absurd (omega arith)

-- ---- the lent output

module _ (f g out : List ℕ) where
  -- on success the file stands at its start, whatever stood there
  pub joined_file : joined_reason f g (length out) ≡ 0 → take (length (joined f g)) (joined_after f g out) ≡ joined f g
  joined_file e = success_file _ (joined f g) e out

  -- and past the file nothing has changed
  pub joined_rest : joined_reason f g (length out) ≡ 0 → drop (length (joined f g)) (joined_after f g out) ≡ drop (length (joined f g)) out
  joined_rest e = success_rest _ (joined f g) e out

  -- a refusal leaves the output untouched
  pub joined_refused : joined_reason f g (length out) ≢ 0 → joined_after f g out ≡ out
  joined_refused n = refusal_after _ (joined f g) n out
