-- Two files that can be joined have a joined design that is well formed, so its file reads as it: the box goes entry by entry through the second, and every
-- stage is one of the first or one of the second. Assumes nothing.
use mathlib.Core.Path.{◌≡◌, refl, sym, ap, ap₂, ◌∙◌}
use mathlib.Core.Bool.{false}
use mathlib.Core.List.{List, ◌++◌, map}
use Prim.Native.Nat.{ℕ, ◌+◌, ◌-◌, ◌^◌, ◌≤◌, ◌<◌}
use native.Mathlib.Decide.{dec_lt}
use native.Mathlib.Omega.{arith}
use lib.ListN.{length, get_or, length-append, length-map, get_or-append}
use lib.Seq.{get_or-append-add}
use Rattle.finite.proofs.Testing.{tabulate_at, map_is}
use Rattle.anf.specs.Tables.{entry}
use Rattle.design.specs.Limits.{greatest_stages, broken}
use Rattle.records.specs.Design.{Stage, Design, no_stage, stage_of}
use Rattle.anf.specs.Tables.{TableFits}
use Rattle.design.specs.WellFormed.{StageFits, WellFormed}
use Rattle.records.specs.Encode.{encode}
use Rattle.design.specs.Reading.{means, reading}
use Rattle.design.proofs.Limits.{bounds, unbroken}
use Rattle.design.proofs.Meaning.{read_means}
use Rattle.design.proofs.Theorems.{read_formed, encode_reads}
use Rattle.joiner.specs.Joining.{joined_design, joined, Joinable}

-- ---- a table sent through another

-- each entry of a, sent through b
entry_through : (a b : List ℕ) (x : ℕ) → x < length a → entry (map (entry b) a) x ≡ entry b (entry a x)
entry_through a b x l = ap (λ (t : List ℕ). entry t x) (map_is (entry b) a (length a) 0 refl) ∙ tabulate_at (length a) (λ i. entry b (entry a i)) x 0 l

module _ (m : ℕ) (a b : List ℕ) (v : TableFits m a) where
  pub through_at : (x : ℕ) → x < 2 ^ m → entry (map (entry b) a) x ≡ entry b (entry a x)
  through_at x l = entry_through a b x (omega (arith, v.size))

  through_fits : TableFits m b → TableFits m (map (entry b) a)
  through_fits w = record {
    size = length-map a (entry b) ∙ v.size;
    below = λ x l. rw (through_at x l) (w.below (entry a x) (v.below x l));
  }

-- ---- stages

-- what holds of every stage of the first and of every stage of the second holds of every stage
pub either_stage : (P : Stage → Type 0) (d e : Design) → length d.stages ≡ d.k → ((t : ℕ) → t < d.k → P (stage_of d t)) → ((t : ℕ) → t < e.k → P (stage_of e t))
    → (t : ℕ) → t < d.k + e.k → P (stage_of (joined_design d e) t)
either_stage P d e n p q t l = at (dec_lt t d.k)
  where
    at : Dec (t < d.k) → P (stage_of (joined_design d e) t)
    at (yes h) = rw (get_or-append d.stages e.stages no_stage t (omega arith)) (p t h)
    at (no h) =
        let z : t ≡ length d.stages + (t - d.k) = omega arith in
        rw (ap (λ (i : ℕ). get_or (d.stages ++ e.stages) i no_stage) z ∙ get_or-append-add d.stages e.stages (t - d.k) no_stage) (q (t - d.k) (omega arith))

-- ---- the joined design

module _ (d e : Design) (v : WellFormed d) (w : WellFormed e) (em : d.m ≡ e.m) (es : d.s ≡ e.s) where
  joined_limits : d.k + e.k ≤ greatest_stages → broken d.m d.s (d.k + e.k) ≡ false
  joined_limits h =
      let b = bounds d.m d.s d.k v.limits in
      unbroken d.m d.s (d.k + e.k) b.m_low b.m_high b.s_low b.s_high b.bits (omega arith) h

  second_box : TableFits d.m e.box
  second_box = rw em w.box

  second_stage : (t : ℕ) → t < e.k → StageFits d.m d.s (stage_of e t)
  second_stage t l = rw (em, es) (w.stage t l)

  design_formed : d.k + e.k ≤ greatest_stages → WellFormed (joined_design d e)
  design_formed h = record {
    limits = joined_limits h;
    box = through_fits d.m d.box e.box v.box second_box;
    count = length-append d.stages e.stages ∙ ap₂ ◌+◌ v.count w.count;
    stage = either_stage (StageFits d.m d.s) d e v.count v.stage second_stage;
  }

-- the file that is written of two files that read is the one of the joined design
pub joined_is : (f g : List ℕ) (d e : Design) → reading f ≡ means d → reading g ≡ means e → joined f g ≡ encode (joined_design d e)
unfolding joined
joined_is f g d e a b = sym (ap₂ (λ (x y : Design). encode (joined_design x y)) (read_means f d a) (read_means g e b))

module _ (f g : List ℕ) (d e : Design) (j : Joinable f g d e) where
  pub joined_formed : WellFormed (joined_design d e)
  joined_formed = design_formed d e (read_formed f d j.first) (read_formed g e j.second) j.width j.shares j.stages

  pub joined_reads : reading (joined f g) ≡ means (joined_design d e)
  joined_reads = ap reading (joined_is f g d e j.first j.second) ∙ encode_reads (joined_design d e) joined_formed

  -- its S sends x through S of the first, then through S of the second
  pub joined_box : (x : ℕ) → x < 2 ^ d.m → entry (joined_design d e).box x ≡ entry e.box (entry d.box x)
  joined_box = through_at d.m d.box e.box (read_formed f d j.first).box
