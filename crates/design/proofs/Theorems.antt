-- The file's two theorems. Reading gives d exactly when d is well formed and the file is the one of d; files that read and have equal m, s, k,
-- equal tables and equal component functions are equal byte for byte, since equal functions have equal lists.
use Prim.Native.Nat.{ℕ, ◌*◌, ◌<◌}
use mathlib.Core.Path.{◌≡◌, refl, sym, ap, ◌∙◌}
use mathlib.Core.List.{List, []}
use mathlib.Core.Logic.{◌↔◌}
use lib.Seq.{ext_get_or}
use Rattle.anf.proofs.Terms.{unique_terms}
use Rattle.records.specs.Bytes.{Bytes}
use Rattle.records.specs.Design.{Design, no_stage, stage_of}
use Rattle.design.specs.WellFormed.{WellFormed, SameMeaning}
use Rattle.records.specs.Encode.{encode}
use Rattle.design.specs.Reading.{means, reading}
use Rattle.design.proofs.Meaning.{read_means, read_flat}
use Rattle.design.proofs.Encoded.{flat_reads, stage_eq, design_eq}
use Rattle.design.proofs.WellFormed.{formed}
use Rattle.design.proofs.Nested.{flat_encode}

module _ (f : List ℕ) (d : Design) where
  pub read_formed : reading f ≡ means d → WellFormed d
  read_formed e = let q = read_means f d e in rw q (formed f (e ∙ ap means q))

  pub read_encodes : Bytes f → reading f ≡ means d → f ≡ encode d
  read_encodes b e = read_flat f d b e ∙ flat_encode d (read_formed e)

pub encode_reads : (d : Design) → WellFormed d → reading (encode d) ≡ means d
encode_reads d w = rw (flat_encode d w) at (flat_reads d w)

-- a file of bytes reads as d exactly when d is well formed and the file is the one of d
pub file_exactly : (f : List ℕ) (d : Design) → Bytes f → (reading f ≡ means d) ↔ (WellFormed d × (f ≡ encode d))
file_exactly f d b = (λ e. (read_formed f d e, read_encodes f d b e), λ p. rw p.1 (encode_reads d p.0))

module _ (d e : Design) (v : WellFormed d) (w : WellFormed e) (a : SameMeaning d e) where
  bits : d.m * d.s ≡ e.m * e.s
  bits = rw (a.m, a.s) refl

  same_lists : (t : ℕ) → t < d.k → (stage_of d t).lists ≡ (stage_of e t).lists
  same_lists t b =
      let c : t < e.k = rw a.k at b in
      let p = (v.stage t b).count in
      ext_get_or [] _ _ (p ∙ bits ∙ sym (w.stage t c).count)
      (λ l h.
      let u : l < d.m * d.s = rw p at h in
      unique_terms (d.m * d.s) _ _ ((v.stage t b).list l u).terms (rw bits ((w.stage t c).list l (rw bits at u)).terms) (a.component t l b u))

  pub same_design : d ≡ e
  same_design =
      design_eq d e a.m a.s a.k a.box
      (ext_get_or no_stage _ _ (v.count ∙ a.k ∙ sym w.count)
      (λ t h. let b : t < d.k = rw v.count at h in stage_eq _ _ (a.table t b) (same_lists t b)))

-- one meaning has one file
pub one_meaning_one_file : (f g : List ℕ) (d e : Design) → Bytes f → Bytes g → reading f ≡ means d → reading g ≡ means e → SameMeaning d e → f ≡ g
one_meaning_one_file f g d e b c p q a =
    read_encodes f d b p ∙ ap encode (same_design d e (read_formed f d p) (read_formed g e q) a) ∙ sym (read_encodes g e c q)
