-- Lists of terms as they stand in a file.
use Rattle.std.specs.Prelude.{ℕ, List, [], ◌∷◌}
use Rattle.records.specs.Bytes.{little}
use Rattle.records.specs.declared.terms.Terms.{Terms}
use Rattle.records.specs.declared.terms.TermsIter.{TermsIter}

-- the terms that bytes stand for, four bytes each
unfoldable pub terms : List ℕ → List ℕ
terms [] = []
terms (a ∷ []) = []
terms (a ∷ b ∷ []) = []
terms (a ∷ b ∷ c ∷ []) = []
terms (a ∷ b ∷ c ∷ d ∷ l) = little a b c d ∷ terms l

-- the bytes of a list as it stands in a file
abbrev pub bytes_of : Terms → List ℕ
bytes_of a = a.bytes.now

-- its terms
abbrev pub terms_of : Terms → List ℕ
terms_of a = terms a.bytes.now

-- those that are left to go over
abbrev pub left : TermsIter → List ℕ
left s = terms s.rest.now
