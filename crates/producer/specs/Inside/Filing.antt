-- The file of a direct sharing part by part.
use Rattle.std.specs.Prelude.{ℕ, ◌*◌, ◌^◌, List, [], ◌∷◌, get_or}
use Rattle.design.specs.Limits.{greatest_width, greatest_shares, greatest_points}
use Rattle.records.specs.Encode.{encode}
use Rattle.direct.specs.Direct.{direct_lists}

-- the file of one stage with G equal to S
unfoldable pub one_stage_file : ℕ → ℕ → List ℕ → List (List ℕ) → List ℕ
one_stage_file m s t ls = encode (record { m = m; s = s; k = 1; box = t; stages = record { table = t; lists = ls } ∷ [] })

-- the lists that coefficient words give by a placement, and the file with them
abbrev pub words_lists : ℕ → ℕ → (ℕ → ℕ) → List ℕ → List (List ℕ)
words_lists m s place words = direct_lists m s place (λ u. get_or words u 0)

abbrev pub words_file : ℕ → ℕ → (ℕ → ℕ) → List ℕ → List ℕ → List ℕ
words_file m s place t words = one_stage_file m s t (words_lists m s place words)

-- no more terms than this are counted: so many for each word, which is a byte, and for all of them
abbrev pub word_bound : ℕ
word_bound = greatest_shares ^ greatest_width * 8

abbrev pub terms_bound : ℕ
terms_bound = greatest_points * word_bound
