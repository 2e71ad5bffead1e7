-- The bytes of a design file (RULES 4.1): numbers of two and of four bytes, little-endian, and lists of terms.
use Rattle.std.specs.Prelude.{ℕ, ◌+◌, ◌*◌, ◌/◌, ◌%◌, ◌<◌, List, [], ◌∷◌, ◌++◌, get_or}

-- a list of bytes
abbrev pub Bytes : List ℕ → Type 0
Bytes f = (i : ℕ) → get_or f i 0 < 256

-- the byte at a place
abbrev pub byte : List ℕ → ℕ → ℕ
byte f at = get_or f at 0

-- the number whose two bytes start at a place
unfoldable pub u16_at : List ℕ → ℕ → ℕ
u16_at f at = byte f at + 256 * byte f (at + 1)

-- the number whose four bytes are these
abbrev pub little : ℕ → ℕ → ℕ → ℕ → ℕ
little a b c d = a + 256 * b + 65536 * c + 16777216 * d

-- the number whose four bytes start at a place
unfoldable pub u32_at : List ℕ → ℕ → ℕ
u32_at f at = little (byte f at) (byte f (at + 1)) (byte f (at + 2)) (byte f (at + 3))

-- the two bytes of a number
abbrev pub two : ℕ → List ℕ
two n = n % 256 ∷ n / 256 ∷ []

-- the four bytes of a number
abbrev pub four : ℕ → List ℕ
four n = n % 256 ∷ n / 256 % 256 ∷ n / 65536 % 256 ∷ n / 16777216 ∷ []

-- the bytes of a list of terms, four each
unfoldable pub term_bytes : List ℕ → List ℕ
term_bytes [] = []
term_bytes (t ∷ ts) = four t ++ term_bytes ts
