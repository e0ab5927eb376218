-- Numbers, letters and lines as text, in ASCII.
use Rattle.std.specs.Prelude.{◌≡◌, true, false, List, [], ◌∷◌, ◌++◌, ℕ, zero, suc, ◌+◌, ◌/◌, ◌%◌, ℤ, pos, negsuc, ltb, length, take, drop}
use Rattle.theory.specs.Words.{pick}

-- a number's decimal digits, the highest first; one more turn than the number is always enough
abbrev pub decimal_from : ℕ → ℕ → List ℕ
decimal_from zero v = []
decimal_from (suc l) v = elim (ltb v 10) [ true ↦ (48 + v) ∷ [] | false ↦ decimal_from l (v / 10) ++ ((48 + v % 10) ∷ []) ]

abbrev pub decimal : ℕ → List ℕ
decimal v = decimal_from (suc v) v

-- a signed number: - (byte 45) before the digits of a negative one
abbrev pub signed : ℤ → List ℕ
signed (pos a) = decimal a
signed (negsuc a) = 45 ∷ decimal (suc a)

-- a letter's digit, 0 to 9 then a to z; a word's digits
abbrev pub glyph : ℕ → ℕ
glyph a = pick (ltb a 10) (48 + a) (87 + a)

abbrev pub glyphs : List ℕ → List ℕ
glyphs [] = []
glyphs (a ∷ w) = glyph a ∷ glyphs w

-- a line: its fields parted by a space (byte 32), then byte 10
abbrev pub fields : List ℕ → List (List ℕ) → List ℕ
fields x [] = x ++ (10 ∷ [])
fields x (y ∷ ys) = x ++ (32 ∷ fields y ys)

-- text added behind the first `at` bytes of a buffer: where it ends, what stands there then, and that the bytes behind it are as they were
pub record Adds (before : List ℕ) (at : ℕ) (text after : List ℕ) (end : ℕ) : Type 0 where
  pub ends : end ≡ at + length text
  pub stands : take end after ≡ take at before ++ text
  pub behind : drop end after ≡ drop end before
