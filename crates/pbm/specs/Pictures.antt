-- A picture of marks as a plain PBM file, written and read. Every row of it is the same: the marks from a place on, a digit each.
use Rattle.std.specs.Prelude.{◌≡◌, Bool, true, false, ◌&&◌, List, [], ◌∷◌, ◌++◌, ℕ, zero, suc, ◌+◌, ◌-◌, ◌*◌, ◌/◌, ◌≤◌, ◌<◌, leb, length, take, drop}
use Rattle.theory.specs.Words.{pick, same, repeated}
use Rattle.theory.specs.Strips.{marks_from}
use Rattle.texts.specs.Texts.{decimal, glyphs, fields}

-- digits in lines of 70, each ended by byte 10; l more fit into the line that is begun
abbrev pub broken : ℕ → List ℕ → List ℕ
broken l [] = 10 ∷ []
broken zero (a ∷ w) = 10 ∷ (a ∷ broken 69 w)
broken (suc l) (a ∷ w) = a ∷ broken l w

abbrev pub row_text : List ℕ → List ℕ
row_text w = broken 70 (glyphs w)

-- the line P1; behind it the line with width and height. Shut, since its length (proofs/Rows) and its text (proofs/Heads, Reading) are all that is needed
abbrev pub magic : List ℕ
magic = 80 ∷ 49 ∷ 10 ∷ []

unfoldable pub head_text : ℕ → ℕ → List ℕ
head_text c h = magic ++ fields (decimal c) (decimal h ∷ [])

-- the whole file: c marks from place p on, in h rows
abbrev pub picture : ℕ → ℕ → ℕ → ℕ → ℕ → List ℕ
picture k n p c h = head_text c h ++ repeated h (row_text (marks_from k n p c))

-- how many bytes a row has, one for each line beside its digits, and the file
abbrev pub row_size : ℕ → ℕ
row_size c = c + (c + 69) / 70

abbrev pub file_size : ℕ → ℕ → ℕ
file_size c h = length (head_text c h) + h * row_size c

-- Reading, by the format alone and not by what is written above: a number up to the byte behind its digits, what stands behind that byte, and digits with
-- all other bytes passed over
abbrev pub is_digit : ℕ → Bool
is_digit b = leb 48 b && leb b 57

abbrev pub number_at : ℕ → List ℕ → ℕ
number_at v [] = v
number_at v (b ∷ s) = elim (is_digit b) [ true ↦ number_at (10 * v + (b - 48)) s | false ↦ v ]

abbrev pub behind_number : List ℕ → List ℕ
behind_number [] = []
behind_number (b ∷ s) = elim (is_digit b) [ true ↦ behind_number s | false ↦ s ]

abbrev pub digits_in : List ℕ → List ℕ
digits_in [] = []
digits_in (b ∷ s) = pick (is_digit b) ((b - 48) ∷ []) [] ++ digits_in s

-- does the file begin with the line P1, the two numbers behind it, and the digits of all rows
pub record Picture : Type 0 where
  pub plain : Bool
  pub width : ℕ
  pub height : ℕ
  pub marks : List ℕ

abbrev pub read_picture : List ℕ → Picture
read_picture s =
    let a = drop 3 s in
    let b = behind_number a in
    record { plain = same (take 3 s) (80 ∷ 49 ∷ 10 ∷ []); width = number_at 0 a; height = number_at 0 b; marks = digits_in (behind_number b) }

pub record Pictures : Type 0 where
  -- a row of at most 70 marks is one line; of a longer one the first 70 marks are a line, and the others follow as a row does
  pub row_short : (w : List ℕ) → length w ≤ 70 → row_text w ≡ glyphs w ++ (10 ∷ [])
  pub row-long : (w : List ℕ) → 70 < length w → row_text w ≡ glyphs (take 70 w) ++ (10 ∷ row_text (drop 70 w))
  pub row-size : (w : List ℕ) → 1 ≤ length w → length (row_text w) ≡ row_size (length w)
  pub file-size : (k n p c h : ℕ) → 1 ≤ c → length (picture k n p c h) ≡ file_size c h
  -- what is read of a picture is what was drawn
  pub back : (k n p c h : ℕ) → 2 ≤ k → k ≤ 10 → 1 ≤ n
      → read_picture (picture k n p c h) ≡ record { plain = true; width = c; height = h; marks = repeated h (marks_from k n p c) }
  -- a tray of 12 bytes for the head and so many for each row holds the file
  pub room : (k n p c h : ℕ) → 1 ≤ c → c ≤ 60000 → h ≤ 64 → length (picture k n p c h) ≤ 12 + h * row_size c
  -- no file of at most 60,000 marks in at most 64 rows is longer than that of so many
  pub most : (k n p c h : ℕ) → c ≤ 60000 → h ≤ 64 → length (picture k n p c h) ≤ 3894924
  pub largest : (k n p c h : ℕ) → c ≡ 60000 → h ≡ 64 → length (picture k n p c h) ≡ 3894924
