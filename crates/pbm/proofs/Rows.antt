-- The text of a row and of a file: its lines, and how long it is.
use mathlib.Core.Path.{◌≡◌, refl, ◌∙◌, ap, ap₂}
use mathlib.Core.List.{List, [], ◌∷◌, ◌++◌}
use Prim.Native.Nat.{ℕ, zero, suc, ◌+◌, ◌-◌, ◌*◌, ◌/◌, ◌^◌, ◌≤◌, ◌<◌}
use native.Mathlib.Omega.{arith}
use native.Mathlib.Nat.{mul-le-mul}
use lib.ListN.{length, take, drop, length-append}
use Rattle.theory.specs.Words.{repeated}
use Rattle.theory.specs.Strips.{strip, marks_from}
use Rattle.theory.proofs.Powers.{repeated-length}
use Rattle.theory.proofs.Reading.{letters-length}
use Rattle.texts.specs.Texts.{decimal, glyph, glyphs}
use Rattle.texts.proofs.Decimals.{decimal-length}
use Rattle.texts.proofs.Digits.{glyphs-length}
use Rattle.pbm.specs.Pictures.{broken, row_text, head_text, picture, row_size, file_size}

-- what fits into the line that is begun
broken_short : (l : ℕ) (ds : List ℕ) → length ds ≤ l → broken l ds ≡ ds ++ (10 ∷ [])
broken_short l [] h = refl
broken_short zero (a ∷ ds) h = absurd (omega arith)
broken_short (suc l) (a ∷ ds) h = ap (λ r. a ∷ r) (broken_short l ds (omega arith))

-- and what does not: the next line holds 70 again
broken-long : (l : ℕ) (w : List ℕ) → l < length w → broken l (glyphs w) ≡ glyphs (take l w) ++ (10 ∷ row_text (drop l w))
broken-long l [] h = absurd (omega arith)
broken-long zero (a ∷ w) h = refl
broken-long (suc l) (a ∷ w) h = ap (λ r. glyph a ∷ r) (broken-long l w (omega arith))

-- one byte more for each line
pub broken-size : (l : ℕ) (ds : List ℕ) → l ≤ 70 → length (broken l ds) ≡ length ds + 1 + (length ds + 69 - l) / 70
broken-size l [] h = omega arith
broken-size zero (a ∷ ds) h = omega (arith, broken-size 69 ds (omega arith))
broken-size (suc l) (a ∷ ds) h = omega (arith, broken-size l ds (omega arith))

pub row_short : (w : List ℕ) → length w ≤ 70 → row_text w ≡ glyphs w ++ (10 ∷ [])
row_short w h = broken_short 70 (glyphs w) (omega (arith, glyphs-length w))

pub row-long : (w : List ℕ) → 70 < length w → row_text w ≡ glyphs (take 70 w) ++ (10 ∷ row_text (drop 70 w))
row-long = broken-long 70

pub row-size : (w : List ℕ) → 1 ≤ length w → length (row_text w) ≡ row_size (length w)
row-size w h = broken-size 70 (glyphs w) (omega arith) ∙ omega (arith, glyphs-length w)

-- the row of c marks, and the file of h of them
module _ (k n p c : ℕ) where
  abbrev marks : List ℕ
  marks = marks_from k n p c

  marks-length : length marks ≡ c
  marks-length = letters-length (k ^ n) (strip k n) p c

  pub row-length : 1 ≤ c → length (row_text marks) ≡ row_size c
  row-length s = row-size marks (omega (arith, marks-length)) ∙ ap row_size marks-length

  row-most : c ≤ 60000 → length (row_text marks) ≤ 60858
  row-most m = omega (arith, broken-size 70 (glyphs marks) (omega arith), glyphs-length marks, marks-length)

  file-length : (h : ℕ) → length (picture k n p c h) ≡ length (head_text c h) + h * length (row_text marks)
  file-length h = length-append (head_text c h) (repeated h (row_text marks)) ∙ ap (λ l. length (head_text c h) + l) (repeated-length h (row_text marks))

  pub file-size : (h : ℕ) → 1 ≤ c → length (picture k n p c h) ≡ file_size c h
  file-size h s = file-length h ∙ ap (λ l. length (head_text c h) + h * l) (row-length s)

-- the head's two numbers have at most 5 digits and 2
pub head_length : (c h : ℕ) → length (head_text c h) ≡ length (decimal c) + length (decimal h) + 5
unfolding head_text
head_length c h = omega (arith, length-append (decimal c) (32 ∷ (decimal h ++ (10 ∷ []))), length-append (decimal h) (10 ∷ []))

pub head_most : (c h : ℕ) → c ≤ 60000 → h ≤ 64 → length (head_text c h) ≤ 12
head_most c h m l = omega (arith, head_length c h, decimal-length 5 c (omega arith) (omega arith), decimal-length 2 h (omega arith) (omega arith))

pub rows_most : (c h : ℕ) → c ≤ 60000 → h ≤ 64 → h * row_size c ≤ 3894912
rows_most c h m l =
    let few : row_size c ≤ 60858 = omega arith in
    mul-le-mul l few

pub room : (k n p c h : ℕ) → 1 ≤ c → c ≤ 60000 → h ≤ 64 → length (picture k n p c h) ≤ 12 + h * row_size c
room k n p c h s m l = omega (arith, file-size k n p c h s, head_most c h m l)

pub most : (k n p c h : ℕ) → c ≤ 60000 → h ≤ 64 → length (picture k n p c h) ≤ 3894924
most k n p c h m l =
    omega (arith, file-length k n p c h, head_most c h m l, mul-le-mul l (row-most k n p c m))

pub largest : (k n p c h : ℕ) → c ≡ 60000 → h ≡ 64 → length (picture k n p c h) ≡ 3894924
unfolding head_text
largest k n p c h d e = file-size k n p c h (omega arith) ∙ ap₂ file_size d e
