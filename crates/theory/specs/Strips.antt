-- Strips, windows, cursors. The strip is the ring of all lengths that divide n: every window is read in it once (Theorems), so it is a de Bruijn
-- sequence. Document 004, section 1, names it the lexicographically first one; that none comes before it is not proved here.
-- A mark is a letter of the strip, a place one of its positions; a window is n letters.
use Rattle.std.specs.Prelude.{Bool, ◌&&◌, not, List, ℕ, ◌^◌, leb}
use Rattle.theory.specs.Words.{when}
use Rattle.theory.specs.Rings.{divides, ring_words, ring, letter_on, letters_on, find_on, Cursor, Stepped, good_in, position_in, cursor_on, step_in, back_in}

-- admitted: k from 2 to 36, n from 1 to 60, k^n at most 2^60
abbrev pub admitted : ℕ → ℕ → Bool
admitted k n = leb 2 k && (leb k 36 && (leb 1 n && (leb n 60 && leb (k ^ n) (2 ^ 60))))

-- the refusal 1: no such strip
abbrev pub strip_fault : ℕ → ℕ → ℕ
strip_fault k n = when (not (admitted k n)) 1

abbrev pub divisor_of : ℕ → ℕ → Bool
divisor_of n d = divides d n

-- the strip's words and the strip
abbrev pub strip_words : ℕ → ℕ → List (List ℕ)
strip_words k n = ring_words (divisor_of n) k n

abbrev pub strip : ℕ → ℕ → List ℕ
strip k n = ring (divisor_of n) k n

abbrev pub mark_at : ℕ → ℕ → ℕ → ℕ
mark_at k n p = letter_on (k ^ n) (strip k n) p

abbrev pub marks_from : ℕ → ℕ → ℕ → ℕ → List ℕ
marks_from k n p c = letters_on (k ^ n) (strip k n) p c

abbrev pub window : ℕ → ℕ → ℕ → List ℕ
window k n p = marks_from k n p n

-- the place of a window: the first that reads so
abbrev pub place_of : ℕ → ℕ → List ℕ → ℕ
place_of k n w = find_on (k ^ n) 0 (k ^ n) (strip k n) n w

-- the strip's cursors
abbrev pub cursor_ok : Cursor → Bool
cursor_ok c = good_in divisor_of c

abbrev pub place_in : Cursor → ℕ
place_in c = position_in divisor_of c

abbrev pub cursor_at : ℕ → ℕ → ℕ → Cursor
cursor_at k n p = cursor_on (divisor_of n) k n p

abbrev pub step_of : Cursor → Stepped
step_of c = step_in divisor_of c

abbrev pub back_of : Cursor → Stepped
back_of c = back_in divisor_of c
