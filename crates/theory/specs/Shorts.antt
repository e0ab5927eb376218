-- The short ring: the Lyndon words of length n alone, joined in dictionary order (document 004, Example 3, has those of length 6). A window that is a
-- shorter word repeated is not read on it. Its marks and places are named as the strip's are.
use Rattle.std.specs.Prelude.{Bool, List, ℕ, ◌*◌, eqb}
use Rattle.theory.specs.Words.{how_many}
use Rattle.theory.specs.Rings.{ring_words, ring, letter_on, letters_on, find_on, Cursor, Stepped, good_in, position_in, cursor_on, step_in, back_in}

-- the one length that is allowed
abbrev pub whole : ℕ → ℕ → Bool
whole n d = eqb d n

-- the short ring's words and the short ring
abbrev pub short_words : ℕ → ℕ → List (List ℕ)
short_words k n = ring_words (whole n) k n

abbrev pub short_ring : ℕ → ℕ → List ℕ
short_ring k n = ring (whole n) k n

-- its places: n for each of its words
abbrev pub short_size : ℕ → ℕ → ℕ
short_size k n = n * how_many k n

abbrev pub short_mark_at : ℕ → ℕ → ℕ → ℕ
short_mark_at k n p = letter_on (short_size k n) (short_ring k n) p

abbrev pub short_marks_from : ℕ → ℕ → ℕ → ℕ → List ℕ
short_marks_from k n p c = letters_on (short_size k n) (short_ring k n) p c

abbrev pub short_window : ℕ → ℕ → ℕ → List ℕ
short_window k n p = short_marks_from k n p n

-- the place of a window: the first that reads so
abbrev pub short_place_of : ℕ → ℕ → List ℕ → ℕ
short_place_of k n w = find_on (short_size k n) 0 (short_size k n) (short_ring k n) n w

-- the short ring's cursors
abbrev pub short_ok : Cursor → Bool
short_ok c = good_in whole c

abbrev pub short_place_in : Cursor → ℕ
short_place_in c = position_in whole c

abbrev pub short_cursor_at : ℕ → ℕ → ℕ → Cursor
short_cursor_at k n p = cursor_on (whole n) k n p

abbrev pub short_step_of : Cursor → Stepped
short_step_of c = step_in whole c

abbrev pub short_back_of : Cursor → Stepped
short_back_of c = back_in whole c
