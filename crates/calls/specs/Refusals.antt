-- The numbers that a call gives back. Each call takes the first that applies, in the one order (Order).
-- The faults of a plan and of a lookup (7, 8, 9) stand in theory's Plans, those of a window with erasures (11) in its Erasures, since theorems speak of
-- them; that of a cursor (10) in cursors, of whose bytes it speaks; 6 is part of the form of an answer (Answers).
use Rattle.std.specs.Prelude.{Bool, ◌&&◌, ◌||◌, not, List, ℕ, ◌^◌, eqb, ltb, leb}
use Rattle.theory.specs.Words.{first_of, when, root, how_many}
use Rattle.shape.specs.declared.Lengths.{Lengths}
use Rattle.shape.specs.declared.Lengths.TheVariants.{Divisors, Whole}
use Rattle.shape.specs.Rings.{size_of}
use Rattle.theory.specs.Strips.{strip_fault}
use Rattle.theory.specs.Plans.{sections, plan_fault, word_fault}
use Rattle.theory.specs.Prices.{short_rolls}

-- 1, then 2: the word does not have n marks, then 3: a mark is k or more
abbrev pub the_word_fault : ℕ → ℕ → List ℕ → ℕ
the_word_fault k n w = first_of (strip_fault k n) (word_fault k n w)

-- 1, then 5: no word has that index
abbrev pub index_fault : ℕ → ℕ → ℕ → ℕ
index_fault k n i = first_of (strip_fault k n) (when (eqb i 0 || ltb (how_many k n) i) 5)

-- 1, 2, 3, then 16: the window is a shorter word repeated, which the short ring does not read
abbrev pub short_window_fault : ℕ → ℕ → List ℕ → ℕ
short_window_fault k n w = first_of (the_word_fault k n w) (when (ltb (root w) n) 16)

-- 1, then 4: the place is not on the ring; k^n is not on the strip, nor n times the number of Lyndon words of length n on the short ring
abbrev pub ring_fault : Lengths → ℕ → ℕ → ℕ → ℕ
ring_fault lengths k n p = first_of (strip_fault k n) (when (leb (size_of lengths k n) p) 4)

abbrev pub place_fault : ℕ → ℕ → ℕ → ℕ
place_fault k n p = ring_fault Divisors k n p

abbrev pub short_place_fault : ℕ → ℕ → ℕ → ℕ
short_place_fault k n p = ring_fault Whole k n p

-- 1, then 12: k is not 2, then 4, then 13: the width is not from 1 to 60,000 or the height not from 1 to 64
abbrev pub framed : ℕ → ℕ → Bool
framed c h = leb 1 c && (leb c 60000 && (leb 1 h && leb h 64))

abbrev pub picture_fault : ℕ → ℕ → ℕ → ℕ → ℕ → ℕ
picture_fault k n p c h = first_of (strip_fault k n) (first_of (when (not (eqb k 2)) 12) (first_of (when (leb (k ^ n) p) 4) (when (not (framed c h)) 13)))

-- 7, 1, 8, then 14: a section has too many marks, then 15: the price or the charge is too high
abbrev pub price_fault : ℕ → ℕ → ℕ
price_fault price charge = when (ltb 10000000 price || ltb 4294967295 charge) 15

abbrev pub bill_fault : List ℕ → ℕ → ℕ → ℕ
bill_fault s price charge = first_of (plan_fault s) (first_of (when (not (short_rolls (sections s))) 14) (price_fault price charge))
