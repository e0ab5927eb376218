-- Windows with erasures: which laid windows agree with what was read, and what is refused.
-- An erasure, the paper's unread mark, is byte 255 in place of a letter that the head could not read; the paper calls such a window smudged.
use Rattle.std.specs.Prelude.{Bool, true, false, ◌&&◌, ◌||◌, not, List, [], ◌∷◌, ℕ, ◌/◌, ◌%◌, ◌^◌, eqb, ltb, length, get_or}
use Rattle.theory.specs.Words.{pick, first_of, when, keep, marks_ok}
use Rattle.theory.specs.Lists.{count_from}
use Rattle.theory.specs.Strips.{window}
use Rattle.theory.specs.Plans.{shades, marks, plan_fault, laid_at}

abbrev pub unread : ℕ → Bool
unread a = eqb a 255

abbrev pub read : ℕ → Bool
read a = not (unread a)

-- the word v agrees with w at every letter of w that was read
abbrev pub agrees : List ℕ → List ℕ → Bool
agrees [] [] = true
agrees [] (b ∷ v) = false
agrees (a ∷ w) [] = false
agrees (a ∷ w) (b ∷ v) = (unread a || eqb a b) && agrees w v

-- does the window at a place fit: is it laid, and does it agree? The places where it does, ascending
abbrev pub fits_at : List ℕ → List ℕ → ℕ → Bool
fits_at s w p = laid_at s p && agrees w (window (shades s) (marks s) p)

abbrev pub fitting : List ℕ → List ℕ → List ℕ
fitting s w = keep (fits_at s w) (count_from (shades s ^ marks s) 0)

-- the lowest of them, which is the first
abbrev pub lowest : List ℕ → List ℕ → ℕ
lowest s w = get_or (fitting s w) 0 0

-- filling c of a word: for its erasures the digits of c to the base k, the lowest first
abbrev pub filling : ℕ → ℕ → List ℕ → List ℕ
filling k c [] = []
filling k c (a ∷ w) = pick (unread a) (c % k) a ∷ filling k (pick (unread a) (c / k) c) w

-- 2, then 11: three or more erasures, then 3: a letter that was read is k or more
abbrev pub smudge_fault : ℕ → ℕ → List ℕ → ℕ
smudge_fault k n w =
    first_of
    (when (not (eqb (length w) n)) 2)
    (first_of (when (ltb 2 (length (keep unread w))) 11) (when (not (marks_ok k (keep read w))) 3))

-- 7, 1, 8, then those of the window, then 9: no laid window agrees with it
abbrev pub smudged_fault : List ℕ → List ℕ → ℕ
smudged_fault s w = first_of (plan_fault s) (first_of (smudge_fault (shades s) (marks s) w) (when (eqb (length (fitting s w)) 0) 9))
