-- Laying plans and the lookup: which section of a plan holds a window, and at what distance from its start.
use Rattle.std.specs.Prelude.{Bool, true, false, ◌&&◌, ◌||◌, not, List, [], ◌∷◌, ℕ, zero, suc, ◌+◌, ◌-◌, ◌*◌, ◌^◌, eqb, ltb, leb, length, get_or, take, drop}
use Rattle.theory.specs.Words.{pick, first_of, when, marks_ok}
use Rattle.theory.specs.Strips.{admitted, place_of}

-- numbers with the highest byte first
abbrev pub be_from : ℕ → List ℕ → ℕ
be_from v [] = v
be_from v (b ∷ bs) = be_from (256 * v + b) bs

abbrev pub be : ℕ → ℕ → List ℕ → ℕ
be i n s = be_from 0 (take n (drop i s))

-- a section: so many letters of the strip from its offset on, and the rail number written with it, 0 where none is
pub record Section : Type 0 where
  pub offset : ℕ
  pub long : ℕ
  pub rail : ℕ

-- the place behind its last letter
abbrev pub end_of : Section → ℕ
end_of x = x.offset + x.long

abbrev pub shades : List ℕ → ℕ
shades s = get_or s 0 0

abbrev pub marks : List ℕ → ℕ
marks s = get_or s 1 0

abbrev pub section_count : List ℕ → ℕ
section_count s = be 2 2 s

-- is the total that of entries of e bytes, one for each section
abbrev pub fits_entries : ℕ → List ℕ → Bool
fits_entries e s = eqb (length s) (4 + e * section_count s)

-- an entry is offset and length, 16 bytes, in a new record with 2 bytes of rail behind them; the total tells the records apart
unfoldable pub entry_size : List ℕ → ℕ
entry_size s = pick (fits_entries 16 s) 16 18

abbrev pub entry_of : ℕ → List ℕ → Section
entry_of e s = record { offset = be 0 8 s; long = be 8 8 s; rail = be 16 (e - 16) s }

-- m entries of e bytes each
abbrev pub sections_from : ℕ → ℕ → List ℕ → List Section
sections_from e zero s = []
sections_from e (suc m) s = entry_of e s ∷ sections_from e m (drop e s)

abbrev pub sections : List ℕ → List Section
sections s = sections_from (entry_size s) (section_count s) (drop 4 s)

-- 7, 1, 8
abbrev pub torn : List ℕ → Bool
torn s = ltb (length s) 4 || (ltb 500 (section_count s) || not (fits_entries 16 s || fits_entries 18 s))

-- the rule for 7 from before rails were written: old records only
abbrev pub torn_before : List ℕ → Bool
torn_before s = ltb (length s) 4 || (ltb 500 (section_count s) || not (fits_entries 16 s))

abbrev pub straight_from : ℕ → ℕ → ℕ → List Section → Bool
straight_from n top end [] = true
straight_from n top end (x ∷ xs) =
    leb end x.offset && (leb n x.long && (leb (end_of x) top && straight_from n top (end_of x) xs))

abbrev pub plan_fault : List ℕ → ℕ
plan_fault s =
    first_of
    (when (torn s) 7)
    (first_of (when (not (admitted (shades s) (marks s))) 1) (when (not (straight_from (marks s) (shades s ^ marks s) 0 (sections s))) 8))

-- is the joint of a section and the next in the list welded: does this one end at the place where that one begins, on the same rail? In an old record
-- no rail is written, so all are the same here
abbrev pub welded : Section → Section → Bool
welded x y = eqb (end_of x) y.offset && eqb x.rail y.rail

-- how far a window that begins in a section is read: to its end or, over a welded joint, to the end of the next; xs are the sections behind it
abbrev pub reach : Section → List Section → ℕ
reach x [] = end_of x
reach x (y ∷ xs) = pick (welded x y) (end_of y) (end_of x)

-- a window is laid in the section that holds its first letter, if it is read to its last; the number of the first such section, plus 1, or 0
abbrev pub holds_at : ℕ → ℕ → Section → List Section → Bool
holds_at p n x xs = leb x.offset p && (ltb p (end_of x) && leb (p + n) (reach x xs))

abbrev pub laying_from : ℕ → ℕ → ℕ → List Section → ℕ
laying_from i p n [] = 0
laying_from i p n (x ∷ xs) = elim (holds_at p n x xs) [ true ↦ suc i | false ↦ laying_from (suc i) p n xs ]

-- what stands behind the last section
abbrev pub no_section : Section
no_section = record { offset = 0; long = 0; rail = 0 }

abbrev pub nth_s : List Section → ℕ → Section
nth_s xs i = get_or xs i no_section

-- the rail that is answered for section i: the one written with it, in an old record the section's own number
abbrev pub rail_of : List ℕ → ℕ → ℕ
rail_of s i = pick (eqb (entry_size s) 16) i (nth_s (sections s) i).rail

-- of the window at a place: the number of the section that it is laid in, plus 1, or 0; whether it is laid; its distance from the section's start
abbrev pub laying_at : List ℕ → ℕ → ℕ
laying_at s p = laying_from 0 p (marks s) (sections s)

abbrev pub laid_at : List ℕ → ℕ → Bool
laid_at s p = not (eqb (laying_at s p) 0)

abbrev pub distance_at : List ℕ → ℕ → ℕ
distance_at s p = p - (nth_s (sections s) (laying_at s p - 1)).offset

-- the same of a window, at the place where it is read
abbrev pub laying_of : List ℕ → List ℕ → ℕ
laying_of s w = laying_at s (place_of (shades s) (marks s) w)

abbrev pub distance_of : List ℕ → List ℕ → ℕ
distance_of s w = distance_at s (place_of (shades s) (marks s) w)

abbrev pub word_fault : ℕ → ℕ → List ℕ → ℕ
word_fault k n w = first_of (when (not (eqb (length w) n)) 2) (when (not (marks_ok k w)) 3)

abbrev pub lookup_fault : List ℕ → List ℕ → ℕ
lookup_fault s w = first_of (plan_fault s) (first_of (word_fault (shades s) (marks s) w) (when (eqb (laying_of s w) 0) 9))
