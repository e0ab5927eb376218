-- The listing of a plan: everything that the program `stripwalk` prints for the bytes of a plan.
use Rattle.std.specs.Prelude.{◌≡◌, List, [], ◌∷◌, ◌++◌, ℕ, suc, ◌*◌, ◌^◌, eqb}
use Rattle.theory.specs.Words.{pick}
use Rattle.theory.specs.Strips.{window}
use Rattle.theory.specs.Plans.{Section, shades, marks, sections, plan_fault}
use Rattle.theory.specs.Theorems.{Alike}
use Rattle.texts.specs.Texts.{decimal, glyphs, fields}
use Rattle.lines.specs.Lines.{line, refused_line}

-- the word strip
abbrev pub strip_text : List ℕ
strip_text = 115 ∷ 116 ∷ 114 ∷ 105 ∷ 112 ∷ []

abbrev pub strip_line : ℕ → ℕ → List ℕ
strip_line k n = fields strip_text (decimal k ∷ decimal n ∷ decimal (k ^ n) ∷ [])

-- a section's number, offset, length and first window
abbrev pub section_line : ℕ → ℕ → ℕ → Section → List ℕ
section_line k n i x = fields (decimal i) (decimal x.offset ∷ decimal x.long ∷ glyphs (window k n x.offset) ∷ [])

abbrev pub section_lines : ℕ → ℕ → ℕ → List Section → List ℕ
section_lines k n i [] = []
section_lines k n i (x ∷ xs) = section_line k n i x ++ section_lines k n (suc i) xs

abbrev pub listing : List ℕ → List ℕ
listing s =
    pick
    (eqb (plan_fault s) 0)
    (strip_line (shades s) (marks s) ++ section_lines (shades s) (marks s) 0 (sections s))
    (refused_line (plan_fault s))

-- no rail is printed: plans with the same strip and sections have one listing, whichever records they are
abbrev pub SameListing : Type 0
SameListing = (s r : List ℕ) → Alike s r → listing s ≡ listing r

-- bytes that hold any listing: a plan has at most 500 sections
abbrev pub most : ℕ
most = 501 * line
