-- What the calls on marks promise, on the strip and on the short ring. A tray holds t at the call and t' at the return.
use Rattle.std.specs.Prelude.{◌≡◌, List, ℕ, eqb, ltb, length}
use Rattle.theory.specs.Words.{pick, first_of, when}
use Rattle.theory.specs.Strips.{mark_at, marks_from, place_of}
use Rattle.theory.specs.Shorts.{short_mark_at, short_marks_from, short_place_of}
use Rattle.shape.specs.declared.Lengths.{Lengths}
use Rattle.shape.specs.Rings.{letter_of, letters_of}
use Rattle.buffers.specs.Buffers.{over}
use Rattle.calls.specs.Refusals.{the_word_fault, short_window_fault, ring_fault, place_fault, short_place_fault}
use Rattle.calls.specs.Answers.{Number}

-- any number c of marks, over the tray's first c bytes
abbrev pub Prints : ℕ → List ℕ → ℕ → List ℕ → List ℕ → ℕ → Type 0
Prints f marks c t t' r = let g = first_of f (when (ltb (length t) c) 6) in (r ≡ g) × (t' ≡ pick (eqb g 0) (over marks t) t)

-- on the strip
abbrev pub MarkSays : ℕ → ℕ → ℕ → List ℕ → List ℕ → ℕ → Type 0
MarkSays k n p t t' r = Number (place_fault k n p) (mark_at k n p) t t' r

abbrev pub PlaceSays : ℕ → ℕ → List ℕ → List ℕ → List ℕ → ℕ → Type 0
PlaceSays k n w t t' r = Number (the_word_fault k n w) (place_of k n w) t t' r

abbrev pub PrintSays : ℕ → ℕ → ℕ → ℕ → List ℕ → List ℕ → ℕ → Type 0
PrintSays k n p c t t' r = Prints (place_fault k n p) (marks_from k n p c) c t t' r

-- on the short ring
abbrev pub ShortMarkSays : ℕ → ℕ → ℕ → List ℕ → List ℕ → ℕ → Type 0
ShortMarkSays k n p t t' r = Number (short_place_fault k n p) (short_mark_at k n p) t t' r

abbrev pub ShortPlaceSays : ℕ → ℕ → List ℕ → List ℕ → List ℕ → ℕ → Type 0
ShortPlaceSays k n w t t' r = Number (short_window_fault k n w) (short_place_of k n w) t t' r

abbrev pub ShortPrintSays : ℕ → ℕ → ℕ → ℕ → List ℕ → List ℕ → ℕ → Type 0
ShortPrintSays k n p c t t' r = Prints (short_place_fault k n p) (short_marks_from k n p c) c t t' r

-- on either: these compute to the promises above
abbrev pub MarkOn : Lengths → ℕ → ℕ → ℕ → List ℕ → List ℕ → ℕ → Type 0
MarkOn lengths k n p t t' r = Number (ring_fault lengths k n p) (letter_of lengths k n p) t t' r

abbrev pub PrintOn : Lengths → ℕ → ℕ → ℕ → ℕ → List ℕ → List ℕ → ℕ → Type 0
PrintOn lengths k n p c t t' r = Prints (ring_fault lengths k n p) (letters_of lengths k n p c) c t t' r
