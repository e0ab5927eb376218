-- Sections: the first window of one as it is read into a room of n bytes, its line as it was added, and the lines of one section more.
use mathlib.Core.Path.{◌≡◌, sym, ◌∙◌, ap}
use mathlib.Core.Bool.{true}
use mathlib.Core.List.{List, [], ◌∷◌, ◌++◌, append_assoc, append-nil}
use Prim.Native.Nat.{ℕ, suc, ◌+◌, ◌*◌, ◌^◌, ◌≤◌, ◌<◌}
use native.Mathlib.Omega.{arith}
use native.Mathlib.Numerals.{add-one}
use lib.ListN.{length, take}
use lib.Seq.{length-take-le, take_all, take-suc}
use Rattle.theory.specs.Words.{marks_ok}
use Rattle.theory.specs.Strips.{strip, marks_from, window}
use Rattle.theory.specs.Plans.{Section, no_section, nth_s}
use Rattle.theory.proofs.Letters.{marks_up}
use Rattle.theory.proofs.Reading.{letters-length}
use Rattle.theory.proofs.Rings.{strip-marks}
use Rattle.shape.specs.declared.Strip as DS
use Rattle.shape.proofs.Limits.{limits}
use Rattle.texts.specs.declared.Text.{Text}
use Rattle.texts.specs.Texts.{decimal, glyphs, fields}
use Rattle.texts.specs.Writers.{HasRoom, Writes}
use Rattle.lines.specs.Lines.{line}
use Rattle.listing.specs.Listings.{most, section_line, section_lines}
use Rattle.texts.proofs.Writing.{writes_as}
use Rattle.texts.proofs.Digits.{glyphs-length}
use Rattle.access.proofs.Reading.{room, in_room}
use Rattle.lines.proofs.Building.{Written, next_room, more_line}
use Rattle.listing.proofs.Fields.{four_apart}

-- a section's first window
module _ (s : DS.Strip) (x : Section) {v : List ℕ} (e : v ≡ marks_from s.k s.n x.offset (length (take s.n room))) where
  first_window : v ≡ window s.k s.n x.offset
  first_window = e ∙ ap (marks_from s.k s.n x.offset) (in_room s)

  pub window_short : length v ≤ 60
  window_short = omega (arith, ap length first_window, letters-length (s.k ^ s.n) (strip s.k s.n) x.offset s.n, (limits s).short)

  pub digits_short : length (glyphs v) ≤ 60
  digits_short = omega (arith, glyphs-length v, window_short)

  pub window_digits : marks_ok 36 v ≡ true
  window_digits =
      let l = limits s in
      let w = window s.k s.n x.offset in
      let ok = strip-marks s.k s.n x.offset s.n l.two l.some in
      rw first_window (marks_up s.k 36 w l.most ok)

  pub section_text : (i : ℕ)
      → ((((decimal i ++ (32 ∷ [])) ++ (decimal x.offset ++ (32 ∷ []))) ++ (decimal x.long ++ (32 ∷ []))) ++ glyphs v) ++ (10 ∷ []) ≡ section_line s.k s.n i x
  section_text i =
      four_apart (decimal i) (decimal x.offset) (decimal x.long) (glyphs v)
      ∙ ap (λ w. fields (decimal i) (decimal x.offset ∷ decimal x.long ∷ glyphs w ∷ [])) first_window

-- the lines with one section more
lines_behind : (k n i : ℕ) (xs : List Section) (y : Section) → section_lines k n i (xs ++ (y ∷ [])) ≡ section_lines k n i xs ++ section_line k n (i + length xs) y
lines_behind k n i [] y = let e : i ≡ i + 0 = omega arith in append-nil (section_line k n i y) ∙ ap (λ j. section_line k n j y) e
lines_behind k n i (x ∷ xs) y =
    let e : suc i + length xs ≡ i + suc (length xs) = omega arith in
    ap (λ t. section_line k n i x ++ t) (lines_behind k n (suc i) xs y ∙ ap (λ j. section_lines k n (suc i) xs ++ section_line k n j y) e)
    ∙ sym (append_assoc (section_line k n i x) (section_lines k n (suc i) xs) (section_line k n (i + suc (length xs)) y))

lines_next : (k n i : ℕ) (xs : List Section) → i < length xs → section_lines k n 0 (take i xs) ++ section_line k n i (nth_s xs i) ≡ section_lines k n 0 (take (i + 1) xs)
lines_next k n i xs h =
    let e : 0 + length (take i xs) ≡ i = omega (arith, length-take-le i xs (omega arith)) in
    sym (ap (λ j. section_lines k n 0 (take j xs)) (add-one i)
    ∙ ap (section_lines k n 0) (take-suc xs i no_section h)
    ∙ lines_behind k n 0 (take i xs) (nth_s xs i)
    ∙ ap (λ j. section_lines k n 0 (take i xs) ++ section_line k n j (nth_s xs i)) e)

-- the lines of the first i sections are added, none longer than a line may be
pub record Lines (k n : ℕ) (xs : List Section) (i : ℕ) (before after : Text) : Type 0 where
  pub written : Written before (line * i) (section_lines k n 0 (take i xs)) after

module _ {k n i : ℕ} {xs : List Section} {a b : Text} (l : Lines k n xs i a b) where
  pub line-room : a.end ≤ line → i < 500 → most ≤ length a.out.now → HasRoom b line
  line-room h g r = next_room i 500 l.written g (omega arith)

  pub one_more : {c : Text} {y : Section} → Writes b (section_line k n i y) c → c.end ≤ b.end + line → y ≡ nth_s xs i → i < length xs → Lines k n xs (i + 1) a c
  one_more {y = y} w g t h =
      let text = ap (λ z. section_lines k n 0 (take i xs) ++ section_line k n i z) t ∙ lines_next k n i xs h in
      record { written = more_line i (section_line k n i y) _ l.written w g text }

  pub all_lines : length xs ≤ i → Writes a (section_lines k n 0 xs) b
  all_lines h = writes_as l.written.writes (ap (section_lines k n 0) (take_all i xs h))
