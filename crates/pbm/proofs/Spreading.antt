-- Marks at the end of a buffer, spread out over all of it as a row: `at` bytes of the row are written, the marks before i are read. What is written never
-- reaches a mark that is not read yet, since each of them has its byte in the rest of the row and its last line has byte 10.
use mathlib.Core.Path.{◌≡◌, sym, ◌∙◌, ap, ap₂, subst}
use mathlib.Core.Bool.{true}
use mathlib.Core.List.{List, [], ◌∷◌, ◌++◌, append_assoc}
use Prim.Native.Nat.{ℕ, suc, ◌+◌, ◌-◌, ◌%◌, ◌≤◌, ◌<◌}
use native.Mathlib.Omega.{arith}
use native.Mathlib.Nat.{add-zero}
use native.Mathlib.Numerals.{add-one}
use lib.ListN.{length, get_or, take, drop, set, length-set, length-drop, drop_of_length-le}
use lib.Seq.{take-suc-set, take_all, drop-set-lt, drop-cons, drop-drop, get_or-drop}
use borrow.Author.Tests.{lt-ltb}
use Rattle.theory.specs.Words.{marks_ok}
use Rattle.theory.proofs.Letters.{marks_head, marks_tail}
use Rattle.texts.specs.Texts.{glyph, glyphs}
use Rattle.texts.proofs.Digits.{glyphs-length}
use Rattle.pbm.specs.Pictures.{broken, row_text}
use Rattle.pbm.proofs.Rows.{broken-size}

-- what is left of the row when `at` bytes are written
abbrev pub rest : List ℕ → ℕ → ℕ → List ℕ
rest out₀ at i = broken (70 - at % 71) (glyphs (drop i out₀))

pub record Spread (out₀ : List ℕ) (lead : ℕ) (out : List ℕ) (at i : ℕ) : Type 0 where
  pub size : length out ≡ length out₀
  pub unread : drop i out ≡ drop i out₀
  pub letters : marks_ok 10 (drop i out₀) ≡ true
  pub text : take at out ++ rest out₀ at i ≡ row_text (drop lead out₀)
  pub ends : at + length (rest out₀ at i) ≡ length out₀

module _ {out₀ : List ℕ} {lead : ℕ} {out : List ℕ} {at i : ℕ} (s : Spread out₀ lead out at i) where
  -- one byte more of the row
  put : (b j : ℕ) → at < length out → at < j → drop j out ≡ drop j out₀ → marks_ok 10 (drop j out₀) ≡ true → rest out₀ at i ≡ b ∷ rest out₀ (at + 1) j → Spread out₀ lead (set out at b) (at + 1) j
  put b j h g u ok e =
      record {
        size = length-set out at b ∙ s.size;
        unread = drop-set-lt j out at b g ∙ u;
        letters = ok;
        text = ap (λ x. take x (set out at b) ++ rest out₀ (at + 1) j) (add-one at) ∙ ap (λ x. x ++ rest out₀ (at + 1) j) (take-suc-set out at b h)
            ∙ append_assoc (take at out) (b ∷ []) (rest out₀ (at + 1) j) ∙ ap (λ x. take at out ++ x) (sym e) ∙ s.text;
        ends = omega (arith, s.ends, ap length e);
      }

  -- while marks are left
  module _ (left : i < length out₀) where
    next : drop i out₀ ≡ get_or out₀ i 0 ∷ drop (suc i) out₀
    next = drop-cons out₀ i 0 left

    pub behind : at < i
    behind = omega (arith, s.ends, broken-size (70 - at % 71) (glyphs (drop i out₀)) (omega arith), glyphs-length (drop i out₀), length-drop i out₀)

    -- a full line is ended
    pub spread_line : at % 71 ≡ 70 → Spread out₀ lead (set out at 10) (at + 1) i
    spread_line f =
        let full : 70 - at % 71 ≡ 0 = omega arith in
        let new : 70 - (at + 1) % 71 ≡ 70 = omega arith in
        put 10 i (omega (arith, s.size, behind)) behind s.unread s.letters
        (ap₂ (λ l x. broken l (glyphs x)) full next ∙ sym (ap₂ (λ l x. 10 ∷ broken l (glyphs x)) new next))

    -- a mark is read, and put into a line that is not full
    marks : marks_ok 10 (get_or out₀ i 0 ∷ drop (suc i) out₀) ≡ true
    marks = subst (λ x. marks_ok 10 x ≡ true) next s.letters

    mark : get_or out i 0 ≡ get_or out₀ i 0
    mark = ap (λ x. get_or out x 0) (sym (add-zero i)) ∙ sym (get_or-drop i out 0 0) ∙ ap (λ x. get_or x 0 0) (s.unread ∙ next)

    pub small : get_or out i 0 < 10
    small = omega (arith, mark, marks_head 10 (get_or out₀ i 0) (drop (suc i) out₀) marks)

    pub spread_mark : at % 71 < 70 → Spread out₀ lead (set out at (48 + get_or out i 0)) (at + 1) (i + 1)
    spread_mark f =
        let b = 48 + get_or out i 0 in
        let e : glyph (get_or out₀ i 0) ≡ b = ap glyph (sym mark) ∙ rw (lt-ltb (get_or out i 0) 10 small) in
        let one : 70 - at % 71 ≡ suc (70 - (at + 1) % 71) = omega arith in
        put b (i + 1) (omega (arith, s.size, behind)) (omega (arith, behind))
        (sym (drop-drop 1 i out) ∙ ap (drop 1) s.unread ∙ drop-drop 1 i out₀)
        (subst (λ j. marks_ok 10 (drop j out₀) ≡ true) (sym (add-one i)) (marks_tail 10 (get_or out₀ i 0) (drop (suc i) out₀) marks))
        (ap₂ (λ l x. broken l (glyphs x)) one next ∙ ap₂ (λ x j. x ∷ rest out₀ (at + 1) j) e (sym (add-one i)))

  -- no mark is left
  module _ (done : length out₀ ≤ i) where
    last : rest out₀ at i ≡ 10 ∷ []
    last = ap (λ x. broken (70 - at % 71) (glyphs x)) (drop_of_length-le out₀ {i = i} done)

    pub spread_end : at + 1 ≡ length out
    spread_end = omega (arith, s.ends, s.size, ap length last)

    pub spread_all : set out at 10 ≡ row_text (drop lead out₀)
    spread_all =
        let whole : length (set out at 10) ≤ at + 1 = omega (arith, length-set out at 10, spread_end) in
        sym (take_all (at + 1) (set out at 10) whole) ∙ ap (λ x. take x (set out at 10)) (add-one at) ∙ take-suc-set out at 10 (omega (arith, spread_end))
        ∙ ap (λ x. take at out ++ x) (sym last) ∙ s.text
