-- A picture read back: its two numbers, and the digits of its rows.
use mathlib.Core.Path.{◌≡◌, refl, ◌∙◌, ap}
use mathlib.Core.Bool.{true}
use mathlib.Core.List.{List, [], ◌∷◌, ◌++◌, append_assoc}
use Prim.Native.Nat.{ℕ, zero, suc, ◌+◌, ◌-◌, ◌*◌, ◌/◌, ◌%◌, ◌≤◌, ◌<◌}
use native.Mathlib.Omega.{arith}
use borrow.Author.Tests.{le-leb, lt-ltb}
use Rattle.theory.specs.Words.{repeated, marks_ok}
use Rattle.theory.specs.Strips.{marks_from}
use Rattle.theory.proofs.Base.{and_in, upto, over, split}
use Rattle.theory.proofs.Letters.{marks_up, marks_head, marks_tail}
use Rattle.theory.proofs.Rings.{strip-marks}
use Rattle.texts.specs.Texts.{decimal, glyph, glyphs, fields}
use Rattle.texts.proofs.Decimals.{decimal_small, decimal_large}
use Rattle.pbm.specs.Pictures.{broken, row_text, head_text, picture, is_digit, number_at, behind_number, digits_in, read_picture}

digit_is : (d : ℕ) → d < 10 → is_digit (48 + d) ≡ true
digit_is d h = and_in (le-leb 48 (48 + d) (omega arith)) (le-leb (48 + d) 57 (omega arith))

-- one digit: of a number, before what stands behind a number, of a row
read_digit : (v d : ℕ) (s : List ℕ) → d < 10 → number_at v ((48 + d) ∷ s) ≡ number_at (10 * v + d) s
read_digit v d s h = let e : 48 + d - 48 ≡ d = omega arith in rw (digit_is d h, number_at) (ap (λ x. number_at (10 * v + x) s) e)

pass_digit : (d : ℕ) (s : List ℕ) → d < 10 → behind_number ((48 + d) ∷ s) ≡ behind_number s
pass_digit d s h = rw (digit_is d h, behind_number)

row_digit : (a : ℕ) (s : List ℕ) → a < 10 → digits_in (glyph a ∷ s) ≡ a ∷ digits_in s
row_digit a s h = let e : 48 + a - 48 ≡ a = omega arith in rw (lt-ltb a 10 h, digit_is a h) (ap (λ x. x ∷ digits_in s) e)

-- all digits of a number, in as many turns as need be
read_turns : (f v : ℕ) (s : List ℕ) → v < f → (number_at 0 (decimal v ++ s) ≡ number_at v s) × (behind_number (decimal v ++ s) ≡ behind_number s)
read_turns zero v s h = absurd (omega arith)
read_turns (suc f) v s h = elim (split 10 v) [
  | upto g ↦
      let t : decimal v ++ s ≡ decimal (v / 10) ++ ((48 + v % 10) ∷ s) = ap (λ x. x ++ s) (decimal_large v g) ∙ append_assoc (decimal (v / 10)) ((48 + v % 10) ∷ []) s in
      let e : 10 * (v / 10) + v % 10 ≡ v = omega arith in
      let (read, pass) = read_turns f (v / 10) ((48 + v % 10) ∷ s) (omega arith) in (
        ap (number_at 0) t ∙ read ∙ read_digit (v / 10) (v % 10) s (omega arith) ∙ ap (λ x. number_at x s) e,
        ap behind_number t ∙ pass ∙ pass_digit (v % 10) s (omega arith),
      )
  | over g ↦
      let t : decimal v ++ s ≡ (48 + v) ∷ s = ap (λ x. x ++ s) (decimal_small v g) in
      let e : 10 * 0 + v ≡ v = omega arith in
      (ap (number_at 0) t ∙ read_digit 0 v s g ∙ ap (λ x. number_at x s) e, ap behind_number t ∙ pass_digit v s g)
]

read_number : (v : ℕ) (s : List ℕ) → (number_at 0 (decimal v ++ s) ≡ number_at v s) × (behind_number (decimal v ++ s) ≡ behind_number s)
read_number v s = read_turns (suc v) v s (omega arith)

-- the digits of a row, wherever its lines are broken, and of rows
digits_broken : (l : ℕ) (w s : List ℕ) → marks_ok 10 w ≡ true → digits_in (broken l (glyphs w) ++ s) ≡ w ++ digits_in s
digits_broken l [] s ok = refl
digits_broken zero (a ∷ w) s ok =
    row_digit a (broken 69 (glyphs w) ++ s) (marks_head 10 a w ok) ∙ ap (λ r. a ∷ r) (digits_broken 69 w s (marks_tail 10 a w ok))
digits_broken (suc l) (a ∷ w) s ok =
    row_digit a (broken l (glyphs w) ++ s) (marks_head 10 a w ok) ∙ ap (λ r. a ∷ r) (digits_broken l w s (marks_tail 10 a w ok))

digits_rows : (h : ℕ) (w : List ℕ) → marks_ok 10 w ≡ true → digits_in (repeated h (row_text w)) ≡ repeated h w
digits_rows zero w ok = refl
digits_rows (suc h) w ok = digits_broken 70 w (repeated h (row_text w)) ok ∙ ap (λ r. w ++ r) (digits_rows h w ok)

pub back : (k n p c h : ℕ) → 2 ≤ k → k ≤ 10 → 1 ≤ n
    → read_picture (picture k n p c h) ≡ record { plain = true; width = c; height = h; marks = repeated h (marks_from k n p c) }
unfolding head_text
back k n p c h two ten some =
    let w = marks_from k n p c in
    let rows = repeated h (row_text w) in
    let tail = decimal h ++ (10 ∷ rows) in
    let ok : marks_ok 10 w ≡ true = marks_up k 10 w ten (strip-marks k n p c two some) in
    let lines : fields (decimal c) (decimal h ∷ []) ++ rows ≡ decimal c ++ (32 ∷ tail) = simp append_assoc in
    let behind : behind_number (fields (decimal c) (decimal h ∷ []) ++ rows) ≡ tail = ap behind_number lines ∙ (read_number c (32 ∷ tail)).1 in
    let width : number_at 0 (fields (decimal c) (decimal h ∷ []) ++ rows) ≡ c = ap (number_at 0) lines ∙ (read_number c (32 ∷ tail)).0 in
    let height : number_at 0 (behind_number (fields (decimal c) (decimal h ∷ []) ++ rows)) ≡ h = ap (number_at 0) behind ∙ (read_number h (10 ∷ rows)).0 in
    let marks : digits_in (behind_number (behind_number (fields (decimal c) (decimal h ∷ []) ++ rows))) ≡ repeated h w =
    ap (λ x. digits_in (behind_number x)) behind ∙ ap digits_in (read_number h (10 ∷ rows)).1 ∙ digits_rows h w ok in
    rw (width, height, marks) refl
