-- The digits of a word: one for each letter.
use mathlib.Core.Path.{◌≡◌, refl, ◌∙◌, ap}
use mathlib.Core.List.{List, [], ◌∷◌, ◌++◌}
use Prim.Native.Nat.{ℕ, zero, suc, ◌+◌, ◌<◌}
use native.Mathlib.Omega.{arith}
use lib.ListN.{length, get_or, take}
use Rattle.std.proofs.lemmas.List.{take_more}
use Rattle.texts.specs.Texts.{glyph, glyphs}

pub glyphs-length : (w : List ℕ) → length (glyphs w) ≡ length w
glyphs-length [] = refl
glyphs-length (a ∷ w) = ap suc (glyphs-length w)

-- the digit of the letter at i
pub glyphs_at : (w : List ℕ) (i : ℕ) → i < length w → get_or (glyphs w) i 0 ≡ glyph (get_or w i 0)
glyphs_at [] i h = absurd (omega arith)
glyphs_at (a ∷ w) zero h = refl
glyphs_at (a ∷ w) (suc i) h = glyphs_at w i (omega arith)

glyphs-append : (u w : List ℕ) → glyphs (u ++ w) ≡ glyphs u ++ glyphs w
glyphs-append [] w = refl
glyphs-append (a ∷ u) w = ap (λ r. glyph a ∷ r) (glyphs-append u w)

pub glyphs_more : (w : List ℕ) (i : ℕ) → i < length w → glyphs (take (i + 1) w) ≡ glyphs (take i w) ++ (glyph (get_or w i 0) ∷ [])
glyphs_more w i h = ap glyphs (take_more w i 0 h) ∙ glyphs-append (take i w) (get_or w i 0 ∷ [])
