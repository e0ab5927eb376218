-- Letters b at the start of a word: what their number says of the word, and how it is counted.
use mathlib.Core.Path.{◌≡◌, refl, sym, ◌∙◌, ap, ap₂}
use mathlib.Core.List.{List, [], ◌∷◌, head-eq_of_cons-eq, tail-eq_of_cons-eq}
use mathlib.Core.Logic.{inl, inr, ◌↔◌}
use Prim.Native.Nat.{ℕ, zero, suc, ◌+◌, ◌≤◌}
use native.Mathlib.Omega.{arith}
use lib.Dec.{eqb}
use lib.ListN.{length, take, replicate}
use lib.Seq.{take_all, take-take}
use borrow.Author.Tests.{eqb-true, eq-eqb, ne_eqb}
use Rattle.theory.proofs.Base.{test}
use Rattle.locator.specs.Fits.{leading}

pub leading_length : (b : ℕ) (w : List ℕ) → leading b w ≤ length w
leading_length b [] = omega arith
leading_length b (a ∷ w) = elim (test (eqb a b)) [ inl t ↦ rw t (omega (arith, leading_length b w)) | inr t ↦ rw t (omega arith) ]

-- so many letters b
pub leading-take : (b : ℕ) (w : List ℕ) → take (leading b w) w ≡ replicate (leading b w) b
leading-take b [] = refl
leading-take b (a ∷ w) = elim (test (eqb a b)) [ inl t ↦ rw t (ap₂ (λ x y. x ∷ y) (eqb-true a b t) (leading-take b w)) | inr t ↦ rw t refl ]

-- and no more
pub leading-most : (b r : ℕ) (w : List ℕ) → r ≤ length w → take r w ≡ replicate r b → r ≤ leading b w
leading-most b zero w h e = omega arith
leading-most b (suc r) [] h e = absurd (omega arith)
leading-most b (suc r) (a ∷ w) h e =
    rw (eq-eqb a b (head-eq_of_cons-eq e)) (omega (arith, leading-most b r w (omega arith) (tail-eq_of_cons-eq e)))

pub replicate-take : (r m b : ℕ) → r ≤ m → take r (replicate m b) ≡ replicate r b
replicate-take zero m b h = refl
replicate-take (suc r) zero b h = absurd (omega arith)
replicate-take (suc r) (suc m) b h = ap (λ x. b ∷ x) (replicate-take r m b (omega arith))

-- r letters b at the start, just when r is not more
pub leading_upto : (b r : ℕ) (w : List ℕ) → r ≤ length w → (r ≤ leading b w) ↔ (take r w ≡ replicate r b)
leading_upto b r w h = (within, leading-most b r w h)
  where
    within : r ≤ leading b w → take r w ≡ replicate r b
    within l = sym (take-take r (leading b w) w l) ∙ ap (take r) (leading-take b w) ∙ replicate-take r (leading b w) b l

pub leading_all : (b : ℕ) (w : List ℕ) → leading b w ≡ length w → w ≡ replicate (length w) b
leading_all b w e =
    sym (take_all (leading b w) w (omega arith)) ∙ leading-take b w ∙ ap (λ x. replicate x b) e

-- counted: another letter, one more letter b
pub leading_stop : (b a : ℕ) (w : List ℕ) → ¬ (a ≡ b) → leading b (a ∷ w) ≡ 0
leading_stop b a w n = rw (ne_eqb a b n) refl

pub leading_on : (b a : ℕ) (w : List ℕ) → a ≡ b → leading b (a ∷ w) ≡ leading b w + 1
leading_on b a w e = rw (eq-eqb a b e) (omega arith)
