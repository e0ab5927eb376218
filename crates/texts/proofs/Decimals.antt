-- Numbers in decimal: the digits of a number by those of its tenth, and how many there are.
use mathlib.Core.Path.{◌≡◌, refl, ◌∙◌, ap}
use mathlib.Core.List.{[], ◌∷◌, ◌++◌}
use mathlib.Core.Logic.{inl, inr}
use Prim.Native.Nat.{ℕ, zero, suc, ◌+◌, ◌/◌, ◌%◌, ◌^◌, ◌≤◌, ◌<◌}
use native.Mathlib.Omega.{arith}
use native.Mathlib.Nat.{pow-zero, pow-succ'}
use lib.Dec.{ltb}
use lib.ListN.{length, length-append}
use borrow.Author.Tests.{ltb-false, lt-ltb, le-ltb}
use Rattle.theory.proofs.Base.{test, upto, over, split}
use Rattle.texts.specs.Texts.{decimal_from, decimal}

-- turns do not matter once there are more than the number
turns : (a b v : ℕ) → v < a → v < b → decimal_from a v ≡ decimal_from b v
turns zero b v h g = absurd (omega arith)
turns (suc a) zero v h g = absurd (omega arith)
turns (suc a) (suc b) v h g = elim (test (ltb v 10)) [
  | inl t ↦ rw (t, decimal_from) refl
  | inr t ↦
      let l : 10 ≤ v = ltb-false v 10 t in
      rw (t, decimal_from) (ap (λ r. r ++ ((48 + v % 10) ∷ [])) (turns a b (v / 10) (omega arith) (omega arith)))
]

pub decimal_small : (v : ℕ) → v < 10 → decimal v ≡ (48 + v) ∷ []
decimal_small v h = rw (lt-ltb v 10 h, decimal_from) refl

pub decimal_large : (v : ℕ) → 10 ≤ v → decimal v ≡ decimal (v / 10) ++ ((48 + v % 10) ∷ [])
decimal_large v h = rw (le-ltb v 10 h, decimal_from) (ap (λ r. r ++ ((48 + v % 10) ∷ [])) (turns v (suc (v / 10)) (v / 10) (omega arith) (omega arith)))

-- one digit more than the tenth has
pub decimal_longer : (v : ℕ) → 10 ≤ v → length (decimal v) ≡ length (decimal (v / 10)) + 1
decimal_longer v h = ap length (decimal_large v h) ∙ length-append (decimal (v / 10)) ((48 + v % 10) ∷ [])

-- at least one digit
pub decimal_some : (v : ℕ) → 1 ≤ length (decimal v)
decimal_some v = elim (split 10 v) [
  | upto h ↦ omega (arith, decimal_longer v h)
  | over h ↦ omega (arith, ap length (decimal_small v h))
]

pub decimal-length : (l v : ℕ) → 1 ≤ l → v < 10 ^ l → length (decimal v) ≤ l
decimal-length zero v b h = absurd (omega arith)
decimal-length (suc l) v b h = elim (split 10 v) [
  | upto g ↦ omega (arith, decimal_longer v g, decimal-length l (v / 10) (further l h g) (omega (arith, pow-succ' 10 l)))
  | over g ↦ omega (arith, ap length (decimal_small v g))
]
  where
    further : (l : ℕ) → v < 10 ^ suc l → 10 ≤ v → 1 ≤ l
    further zero h g = absurd (omega (arith, pow-succ' 10 0, pow-zero 10))
    further (suc l) h g = omega arith

pub decimal_fits : (v : ℕ) → v < 2 ^ 64 → length (decimal v) ≤ 20
decimal_fits v h = decimal-length 20 v (omega arith) (omega arith)
