-- Signed numbers: the specification's sum is the machine's, and what fits a signed type by its absolute value.
use mathlib.Core.Path.{◌≡◌, refl, ap}
use mathlib.Core.Bool.{Bool, true, false}
use Prim.Native.Nat.{ℕ, zero, suc, ◌%◌, ◌^◌, ◌≤◌, ◌<◌}
use native.Mathlib.Omega.{arith}
use native.Mathlib.Nat.{mul-le-mul_right}
use lib.Dec.{eqb}
use lib.IntN.{ℤ, pos, negsuc, nat_abs, sub_ℕ, ◌+ℤ◌}
use lib.Signed.{mag}
use mir.Syntax.{w8, w64}
use mir.Val.{SFits}
use borrow.Author.Tests.{le-leb, lt-leb, le-ltb, lt-ltb}
use Rattle.theory.specs.Words.{pick}
use Rattle.theory.specs.Sums.{mobius, divides_some, primes_from, less, plus, scaled}
use Rattle.theory.proofs.Base.{upto, over, split}

less_is : (a b : ℕ) → less a b ≡ sub_ℕ a b
less_is a b = elim (split b a) [
  | upto h ↦ rw (le-leb b a h, le-ltb a b h)
  | over h ↦ rw (lt-leb b a h, lt-ltb a b h) (ap negsuc (omega arith))
]

pub plus_is : (a b : ℤ) → plus a b ≡ a +ℤ b
plus_is (pos a) (pos b) = refl
plus_is (pos a) (negsuc b) = less_is a (suc b)
plus_is (negsuc a) (pos b) = less_is b (suc a)
plus_is (negsuc a) (negsuc b) = refl

-- sizes
pub scaled_small : (z : ℤ) (n : ℕ) → nat_abs z ≤ 1 → nat_abs (scaled z n) ≤ n
scaled_small (pos a) n h = omega (arith, mul-le-mul_right n h)
scaled_small (negsuc a) zero h = omega arith
scaled_small (negsuc a) (suc n) h = omega (arith, mul-le-mul_right (suc n) h)

pub mobius_small : (n : ℕ) → nat_abs (mobius n) ≤ 1
mobius_small n = of (divides_some n 2 n) (eqb (primes_from n 2 n % 2) 0)
  where
    of : (s e : Bool) → nat_abs (pick s (pos 0) (pick e (pos 1) (negsuc 0))) ≤ 1
    of true e = omega arith
    of false true = omega arith
    of false false = omega arith

mag_abs : (z : ℤ) → mag z ≤ nat_abs z
mag_abs (pos a) = omega arith
mag_abs (negsuc a) = omega arith

pub fits8 : (z : ℤ) → nat_abs z < 2 ^ 7 → SFits w8 z
fits8 z h = record { sfits = omega (arith, mag_abs z) }

pub fits64 : (z : ℤ) → nat_abs z < 2 ^ 63 → SFits w64 z
fits64 z h = record { sfits = omega (arith, mag_abs z) }
