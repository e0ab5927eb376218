-- What holds of both rings: their lengths are allowed, they have as many letters as positions, and cursors go along them.
use mathlib.Core.Path.{◌≡◌, refl}
use mathlib.Core.Bool.{true}
use Prim.Native.Nat.{ℕ, ◌^◌, ◌≤◌}
use native.Mathlib.Omega.{arith}
use native.Mathlib.Nat.{le_refl, one-le-pow}
use lib.ListN.{length}
use Rattle.theory.specs.Words.{marks_ok}
use Rattle.theory.specs.Rings.{Allowed, ring}
use Rattle.theory.specs.Theorems.{Cursors}
use Rattle.theory.proofs.Divisors.{divisors_allowed}
use Rattle.theory.proofs.Rings.{strip-long, ring-marks}
use Rattle.theory.proofs.Strips.{cursors}
use Rattle.theory.proofs.Shorts.{whole_allowed, short_long, short_most, short_ring_lem, short_cursors}
use Rattle.shape.specs.declared.Strip as DS
use Rattle.shape.specs.declared.Lengths.{Lengths}
use Rattle.shape.specs.declared.Lengths.TheVariants.{Divisors, Whole}
use Rattle.shape.specs.Rings.{ok_of, size_of, size_in, letters_of}

pub allowed_of : (r : Lengths) (n : ℕ) → 1 ≤ n → Allowed n (ok_of r n)
allowed_of Divisors n s = divisors_allowed n s
allowed_of Whole n s = whole_allowed n s

pub long_of : (r : Lengths) (k n : ℕ) → 2 ≤ k → 1 ≤ n → length (ring (ok_of r n) k n) ≡ size_of r k n
long_of Divisors k n h s = strip-long k n h s
long_of Whole k n h s = short_long k n

pub size_in_lem : (r : Lengths) (s : DS.Strip) → size_in r s ≡ size_of r s.k s.n
size_in_lem Divisors s = s.whole
size_in_lem Whole s = refl

pub size-most : (r : Lengths) (k n : ℕ) → 2 ≤ k → 1 ≤ n → size_of r k n ≤ k ^ n
size-most Divisors k n h s = le_refl (k ^ n)
size-most Whole k n h s = short_most k n h s

pub size_some : (r : Lengths) (k n : ℕ) → 2 ≤ k → 1 ≤ n → 1 ≤ size_of r k n
size_some Divisors k n h s = one-le-pow n k (omega arith)
size_some Whole k n h s = omega (arith, (short_ring_lem k n h s).least)

pub marks_of : (r : Lengths) (k n p c : ℕ) → 2 ≤ k → 1 ≤ n → marks_ok k (letters_of r k n p c) ≡ true
marks_of r k n p c h s = ring-marks (ok_of r n) k n (size_of r k n) p c (long_of r k n h s) (size_some r k n h s)

pub cursors_of : (r : Lengths) → Cursors (ok_of r) (size_of r)
cursors_of Divisors = cursors
cursors_of Whole = short_cursors
