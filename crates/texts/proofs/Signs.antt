-- How long the text of a signed number is.
use Prim.Native.Nat.{suc, ◌^◌, ◌≤◌, ◌<◌}
use native.Mathlib.Omega.{arith}
use lib.ListN.{length}
use lib.IntN.{ℤ, pos, negsuc, nat_abs}
use mathlib.Core.Path.{◌≡◌, refl}
use mathlib.Core.Bool.{true, false}
use mathlib.Core.List.{◌∷◌}
use lib.Signed.{lt_z}
use Rattle.texts.specs.Texts.{decimal, signed}
use Rattle.texts.proofs.Decimals.{decimal-length, decimal_fits}

pub signed_fits : (v : ℤ) → nat_abs v < 2 ^ 63 → length (signed v) ≤ 20
signed_fits (pos a) h = decimal_fits a (omega arith)
signed_fits (negsuc a) h = omega (arith, decimal-length 19 (suc a) (omega arith) (omega arith))

-- with its sign, and without one
pub minus : (v : ℤ) → lt_z v (pos 0) ≡ true → 45 ∷ decimal (nat_abs v) ≡ signed v
minus (pos a) h = absurd (grind arith)
minus (negsuc a) h = refl

pub no_minus : (v : ℤ) → lt_z v (pos 0) ≡ false → decimal (nat_abs v) ≡ signed v
no_minus (pos a) h = refl
no_minus (negsuc a) h = absurd (grind arith)
