-- A word of a ring: what the test of its length says.
use mathlib.Core.Path.{◌≡◌, ap}
use mathlib.Core.Bool.{Bool, false, ◌&&◌}
use mathlib.Core.List.{List}
use Prim.Native.Nat.{ℕ}
use lib.Dec.{ltb}
use lib.ListN.{length}
use Rattle.theory.specs.Words.{marks_ok, is_lyndon}
use Rattle.theory.specs.Rings.{cursor, good_on}

-- a word of a length that is not allowed is none of the ring
module _ (ok : ℕ → Bool) (k n : ℕ) (w : List ℕ) (p : ℕ) where
  pub not_allowed : ok (length w) ≡ false → good_on ok (cursor k n w p) ≡ false
  not_allowed h = ap (λ t. t && (marks_ok k w && (is_lyndon w && ltb p (length w)))) h
