-- A word that a loop fills with one letter from its end on, one store a turn: before the letter at i it is as it was.
use mathlib.Core.Path.{◌≡◌, refl, ◌∙◌, ap}
use mathlib.Core.List.{List, ◌∷◌, ◌++◌}
use Prim.Native.Nat.{ℕ, suc, ◌-◌, ◌≤◌, ◌<◌}
use native.Mathlib.Omega.{arith}
use Rattle.std.proofs.Common.{rules}
use Rattle.std.proofs.lemmas.List.{places, same_lists, get_or-set_same}
use Rattle.std.proofs.lemmas.Bool.{cases_eq}
use lib.ListN.{length, get_or, set, take, replicate, length-set}
use Rattle.buffers.specs.Buffers.{filled}

pub filled-size : (z i : ℕ) (w : List ℕ) → i ≤ length w → length (filled z i w) ≡ length w
filled-size z i w h = search (rules, places)

pub record Filled (z : ℕ) (w₀ w : List ℕ) (i : ℕ) : Type 0 where
  pub within : i ≤ length w₀
  pub size : length w ≡ length w₀
  pub word : w ≡ filled z i w₀

pub filled_none : (z : ℕ) (w : List ℕ) → Filled z w w (length w)
filled_none z w = record { within = omega arith; size = refl; word = search (rules, places) }

-- the letter before i, read and written
module _ {z : ℕ} {w₀ w : List ℕ} {i : ℕ} (f : Filled z w₀ w i) (some : 0 < i) where
  pub filled-read : get_or w (i - 1) 0 ≡ get_or w₀ (i - 1) 0
  filled-read = ap (λ r. get_or r (i - 1) 0) f.word ∙ search (rules, places, f.within)

  pub filled_write : (a : ℕ) → set w (i - 1) a ≡ take (i - 1) w₀ ++ (a ∷ replicate (length w₀ - i) z)
  filled_write a =
      ap (λ r. set r (i - 1) a) f.word ∙ same_lists _ _ (search (rules, places, f.within)) (λ k d h. grind (arith, places, get_or-set_same, cases_eq k (i - 1), f.within))

  pub filled_more : Filled z w₀ (set w (i - 1) z) (i - 1)
  filled_more =
      let e : suc (length w₀ - i) ≡ length w₀ - (i - 1) = omega (arith, f.within) in
      record { within = omega (arith, f.within); size = length-set w (i - 1) z ∙ f.size; word = filled_write z ∙ ap (λ r. take (i - 1) w₀ ++ replicate r z) e }
