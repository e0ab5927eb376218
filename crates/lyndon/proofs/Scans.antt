-- `marks_ok` as one test of every letter, `same` as the test of two slices; and what a loop over the letters of two words decides at each letter, for `same` and `below`.
use mathlib.Core.Path.{◌≡◌, refl, ap, ap₂}
use mathlib.Core.Bool.{true, false, ◌&&◌}
use mathlib.Core.List.{List, [], ◌∷◌}
use Prim.Native.Nat.{ℕ, ◌+◌, ◌≤◌, ◌<◌}
use native.Mathlib.Omega.{arith}
use native.Mathlib.Numerals.{add-one}
use lib.Dec.{eqb, ltb}
use lib.ListN.{length, get_or, drop, drop_of_length-le}
use lib.Seq.{drop-cons}
use borrow.Author.Tests.{lt-ltb, le-ltb, eq-eqb, ne_eqb}
use Rattle.std.specs.Cmp.Lexicographic.{pointwise}
use Rattle.std.specs.List.{list_all}
use Rattle.theory.specs.Words.{same, below, marks_ok}

pub marks_all : (k : ℕ) (w : List ℕ) → marks_ok k w ≡ list_all (λ a. ltb a k) w
marks_all k [] = refl
marks_all k (a ∷ w) = ap (λ r. ltb a k && r) (marks_all k w)

-- `same` as the test that `==` of two slices makes
pub same_pointwise : (u v : List ℕ) → same u v ≡ pointwise eqb u v
same_pointwise [] [] = refl
same_pointwise [] (b ∷ v) = refl
same_pointwise (a ∷ u) [] = refl
same_pointwise (a ∷ u) (b ∷ v) = ap (λ r. eqb a b && r) (same_pointwise u v)

-- two words compared: from the letters at j on
module _ (u v : List ℕ) (j : ℕ) (inside-left : j < length u) (inside-right : j < length v) where
  pub below_less : get_or u j 0 < get_or v j 0 → below (drop j u) (drop j v) ≡ true
  below_less l = rw (drop-cons u j 0 inside-left, drop-cons v j 0 inside-right, lt-ltb (get_or u j 0) (get_or v j 0) l)

  pub below_more : get_or v j 0 < get_or u j 0 → below (drop j u) (drop j v) ≡ false
  below_more l =
      let m : get_or v j 0 ≤ get_or u j 0 = omega arith in
      rw (drop-cons u j 0 inside-left, drop-cons v j 0 inside-right, le-ltb (get_or u j 0) (get_or v j 0) m, ne_eqb (get_or u j 0) (get_or v j 0) (λ e. omega arith))

  pub below_on : get_or u j 0 ≡ get_or v j 0 → below (drop j u) (drop j v) ≡ below (drop (j + 1) u) (drop (j + 1) v)
  below_on e =
      let m : get_or v j 0 ≤ get_or u j 0 = omega arith in
      rw (drop-cons u j 0 inside-left, drop-cons v j 0 inside-right, le-ltb (get_or u j 0) (get_or v j 0) m, eq-eqb (get_or u j 0) (get_or v j 0) e, add-one j)

  pub same_differ : ¬ (get_or u j 0 ≡ get_or v j 0) → same (drop j u) (drop j v) ≡ false
  same_differ n = rw (drop-cons u j 0 inside-left, drop-cons v j 0 inside-right, ne_eqb (get_or u j 0) (get_or v j 0) n)

  pub same_on : get_or u j 0 ≡ get_or v j 0 → same (drop j u) (drop j v) ≡ same (drop (j + 1) u) (drop (j + 1) v)
  same_on e = rw (drop-cons u j 0 inside-left, drop-cons v j 0 inside-right, eq-eqb (get_or u j 0) (get_or v j 0) e, add-one j)

pub same_end : (u v : List ℕ) (j : ℕ) → length u ≤ j → length v ≤ j → same (drop j u) (drop j v) ≡ true
same_end u v j h g = ap₂ same (drop_of_length-le u h) (drop_of_length-le v g)
