-- The signed sum is n times a rank or a count: its cast to an unsigned number, and the quotient.
use mathlib.Core.Path.{◌≡◌, refl, sym, ◌∙◌, ap, ap₂, subst}
use mathlib.Core.Bool.{true}
use mathlib.Core.List.{List, [], ◌∷◌}
use lib.IntN.{ℤ, pos, nat_abs}
use lib.Signed.{non_neg}
use lib.Dec.{T}
use Prim.Native.Nat.{ℕ, ◌*◌, ◌/◌, ◌^◌, ◌≤◌, ◌<◌}
use native.Mathlib.Omega.{arith}
use native.Mathlib.Nat.{mul-div_right, eq_of_mul-eq-mul_left}
use mir.Syntax.{w64}
use mir.Val.{Fits, SFits, to_z, of_z}
use mir.ValLaws.{to_z-of_z}
use lib.ListN.{length}
use Rattle.theory.specs.Words.{rank, how_many}
use Rattle.theory.specs.Lists.{In, here, there}
use Rattle.theory.specs.Rings.{divides}
use Rattle.theory.specs.Sums.{mobius, scaled, plus, divisors, running, rank_term, count_term}
use Rattle.theory.proofs.Divisors.{divisors_in_lem, divisors_divide}
use Rattle.theory.specs.Prenecklaces.{Prenecklace}
use Rattle.theory.proofs.BySum.{by_pre, count_sum}
use Rattle.theory.proofs.Downwards.{downwards}
use Rattle.automaton.specs.Tables.{Sized}
use Rattle.moebius.specs.Summands.{summand, total, Powers}

running_ext : (f g : ℕ → ℤ) (a : ℤ) (ds : List ℕ) → ((d : ℕ) → In d ds → f d ≡ g d) → running f a ds ≡ running g a ds
running_ext f g a [] h = refl
running_ext f g a (d ∷ ds) h =
    ap (λ x. running f (plus a x) ds) (h d (here refl)) ∙ running_ext f g (plus a (g d)) ds (λ e i. h e (there i))

-- from the sizes of CS the terms are document 004's
pub summand_is : (k n : ℕ) (w t : List ℕ) → length w ≡ n → Sized k w t → (d : ℕ) → In d (divisors n) → summand n t d ≡ rank_term k w d
summand_is k n w t e h d i =
    ap₂ (λ m c. scaled (mobius (m / d)) c) (sym e) (h.entry d (subst (λ m. divides d m ≡ true) (sym e) (divisors_divide n i)))

-- the sum with the sizes of CS of a prenecklace, and with the powers of k
pub rank-sum : (k n : ℕ) (w t : List ℕ) → length w ≡ n → 1 ≤ n → Prenecklace w → Sized k w t → total n t ≡ pos (n * rank k w)
rank-sum k n w t e s p h =
    downwards (summand n t) (pos 0) n
    ∙ running_ext (summand n t) (rank_term k w) (pos 0) (divisors n) (summand_is k n w t e h)
    ∙ ap (λ m. running (rank_term k w) (pos 0) (divisors m)) (sym e)
    ∙ sym (by_pre k w (omega (arith, e, s)) p) ∙ ap (λ m. pos (m * rank k w)) e

pub count_total : (k n : ℕ) (t : List ℕ) → 1 ≤ n → Powers k n t → total n t ≡ pos (n * how_many k n)
count_total k n t s h =
    downwards (summand n t) (pos 0) n
    ∙ running_ext _ (count_term k n) (pos 0) (divisors n) (λ d i. ap (scaled (mobius (n / d))) (h.entry d (divisors_in_lem n i).1))
    ∙ sym (count_sum k n s)

-- the number that the sum is n times is its n-th part
pub only : {r v : ℕ} {z : ℤ} (n : ℕ) → 1 ≤ n → pos (n * r) ≡ z → z ≡ pos (n * v) → r ≡ v
only {r} {v} n s e f = eq_of_mul-eq-mul_left n s r v (ap nat_abs (e ∙ f))

-- a sum that is n times v, in the range of i64: it is not negative, in the range of u64, and its n-th part is v
module _ (z : ℤ) (n v : ℕ) (is : z ≡ pos (n * v)) (fits : SFits w64 z) where
  back : to_z w64 (of_z w64 z) ≡ pos (n * v)
  back = to_z-of_z w64 z fits ∙ is

  in_range : n * v < 2 ^ 64
  in_range = let f : SFits w64 (pos (n * v)) = rw is at fits in omega (arith, f.sfits)

  pub cast_ok : T (non_neg (to_z w64 (of_z w64 z))) × Fits w64 (nat_abs (to_z w64 (of_z w64 z)))
  cast_ok = rw back (tt, record { fits = in_range })

  pub part : 1 ≤ n → pos (n * (nat_abs (to_z w64 (of_z w64 z)) / n)) ≡ z
  part h = ap (λ x. pos (n * x)) (ap (λ x. nat_abs x / n) back ∙ mul-div_right v h) ∙ sym is
