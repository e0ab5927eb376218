-- The sum over the divisors among the first i numbers from n downwards: how it grows, and that it stays small enough for its type.
use mathlib.Core.Path.{◌≡◌, refl, sym, ◌∙◌, ap, ap₂}
use mathlib.Core.List.{List}
use Prim.Native.Nat.{ℕ, ◌+◌, ◌-◌, ◌/◌, ◌%◌, ◌^◌, ◌≤◌, ◌<◌}
use native.Mathlib.Omega.{arith}
use native.Mathlib.Nat.{pow-le-pow_right}
use lib.IntN.{ℤ, pos, nat_abs, ◌+ℤ◌}
use lib.ListN.{get_or}
use mir.Syntax.{w64}
use mir.Val.{SFits, to_z, of_z}
use mir.ValLaws.{to_z-of_z}
use Rattle.theory.specs.Sums.{mobius, divisors_in, running}
use Rattle.theory.proofs.Running.{terms_small}
use Rattle.theory.proofs.Downwards.{in_more, in_skip, in_once, in_part, running_last}
use Rattle.moebius.specs.Summands.{summand, Summable}
use Rattle.moebius.proofs.Signed.{plus_is, scaled_small, mobius_small, fits64}

abbrev pub sum_to : ℕ → List ℕ → ℕ → ℤ
sum_to n sizes i = running (summand n sizes) (pos 0) (divisors_in n i)

-- the sum over none
pub sum-none : (n : ℕ) (sizes : List ℕ) → sum_to n sizes 0 ≡ pos 0
sum-none n sizes = refl

sum_more : (n : ℕ) (sizes : List ℕ) (i : ℕ) → i < n → n % (n - i) ≡ 0 → sum_to n sizes (i + 1) ≡ sum_to n sizes i +ℤ summand n sizes (n - i)
sum_more n sizes i h e =
    ap (running (summand n sizes) (pos 0)) (in_more n i h e) ∙ running_last (summand n sizes) (pos 0) (divisors_in n i) (n - i)
    ∙ plus_is (sum_to n sizes i) (summand n sizes (n - i))

pub sum_skip : (n : ℕ) (sizes : List ℕ) (i : ℕ) → i < n → (n % (n - i) ≡ 0 → ⊥) → sum_to n sizes (i + 1) ≡ sum_to n sizes i
sum_skip n sizes i h e = ap (running (summand n sizes) (pos 0)) (in_skip n i h e)

-- the sum over all
pub sum_all : (n : ℕ) (sizes : List ℕ) (i l : ℕ) → i ≡ l → sum_to n sizes i ≡ running (summand n sizes) (pos 0) (divisors_in n l)
sum_all n sizes i l e = ap (λ x. running (summand n sizes) (pos 0) (divisors_in n x)) e

module _ (k n : ℕ) (sizes : List ℕ) (s : Summable k n sizes) where
  pub entry_small : (d : ℕ) → d ≤ n → get_or sizes d 0 ≤ 2 ^ 60
  entry_small d h = omega (arith, s.small d, pow-le-pow_right {n = k} (omega (arith, s.two)) h, s.range)

  -- no sum is larger than 2^61
  pub sum_small : (i : ℕ) → nat_abs (sum_to n sizes i) ≤ 2 ^ 61
  sum_small i = omega (arith, s.range, terms_small k n (λ d. get_or sizes d 0) (divisors_in n i) s.two s.some (in_once n i) (in_part n i s.some) (λ d h. s.small d))

  -- any term and any running sum are far from the ends of i64
  pub term_range : (d : ℕ) → d ≤ n → nat_abs (summand n sizes d) < 2 ^ 63
  term_range d h = omega (arith, scaled_small (mobius (n / d)) (get_or sizes d 0) (mobius_small (n / d)), entry_small d h)

  pub sum_range : (i : ℕ) → nat_abs (sum_to n sizes i) < 2 ^ 63
  sum_range i = omega (arith, s.range, terms_small k n (λ d. get_or sizes d 0) (divisors_in n i) s.two s.some (in_once n i) (in_part n i s.some) (λ d h. s.small d))

-- one divisor more: z is its term, as a call gave it
module _ {k n : ℕ} {sizes : List ℕ} {i : ℕ} {sum z : ℤ} (s : Summable k n sizes) (h : i < n) (t : n % (n - i) ≡ 0) (so : sum ≡ sum_to n sizes i) (e : z ≡ summand n sizes (n - i)) (f : SFits w64 z) where
  the_sum : sum +ℤ to_z w64 (of_z w64 z) ≡ sum_to n sizes (i + 1)
  the_sum = ap₂ (λ a b. a +ℤ b) so (to_z-of_z w64 z f ∙ e) ∙ sym (sum_more n sizes i h t)

  pub sum_fits : SFits w64 (sum +ℤ to_z w64 (of_z w64 z))
  sum_fits = rw the_sum (fits64 (sum_to n sizes (i + 1)) (sum_range k n sizes s (i + 1)))

  pub sum_next : to_z w64 (of_z w64 (sum +ℤ to_z w64 (of_z w64 z))) ≡ sum_to n sizes (i + 1)
  sum_next = to_z-of_z w64 (sum +ℤ to_z w64 (of_z w64 z)) sum_fits ∙ the_sum
