-- Prime numbers: the specification's test reflected, a prime divisor of every number above 1, Euclid's lemma.
use mathlib.Core.Path.{◌≡◌, sym, ◌∙◌, ap, subst}
use mathlib.Core.Bool.{true, false, ◌&&◌, not, true≢false}
use mathlib.Core.Logic.{◌⊎◌, inl, inr}
use Prim.Native.Nat.{ℕ, zero, suc, ◌+◌, ◌*◌, ◌/◌, ◌%◌, ◌≤◌, ◌<◌}
use native.Mathlib.Omega.{arith}
use native.Mathlib.Nat.{mod-lt, div-add-mod'}
use lib.Dec.{eqb, ltb, leb}
use borrow.Author.Tests.{ltb-true, leb-true, lt-ltb, le-leb, not-true}
use Rattle.theory.specs.Sums.{prime_from, is_prime}
use Rattle.theory.proofs.Base.{test, and_l, and_r, and_in, cmp, less, equal, more}
use Rattle.theory.proofs.Divisors.{Div, mod_div, test_div, div_test, div_refl, div_trans, div_times, div_rest, div_le}

-- primes: no divisor but 1 and the number itself
pub record Prime (p : ℕ) : Type 0 where
  pub two : 2 ≤ p
  pub only : (d : ℕ) → Div d p → 2 ≤ d → d ≡ p

-- a divisor other than 1 and the number itself
data Proper (n : ℕ) : Type 0 where
  proper : (d : ℕ) → 2 ≤ d → d < n → Div d n → Proper n

-- the test fails at a proper divisor; where it holds there is none
prime_from_lem : (l d p : ℕ) → 2 ≤ d → prime_from l d p ≡ false → Proper p
prime_from_lem zero d p h t = absurd (true≢false t)
prime_from_lem (suc l) d p h t = elim (test (eqb (p % d) 0 && ltb d p)) [
  | inl s ↦ proper d h (ltb-true d p (and_r (eqb (p % d) 0) _ s)) (test_div d p (and_l _ _ s))
  | inr s ↦ prime_from_lem l (suc d) p (omega arith) (rw s at t)
]

from_none : (l d p e : ℕ) → prime_from l d p ≡ true → d ≤ e → e < d + l → e < p → ¬ Div e p
from_none zero d p e t a b c h = omega arith
from_none (suc l) d p e t a b c h = elim (cmp d e) [
  | less q ↦ from_none l (suc d) p e (and_r (not (eqb (p % d) 0 && ltb d p)) _ t) (omega arith) (omega arith) c h
  | equal q ↦ absurd (true≢false (sym (and_in (div_test h) (lt-ltb e p c)) ∙ ap (λ x. eqb (p % x) 0 && ltb x p) (sym q) ∙ not-true (eqb (p % d) 0 && ltb d p) (and_l _ _ t)))
  | more q ↦ absurd (omega arith)
]

pub prime_out : (p : ℕ) → is_prime p ≡ true → Prime p
prime_out p t = record { two = two; only = only }
  where
    two : 2 ≤ p
    two = leb-true 2 p (and_l _ _ t)

    only : (d : ℕ) → Div d p → 2 ≤ d → d ≡ p
    only d h k = elim (cmp d p) [
      | less q ↦ absurd (from_none p 2 p d (and_r (leb 2 p) _ t) k (omega arith) q h)
      | equal q ↦ q
      | more q ↦ absurd (omega (arith, div_le (omega (arith, two)) h))
    ]

pub prime_in : {p : ℕ} → Prime p → is_prime p ≡ true
prime_in {p} r = elim (test (prime_from p 2 p)) [
  | inl t ↦ and_in (le-leb 2 p r.two) t
  | inr t ↦ elim (prime_from_lem p 2 p (omega arith) t) [ proper d a b h ↦ absurd (omega (arith, r.only d h a)) ]
]

-- every number above 1 has a prime divisor
pub data Primal (n : ℕ) : Type 0 where
  primal : (p : ℕ) → Prime p → Div p n → Primal n

primal_below : (f n : ℕ) → n < f → 2 ≤ n → Primal n
primal_below zero n l h = absurd (omega arith)
primal_below (suc f) n l h = elim (test (prime_from n 2 n)) [
  | inl t ↦ primal n (prime_out n (and_in (le-leb 2 n h) t)) (div_refl n)
  | inr t ↦ elim (prime_from_lem n 2 n (omega arith) t) [ proper d a b k ↦ of_divisor k (primal_below f d (omega arith) a) ]
]
  where
    of_divisor : {d : ℕ} → Div d n → Primal d → Primal n
    of_divisor k (primal p r j) = primal p r (div_trans j k)

pub prime_divisor : (n : ℕ) → 2 ≤ n → Primal n
prime_divisor n h = primal_below (suc n) n (omega arith) h

-- Euclid's lemma: by the remainder of p by a, for a below p, then by that of a by p
euclid_below : (f : ℕ) {p : ℕ} (a b : ℕ) → a < f → Prime p → 1 ≤ a → a < p → Div p (a * b) → Div p b
euclid_below zero a b l r h k d = absurd (omega arith)
euclid_below (suc f) {p} a b l r h k d = elim (cmp a 1) [
  | less q ↦ absurd (omega arith)
  | equal q ↦ subst (λ x. Div p x) (ap (λ x. x * b) q ∙ omega arith) d
  | more q ↦ euclid_below f (p % a) b (omega (arith, small)) r (remainder q) (omega (arith, small))
      (div_rest (p / a * (a * b)) (p % a * b) (subst (λ x. Div p x) (sym parts) (div_times b (div_refl p))) (div_times (p / a) d))
]
  where
    small : p % a < a
    small = mod-lt p h

    remainder : 1 < a → 1 ≤ p % a
    remainder q = elim (cmp (p % a) 0) [
      | less e ↦ absurd (omega arith)
      | equal e ↦ absurd (omega (arith, r.only a (mod_div a p e) q))
      | more e ↦ e
    ]

    parts : p / a * (a * b) + p % a * b ≡ b * p
    parts = omega arith ∙ ap (λ x. b * x) (div-add-mod' p a)

pub euclid : {p : ℕ} (a b : ℕ) → Prime p → Div p (a * b) → Div p a ⊎ Div p b
euclid {p} a b r d = elim (cmp (a % p) 0) [
  | less e ↦ absurd (omega arith)
  | equal e ↦ inl (mod_div p a e)
  | more e ↦ inr (euclid_below (suc (a % p)) (a % p) b (omega arith) r e (mod-lt a (omega (arith, r.two)))
      (div_rest (a / p * b * p) (a % p * b) (subst (λ x. Div p x) (sym parts) d) (div_times (a / p * b) (div_refl p))))
]
  where
    parts : a / p * b * p + a % p * b ≡ a * b
    parts = omega arith ∙ ap (λ x. x * b) (div-add-mod' a p)
