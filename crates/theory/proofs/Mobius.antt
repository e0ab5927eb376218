-- Möbius values: a square factor and the number of primes under one more prime, and the sum over the divisors of a number: as many
-- values 1 as −1, but one more for the number 1. A prime p of n put in or taken out pairs the divisors of n that have no square factor.
use mathlib.Core.Path.{◌≡◌, refl, sym, ◌∙◌, ap, ap₂, subst}
use mathlib.Core.Bool.{Bool, true, false, ◌&&◌, not, false≢true, true≢false}
use mathlib.Core.List.{List, ◌∷◌}
use mathlib.Core.Logic.{inl, inr}
use Prim.Native.Nat.{ℕ, zero, suc, ◌+◌, ◌*◌, ◌/◌, ◌%◌, ◌≤◌, ◌<◌}
use native.Mathlib.Omega.{arith}
use native.Mathlib.Nat.{le_antisymm, eq_of_mul-eq-mul_left, mul_comm, le-mul_of_pos_right, one-le-mul, div-add-mod', zero-mul, one-mul}
use lib.IntN.{pos, negsuc}
use lib.Dec.{eqb}
use lib.ListN.{length}
use borrow.Author.Tests.{eqb-true, eqb-false, eq-eqb, ne_eqb, le-leb, lt-leb, not-true}
use Rattle.theory.specs.Words.{pick, keep}
use Rattle.theory.specs.Lists.{In, here, there, Once, count_from, each}
use Rattle.theory.specs.Sums.{divides_some, is_prime, primes_from, mobius, less, scaled, divisors}
use Rattle.theory.proofs.Base.{test, and_l, and_r, and_in, or_cases, cmp, equal, more, or_right, same_test}
use Rattle.theory.proofs.Base as base
use Rattle.theory.proofs.Lists.{keep_in, in_keep, keep_once, in_count, count_once, image, each_in, each_length, each_once_lem}
use Rattle.theory.proofs.Counts.{sum, length-keep, once_le, once_eq}
use Rattle.theory.proofs.Divisors.{Div, times, test_div, div_test, div_trans, div_times, div_le, div_some, divisors_in_lem, in_divisors, divisors_once}
use Rattle.theory.proofs.Primes.{Prime, prime_out, prime_in, primal, prime_divisor, euclid}

-- a square factor
pub data Squared (n : ℕ) : Type 0 where
  squared : (d : ℕ) → 2 ≤ d → Div (d * d) n → Squared n

some_square : (l d n : ℕ) → 2 ≤ d → divides_some l d n ≡ true → Squared n
some_square zero d n h t = absurd (false≢true t)
some_square (suc l) d n h t = elim (or_cases (eqb (n % (d * d)) 0) _ t) [
  | inl s ↦ squared d h (test_div (d * d) n s)
  | inr s ↦ some_square l (suc d) n (omega arith) s
]

square_some : (l d n e : ℕ) → d ≤ e → e < d + l → Div (e * e) n → divides_some l d n ≡ true
square_some zero d n e h k s = absurd (omega arith)
square_some (suc l) d n e h k s = elim (cmp d e) [
  | base.less q ↦ or_right (eqb (n % (d * d)) 0) _ (square_some l (suc d) n e q (omega arith) s)
  | equal q ↦ let t : eqb (n % (d * d)) 0 ≡ true = rw q (div_test s) in rw t
  | more q ↦ absurd (omega arith)
]

pub square_out : (n : ℕ) → divides_some n 2 n ≡ true → Squared n
square_out n t = some_square n 2 n (omega arith) t

pub square_in : {n : ℕ} → 1 ≤ n → Squared n → divides_some n 2 n ≡ true
square_in {n} h (squared d k s) = square_some n 2 n d k (omega (arith, div_le h s, le-mul_of_pos_right {m = d} d (omega arith))) s

-- the primes of a number
abbrev is_prime_of : ℕ → ℕ → Bool
is_prime_of n p = eqb (n % p) 0 && is_prime p

abbrev primes_of : ℕ → List ℕ
primes_of n = keep (is_prime_of n) (count_from n 2)

primes_count : (l a n : ℕ) → primes_from l a n ≡ length (keep (is_prime_of n) (count_from l a))
primes_count zero a n = refl
primes_count (suc l) a n = elim (test (is_prime_of n a)) [
  | inl t ↦ rw t (omega (arith, primes_count l (suc a) n))
  | inr t ↦ rw t (omega (arith, primes_count l (suc a) n))
]

primes_in : (n : ℕ) {p : ℕ} → In p (primes_of n) → Div p n × Prime p
primes_in n {p} i = let r = keep_in (is_prime_of n) (count_from n 2) i in (test_div p n (and_l _ _ r.1), prime_out p (and_r (eqb (n % p) 0) _ r.1))

in_primes : {n p : ℕ} → 1 ≤ n → Div p n → Prime p → In p (primes_of n)
in_primes {n} {p} h d r = in_keep (is_prime_of n) (in_count n 2 p r.two (omega (arith, div_le h d))) (and_in (div_test d) (prime_in r))

primes_once : (n : ℕ) → Once (primes_of n)
primes_once n = keep_once (is_prime_of n) (count_from n 2) (count_once n 2)

-- a prime p put into m, which it does not divide
module _ {p m : ℕ} (r : Prime p) (h : 1 ≤ m) (n : ¬ Div p m) where
  some : 1 ≤ p * m
  some = one-le-mul (omega (arith, r.two)) h

  -- no new square factor
  put_squared : Squared (p * m) → Squared m
  put_squared (squared d k (times q e)) = elim (euclid q (d * d) r (times m (sym e ∙ mul_comm p m))) [
    | inl s ↦ kept s
    | inr s ↦ elim (euclid d d r s) [ inl t ↦ absurd (n (inside t)) | inr t ↦ absurd (n (inside t)) ]
  ]
    where
      cancel : (y : ℕ) → p * m ≡ p * y → m ≡ y
      cancel y f = eq_of_mul-eq-mul_left p (omega (arith, r.two)) m y f

      kept : Div p q → Squared m
      kept (times x f) = squared d k (times x (cancel (x * (d * d)) (e ∙ ap (λ y. y * (d * d)) f ∙ omega arith)))

      inside : Div p d → Div p m
      inside (times x f) = times (q * x * x) (cancel (q * x * x * p) (e ∙ ap (λ y. q * (y * y)) f ∙ omega arith))

  put_square : divides_some (p * m) 2 (p * m) ≡ divides_some m 2 m
  put_square = same_test (divides_some (p * m) 2 (p * m)) (divides_some m 2 m)
      (λ t. square_in h (put_squared (square_out (p * m) t)))
      (λ t. elim (square_out m t) [ squared d k s ↦ square_in some (squared d k (div_times p s)) ])

  -- one prime more
  put_primes : primes_from (p * m) 2 (p * m) ≡ suc (primes_from m 2 m)
  put_primes =
      primes_count (p * m) 2 (p * m)
      ∙ once_eq (primes_of (p * m)) (p ∷ primes_of m) (primes_once (p * m)) (λ i. n (primes_in m i).0, primes_once m) there_in here_in
      ∙ ap suc (sym (primes_count m 2 m))
    where
      there_in : (q : ℕ) → In q (primes_of (p * m)) → In q (p ∷ primes_of m)
      there_in q i = let s = primes_in (p * m) i in elim (euclid p m s.1 s.0) [
        | inl d ↦ here (r.only q d s.1.two)
        | inr d ↦ there (in_primes h d s.1)
      ]

      here_in : (q : ℕ) → In q (p ∷ primes_of m) → In q (primes_of (p * m))
      here_in q (here e) = rw e (in_primes some (times m (mul_comm p m)) r)
      here_in q (there i) = let s = primes_in m i in in_primes some (div_times p s.0) s.1

-- the sign by the square test and the number of primes
abbrev even : ℕ → Bool
even c = eqb (c % 2) 0

abbrev is_plus : ℕ → Bool
is_plus n = not (divides_some n 2 n) && even (primes_from n 2 n)

abbrev is_minus : ℕ → Bool
is_minus n = not (divides_some n 2 n) && not (even (primes_from n 2 n))

even_next : (c : ℕ) → even (suc c) ≡ not (even c)
even_next c = elim (test (even c)) [
  | inl t ↦ rw t (ne_eqb (suc c % 2) 0 (λ e. omega (arith, eqb-true (c % 2) 0 t)))
  | inr t ↦ rw t (eq-eqb (suc c % 2) 0 (odd (eqb-false (c % 2) 0 t)))
]
  where
    odd : ¬ (c % 2 ≡ 0) → suc c % 2 ≡ 0
    odd h = omega arith

put_sign : {p m : ℕ} → Prime p → 1 ≤ m → ¬ Div p m → (is_plus (p * m) ≡ is_minus m) × (is_minus (p * m) ≡ is_plus m)
put_sign {p} {m} r h n =
    let e = ap even (put_primes r h n) ∙ even_next (primes_from m 2 m) in
    (ap₂ (λ a b. not a && b) (put_square r h n) e, ap₂ (λ a b. not a && b) (put_square r h n) (ap not e ∙ not_not (even (primes_from m 2 m))))
  where
    not_not : (b : Bool) → not (not b) ≡ b
    not_not true = refl
    not_not false = refl

-- n is m with p put in, or taken out: a relation that is its own inverse
data Toggled (p m n : ℕ) : Type 0 where
  put : ¬ Div p m → n ≡ p * m → Toggled p m n
  out : ¬ Div p n → m ≡ p * n → Toggled p m n

-- n does not tell of two numbers
toggled_one : {p m l n : ℕ} → 1 ≤ p → Toggled p m n → Toggled p l n → m ≡ l
toggled_one {p} {m} {l} h (put a e) (put b f) = eq_of_mul-eq-mul_left p h m l (sym e ∙ f)
toggled_one {p} {m} h (put a e) (out b f) = absurd (b (times m (e ∙ mul_comm p m)))
toggled_one {p} {m} {l} h (out a e) (put b f) = absurd (a (times l (f ∙ mul_comm p l)))
toggled_one h (out a e) (out b f) = e ∙ sym f

toggled_sign : {p m n : ℕ} → Prime p → 1 ≤ m → 1 ≤ n → Toggled p m n → (is_plus n ≡ is_minus m) × (is_minus n ≡ is_plus m)
toggled_sign {p} {m} {n} r h k (put a e) = rw e (put_sign r h a)
toggled_sign {p} {m} {n} r h k (out a e) = let s = put_sign r k a in rw e (sym s.1, sym s.0)

-- the divisors of a multiple of p stay divisors
toggled_div : {p m n c : ℕ} → Prime p → Div p c → Toggled p m n → Div m c → Div n c
toggled_div {p} {m} {n} {c} r d (put a e) (times q f) = elim (euclid q m r (subst (λ x. Div p x) f d)) [
  | inl s ↦ elim s [ times x g ↦ times x (f ∙ ap (λ y. y * m) g ∙ omega arith ∙ ap (λ y. x * y) (sym e)) ]
  | inr s ↦ absurd (a s)
]
toggled_div {p} {m} {n} r d (out a e) k = div_trans (times p e) k

abbrev toggle : ℕ → ℕ → ℕ
toggle p m = pick (eqb (m % p) 0) (m / p) (p * m)

toggle_is : (p m : ℕ) → ¬ Div (p * p) m → Toggled p m (toggle p m)
toggle_is p m h = elim (test (eqb (m % p) 0)) [
  | inl t ↦ rw t (out (λ d. h (square d (whole t))) (whole t))
  | inr t ↦ rw t (put (λ d. absurd (false≢true (sym t ∙ div_test d))) refl)
]
  where
    whole : eqb (m % p) 0 ≡ true → m ≡ p * (m / p)
    whole t = omega (arith, div-add-mod' m p, eqb-true (m % p) 0 t)

    square : Div p (m / p) → m ≡ p * (m / p) → Div (p * p) m
    square (times q e) f = times q (f ∙ ap (λ x. p * x) e ∙ omega arith)

-- the divisors of one sign are no more than those of the other
module _ {p n : ℕ} (r : Prime p) (h : 1 ≤ n) (d : Div p n) where
  sign_le : (f g : ℕ → Bool) → ((m : ℕ) → f m ≡ true → not (divides_some m 2 m) ≡ true)
      → ((m l : ℕ) → 1 ≤ m → 1 ≤ l → Toggled p m l → g l ≡ f m)
      → length (keep f (divisors n)) ≤ length (keep g (divisors n))
  sign_le f g free flip = subst (λ x. x ≤ length (keep g (divisors n))) (each_length (toggle p) plus) (once_le (each (toggle p) plus) (keep g (divisors n)) apart into)
    where
      plus : List ℕ
      plus = keep f (divisors n)

      toggles : (m : ℕ) → In m plus → Toggled p m (toggle p m)
      toggles m i =
          let s = keep_in f (divisors n) i in
          let k = divisors_in_lem n s.0 in
          toggle_is p m (λ q. absurd (true≢false (sym (square_in k.0 (squared p r.two q)) ∙ not-true (divides_some m 2 m) (free m s.1))))

      apart : Once (each (toggle p) plus)
      apart = each_once_lem (toggle p) plus (keep_once f (divisors n) (divisors_once n)) (λ m l i j e.
          toggled_one (omega (arith, r.two)) (toggles m i) (subst (λ x. Toggled p l x) (sym e) (toggles l j)))

      into : (x : ℕ) → In x (each (toggle p) plus) → In x (keep g (divisors n))
      into x i = elim (each_in (toggle p) plus i) [ image m j e ↦ at m j e ]
        where
          at : (m : ℕ) → In m plus → x ≡ toggle p m → In x (keep g (divisors n))
          at m j e =
              let s = keep_in f (divisors n) j in
              let k = divisors_in_lem n s.0 in
              let t : Toggled p m x = subst (λ y. Toggled p m y) (sym e) (toggles m j) in
              let c : Div x n = toggled_div r d t k.2 in
              in_keep g (in_divisors h c) (flip m x k.0 (div_some h c) t ∙ s.1)

  signs_even : length (keep is_plus (divisors n)) ≡ length (keep is_minus (divisors n))
  signs_even = le_antisymm
      (sign_le is_plus is_minus (λ m t. and_l _ _ t) (λ m l a b t. (toggled_sign r a b t).1))
      (sign_le is_minus is_plus (λ m t. and_l _ _ t) (λ m l a b t. (toggled_sign r a b t).0))

-- 1 where the Möbius value is 1, else 0; 1 where it is −1, else 0
pub plus_one : ℕ → ℕ
plus_one n = pick (is_plus n) 1 0

pub minus_one : ℕ → ℕ
minus_one n = pick (is_minus n) 1 0

pub one_small : (n : ℕ) → (plus_one n ≤ 1) × (minus_one n ≤ 1)
unfolding plus_one minus_one
one_small n = (small (is_plus n), small (is_minus n))
  where
    small : (b : Bool) → pick {A = ℕ} b 1 0 ≤ 1
    small true = omega arith
    small false = omega arith

pub mobius_is : (n : ℕ) → mobius n ≡ less (plus_one n) (minus_one n)
unfolding plus_one minus_one
mobius_is n = of (divides_some n 2 n) (even (primes_from n 2 n))
  where
    of : (s e : Bool) → pick s (pos 0) (pick e (pos 1) (negsuc 0)) ≡ less (pick (not s && e) 1 0) (pick (not s && not e) 1 0)
    of true e = refl
    of false true = refl
    of false false = refl

pub scaled_is : (n c : ℕ) → scaled (mobius n) c ≡ less (plus_one n * c) (minus_one n * c)
unfolding plus_one minus_one
scaled_is n c = of (divides_some n 2 n) (even (primes_from n 2 n)) c
  where
    of : (s e : Bool) (c : ℕ) → scaled (pick s (pos 0) (pick e (pos 1) (negsuc 0))) c ≡ less (pick (not s && e) 1 0 * c) (pick (not s && not e) 1 0 * c)
    of true e c = rw (zero-mul c)
    of false true c = rw (one-mul c, zero-mul c, le-leb 0 c (omega arith)) (ap pos (omega arith))
    of false false zero = refl
    of false false (suc c) = rw (one-mul (suc c), zero-mul (suc c), lt-leb (suc c) 0 (omega arith)) (ap negsuc (omega arith))

pub signs_sum : (n : ℕ) → 1 ≤ n → sum plus_one (divisors n) ≡ pick (eqb n 1) 1 0 + sum minus_one (divisors n)
unfolding plus_one minus_one
signs_sum n h = elim (cmp n 1) [
  | base.less q ↦ absurd (omega arith)
  | equal q ↦ rw q refl
  | more q ↦ rw (ne_eqb n 1 (λ e. omega arith)) (elim (prime_divisor n q) [
    | primal p r d ↦
        sym (length-keep is_plus (divisors n)) ∙ signs_even r h d ∙ length-keep is_minus (divisors n) ∙ omega arith
  ])
]
