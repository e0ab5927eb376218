-- Divisors: divisibility as data, the specification's tests reflected, the list of the divisors of a number.
use mathlib.Core.Path.{◌≡◌, sym, ◌∙◌, ap}
use mathlib.Core.Bool.{true}
use Prim.Native.Nat.{ℕ, zero, suc, ◌+◌, ◌*◌, ◌/◌, ◌%◌, ◌≤◌}
use native.Mathlib.Omega.{arith}
use native.Mathlib.Nat.{div-add-mod', mul-mod_left, mul-add-mod_self_right}
use lib.Dec.{eqb, leb}
use borrow.Author.Tests.{leb-true, eqb-true, le-leb, eq-eqb}
use Rattle.theory.specs.Rings.{divides, Allowed}
use Rattle.theory.specs.Strips.{divisor_of}
use Rattle.theory.specs.Lists.{In, Once, count_from}
use Rattle.theory.specs.Sums.{divisors}
use Rattle.theory.proofs.Base.{and_l, and_r, and_in}
use Rattle.theory.proofs.Lists.{keep_in, in_keep, keep_once, count_in, in_count, count_once}

-- d divides n
pub data Div (d n : ℕ) : Type 0 where
  times : (q : ℕ) → n ≡ q * d → Div d n

pub mod_div : (d n : ℕ) → n % d ≡ 0 → Div d n
mod_div d n h = times (n / d) (omega (arith, div-add-mod' n d))

pub div_mod : {d n : ℕ} → Div d n → n % d ≡ 0
div_mod {d} (times q e) = ap (λ x. x % d) e ∙ mul-mod_left q d

pub test_div : (d n : ℕ) → eqb (n % d) 0 ≡ true → Div d n
test_div d n t = mod_div d n (eqb-true (n % d) 0 t)

pub div_test : {d n : ℕ} → Div d n → eqb (n % d) 0 ≡ true
div_test {d} {n} h = eq-eqb (n % d) 0 (div_mod h)

pub div_refl : (n : ℕ) → Div n n
div_refl n = times 1 (omega arith)

pub div_trans : {c d n : ℕ} → Div c d → Div d n → Div c n
div_trans {c} (times p e) (times q f) = times (q * p) (f ∙ ap (λ x. q * x) e ∙ omega arith)

pub div_times : {d n : ℕ} (a : ℕ) → Div d n → Div d (a * n)
div_times {d} a (times q e) = times (a * q) (ap (λ x. a * x) e ∙ omega arith)

-- of a sum and one part the other
pub div_rest : {d : ℕ} (a b : ℕ) → Div d (a + b) → Div d a → Div d b
div_rest {d} a b (times q e) (times p f) = mod_div d b (sym (mul-add-mod_self_right p d b) ∙ ap (λ x. (x + b) % d) (sym f) ∙ div_mod (times q e))

pub div_le : {d n : ℕ} → 1 ≤ n → Div d n → d ≤ n
div_le {d} {n} h (times zero e) = absurd (omega arith)
div_le {d} {n} h (times (suc q) e) = omega arith

pub div_some : {d n : ℕ} → 1 ≤ n → Div d n → 1 ≤ d
div_some {d = zero} {n} h (times q e) = absurd (omega arith)
div_some {d = suc d} {n} h (times q e) = omega arith

-- the specification's test, with its 1 ≤ d
pub divides_out : (d n : ℕ) → divides d n ≡ true → Div d n
divides_out d n t = test_div d n (and_r (leb 1 d) _ t)

pub divides_in : {d n : ℕ} → 1 ≤ d → Div d n → divides d n ≡ true
divides_in {d} {n} h k = and_in (le-leb 1 d h) (div_test k)

pub divides-one : (n : ℕ) → divides 1 n ≡ true
divides-one n = divides_in {d = 1} {n = n} (omega arith) (times n (omega arith))

pub divides_some_lem : (d n : ℕ) → divides d n ≡ true → 1 ≤ d
divides_some_lem d n h = leb-true 1 d (and_l (leb 1 d) (eqb (n % d) 0) h)

pub divides_le : (d n : ℕ) → 1 ≤ n → divides d n ≡ true → d ≤ n
divides_le d n h t = div_le h (divides_out d n t)

pub divides_trans : (a b n : ℕ) → divides a b ≡ true → divides b n ≡ true → divides a n ≡ true
divides_trans a b n p q = divides_in (divides_some_lem a b p) (div_trans (divides_out a b p) (divides_out b n q))

-- n as a multiple of a divisor
pub multiple : (d n : ℕ) → 1 ≤ n → divides d n ≡ true → (e : ℕ) × (suc e * d ≡ n)
multiple d n s h = go (divides_out d n h)
  where
    go : Div d n → (e : ℕ) × (suc e * d ≡ n)
    go (times zero e) = absurd (omega arith)
    go (times (suc q) e) = (q, sym e)

-- all divisors of n are a set of allowed lengths
pub divisors_allowed : (n : ℕ) → 1 ≤ n → Allowed n (divisor_of n)
divisors_allowed n h = record { whole = divides_in h (div_refl n); divisor = λ d t. t }

-- the divisors of a number
pub divisors_in_lem : (n : ℕ) {d : ℕ} → In d (divisors n) → (1 ≤ d) × (d ≤ n) × Div d n
divisors_in_lem n {d} i = let r = keep_in (λ c. eqb (n % c) 0) (count_from n 1) i in let s = count_in n 1 r.0 in (s.0, omega (arith, s.1), test_div d n r.1)

pub in_divisors : {n d : ℕ} → 1 ≤ n → Div d n → In d (divisors n)
in_divisors {n} {d} h k = in_keep (λ c. eqb (n % c) 0) (in_count n 1 d (div_some h k) (omega (arith, div_le h k))) (div_test k)

pub divisors_once : (n : ℕ) → Once (divisors n)
divisors_once n = keep_once (λ c. eqb (n % c) 0) (count_from n 1) (count_once n 1)

pub divisors_divide : (n : ℕ) {d : ℕ} → In d (divisors n) → divides d n ≡ true
divisors_divide n i = let r = divisors_in_lem n i in divides_in r.0 r.2
