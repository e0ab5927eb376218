-- A power from the power with half the exponent, and what passes the limit 2^60.
use mathlib.Core.Path.{◌≡◌, ◌∙◌, ap, subst}
use Prim.Native.Nat.{ℕ, zero, suc, ◌+◌, ◌*◌, ◌/◌, ◌%◌, ◌^◌, ◌≤◌, ◌<◌}
use native.Mathlib.Omega.{arith}
use native.Mathlib.Nat.{le_refl, lt_of_lt_of_le, div-add-mod', div-le_self, pow-zero, pow-suc, pow-le-pow_right, mul-le-mul, mul-lt-mul_of_pos_left, le-div_iff_mul-le, div-lt_iff_lt-mul, mul-zero, mul_comm}
use lib.Pow.{pow-add}

-- k^n is the square of k^(n/2), for odd n times k
pub even_power : (k n : ℕ) → n % 2 ≡ 0 → k ^ n ≡ k ^ (n / 2) * k ^ (n / 2)
even_power k n h =
    let e : n ≡ n / 2 + n / 2 = omega (arith, div-add-mod' n 2) in
    ap (λ m. k ^ m) e ∙ pow-add k (n / 2) (n / 2)

pub odd_power : (k n : ℕ) → n % 2 ≡ 1 → k ^ n ≡ k ^ (n / 2) * k ^ (n / 2) * k
odd_power k n h =
    let e : n ≡ suc (n / 2 + n / 2) = omega (arith, div-add-mod' n 2) in
    ap (λ m. k ^ m) e ∙ pow-suc k (n / 2 + n / 2) ∙ ap (λ x. x * k) (pow-add k (n / 2) (n / 2))

-- squares against the limit
pub square_fits : (a : ℕ) → a ≤ 2 ^ 30 → a * a ≤ 2 ^ 60
square_fits a h = mul-le-mul h h

pub square_large : (a : ℕ) → 2 ^ 30 < a → 2 ^ 60 < a * a
square_large a h =
    let g : 2 ^ 30 * 2 ^ 30 < 2 ^ 30 * a = mul-lt-mul_of_pos_left h (omega arith) in
    lt_of_lt_of_le g (mul-le-mul (omega arith) (le_refl a))

-- a product with k against the limit
pub product_large : (a k : ℕ) → 0 < a → 2 ^ 60 / a < k → 2 ^ 60 < a * k
product_large a k s h = subst (λ x. 2 ^ 60 < x) (mul_comm k a) ((div-lt_iff_lt-mul s).0 h)

pub product_fits : (a k : ℕ) → 0 < a → k ≤ 2 ^ 60 / a → a * k ≤ 2 ^ 60
product_fits a k s h = subst (λ x. x ≤ 2 ^ 60) (mul_comm k a) ((le-div_iff_mul-le s).0 h)

-- a power above 1 has a base of 1 or more, so more factors do not make it smaller
zero_power : (m : ℕ) → 0 ^ m ≤ 1
zero_power zero = omega (arith, pow-zero 0)
zero_power (suc m) = omega (arith, pow-suc 0 m ∙ mul-zero (0 ^ m))

more_factors : (k : ℕ) {m n : ℕ} → m ≤ n → 1 < k ^ m → k ^ m ≤ k ^ n
more_factors zero {m} h l = absurd (omega (arith, zero_power m))
more_factors (suc k) h l = pow-le-pow_right (omega arith) h

pub past_half : (k n : ℕ) → 2 ^ 60 < k ^ (n / 2) → 2 ^ 60 < k ^ n
past_half k n h = omega (arith, more_factors k (div-le_self n 2) (omega arith))

pub past_square : (k n : ℕ) → 2 ^ 30 < k ^ (n / 2) → 2 ^ 60 < k ^ n
past_square k n h =
    let e : k ^ (n / 2 + n / 2) ≡ k ^ (n / 2) * k ^ (n / 2) = pow-add k (n / 2) (n / 2) in
    let large : 2 ^ 60 < k ^ (n / 2) * k ^ (n / 2) = square_large (k ^ (n / 2)) h in
    omega (arith, more_factors k {m = n / 2 + n / 2} {n = n} (omega arith) (omega arith))
