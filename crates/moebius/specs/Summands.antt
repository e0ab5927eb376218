-- The terms of a signed sum over the divisors of n, and numbers that it can hold.
use Rattle.std.specs.Prelude.{◌≡◌, List, ℤ, pos, ℕ, ◌*◌, ◌/◌, ◌^◌, ◌≤◌, length, get_or}
use Rattle.theory.specs.Sums.{mobius, scaled, divisors_down, running}

-- the term of a divisor d of n: the Möbius value of n/d times the number at d
abbrev pub summand : ℕ → List ℕ → ℕ → ℤ
summand n sizes d = scaled (mobius (n / d)) (get_or sizes d 0)

-- the sum over all divisors, from n downwards
abbrev pub total : ℕ → List ℕ → ℤ
total n sizes = running (summand n sizes) (pos 0) (divisors_down n)

-- that sum is n times a number
abbrev pub Whole : ℕ → List ℕ → Type 0
Whole n sizes = (v : ℕ) × (total n sizes ≡ pos (n * v))

-- for each divisor d of n a number not above k^d
pub record Summable (k n : ℕ) (sizes : List ℕ) : Type 0 where
  pub two : 2 ≤ k
  pub some : 1 ≤ n
  pub short : n ≤ 60
  pub range : k ^ n ≤ 2 ^ 60
  pub small : (d : ℕ) → get_or sizes d 0 ≤ k ^ d

-- the powers of k up to k^n; behind them any numbers, but none more than a power of k
pub record Powers (k n : ℕ) (t : List ℕ) : Type 0 where
  pub size : length t ≡ 61
  pub entry : (d : ℕ) → d ≤ n → get_or t d 0 ≡ k ^ d
  pub small : (d : ℕ) → get_or t d 0 ≤ k ^ d
