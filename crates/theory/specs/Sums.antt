-- Document 004's sum for a rank (section 3): the size of CS(w), Möbius values, the signed sum over the divisors.
use Rattle.std.specs.Prelude.{◌≡◌, Bool, true, false, ◌&&◌, ◌||◌, not, List, [], ◌∷◌, ℤ, pos, negsuc, ℕ, zero, suc, ◌+◌, ◌-◌, ◌*◌, ◌/◌, ◌%◌, ◌^◌, ◌≤◌, eqb, ltb, leb, length, take}
use Rattle.theory.specs.Words.{pick, same, up_to, smallest, keep, all_words, rank, marks_ok}
use Rattle.theory.specs.Lists.{count_from}

-- the number of words of w's length whose smallest rotation does not exceed w
abbrev pub cs : ℕ → List ℕ → ℕ
cs k w = length (keep (λ u. up_to (smallest u) w) (all_words k (length w)))

abbrev pub divides_some : ℕ → ℕ → ℕ → Bool
divides_some zero d n = false
divides_some (suc l) d n = eqb (n % (d * d)) 0 || divides_some l (suc d) n

abbrev pub prime_from : ℕ → ℕ → ℕ → Bool
prime_from zero d p = true
prime_from (suc l) d p = not (eqb (p % d) 0 && ltb d p) && prime_from l (suc d) p

abbrev pub is_prime : ℕ → Bool
is_prime p = leb 2 p && prime_from p 2 p

abbrev pub primes_from : ℕ → ℕ → ℕ → ℕ
primes_from zero p n = 0
primes_from (suc l) p n = pick (eqb (n % p) 0 && is_prime p) 1 0 + primes_from l (suc p) n

-- 0 with a square in it; else 1 or −1 by the number of primes
abbrev pub mobius : ℕ → ℤ
mobius n = pick (divides_some n 2 n) (pos 0) (pick (eqb (primes_from n 2 n % 2) 0) (pos 1) (negsuc 0))

abbrev pub less : ℕ → ℕ → ℤ
less a b = pick (leb b a) (pos (a - b)) (negsuc (b - a - 1))

abbrev pub plus : ℤ → ℤ → ℤ
plus (pos a) (pos b) = pos (a + b)
plus (pos a) (negsuc b) = less a (suc b)
plus (negsuc a) (pos b) = less b (suc a)
plus (negsuc a) (negsuc b) = negsuc (suc (a + b))

abbrev pub scaled : ℤ → ℕ → ℤ
scaled (pos a) n = pos (a * n)
scaled (negsuc a) zero = pos 0
scaled (negsuc a) (suc n) = negsuc (suc a * suc n - 1)

abbrev pub sum_from : ℕ → ℕ → ℕ → List ℕ → ℤ
sum_from zero d k w = pos 0
sum_from (suc l) d k w =
    let n = length w in
    plus (pick (eqb (n % d) 0) (scaled (mobius (n / d)) (cs k (take d w))) (pos 0)) (sum_from l (suc d) k w)

-- document 004, Lemma 9, for w equal to its smallest rotation
abbrev pub BySum : Type 0
BySum =
    (k : ℕ) (w : List ℕ) → 2 ≤ k → marks_ok k w ≡ true → 1 ≤ length w → same (smallest w) w ≡ true
    → pos (length w * rank k w) ≡ sum_from (length w) 1 k w

-- the divisors of n, smallest first
abbrev pub divisors : ℕ → List ℕ
divisors n = keep (λ d. eqb (n % d) 0) (count_from n 1)

-- n, n−1, .. 1; the divisors of n among the first l of these, and all of them: largest first
abbrev pub down : ℕ → List ℕ
down zero = []
down (suc n) = suc n ∷ down n

abbrev pub divisors_in : ℕ → ℕ → List ℕ
divisors_in n l = keep (λ d. eqb (n % d) 0) (take l (down n))

abbrev pub divisors_down : ℕ → List ℕ
divisors_down n = keep (λ d. eqb (n % d) 0) (down n)

-- a running sum over a list
abbrev pub running : (ℕ → ℤ) → ℤ → List ℕ → ℤ
running f a [] = a
running f a (d ∷ ds) = running f (plus a (f d)) ds

-- the term of a divisor in the sum for a rank, and in the sum for the number of Lyndon words
abbrev pub rank_term : ℕ → List ℕ → ℕ → ℤ
rank_term k w d = scaled (mobius (length w / d)) (cs k (take d w))

abbrev pub count_term : ℕ → ℕ → ℕ → ℤ
count_term k n d = scaled (mobius (n / d)) (k ^ d)
