-- Running sums of signed numbers as differences of sums of natural numbers: no order of summation matters, the sums of document 004,
-- section 3, stay small, and what a divisor's multiples contribute to them.
use mathlib.Core.Path.{◌≡◌, refl, sym, ◌∙◌, ap, ap₂, subst}
use mathlib.Core.Bool.{Bool, true, false}
use mathlib.Core.List.{List, [], ◌∷◌}
use mathlib.Core.Logic.{◌⊎◌, inl, inr, ◌↔◌}
use lib.IntN.{ℤ, pos, negsuc, nat_abs}
use Prim.Native.Nat.{ℕ, zero, suc, ◌+◌, ◌-◌, ◌*◌, ◌/◌, ◌%◌, ◌^◌, ◌≤◌, ◌<◌}
use native.Mathlib.Omega.{arith}
use native.Mathlib.Nat.{le_trans, add-zero, zero-add, add_assoc, eq_of_mul-eq-mul_left, eq_of_mul-eq-mul_right, div_self, div-eq_of_eq-mul_left, div-add-mod', mul_comm, pow-succ', mul-le-mul_right}
use lib.Dec.{eqb}
use lib.ListN.{length, take}
use lib.Seq.{length-take-le}
use borrow.Author.Tests.{le-leb, lt-leb, eqb-true, eqb-false, ne_eqb, eq-eqb}
use Rattle.theory.specs.Words.{pick, when, keep}
use Rattle.theory.specs.Lists.{In, here, there, Once, count_from, each}
use Rattle.theory.specs.Rings.{divides}
use Rattle.theory.specs.Sums.{cs, mobius, less, plus, scaled, sum_from, divisors, running, rank_term, count_term}
use Rattle.theory.proofs.Base.{test, upto, over, split}
use Rattle.theory.proofs.Lists.{keep_in, in_keep, keep_once, in_count, image, each_in, in_each, each_once_lem}
use Rattle.theory.proofs.Counts.{sum, sum_ext, sum_le, sum_times, sum-when, once_sum, once_sum_le, each-sum}
use Rattle.theory.proofs.Divisors.{Div, times, div_mod, div_some, divides_out, divides_in, divisors_in_lem, in_divisors, divisors_once}
pub use Rattle.theory.proofs.Mobius.{plus_one, minus_one, one_small, mobius_is, scaled_is, signs_sum}
use Rattle.theory.proofs.Levels.{cs_small}

-- differences of natural numbers
less_up : (a b : ℕ) → b ≤ a → less a b ≡ pos (a - b)
less_up a b h = rw (le-leb b a h)

less-down : (a b : ℕ) → a < b → less a b ≡ negsuc (b - a - 1)
less-down a b h = rw (lt-leb b a h)

less-same : (a b c d : ℕ) → a + d ≡ c + b → less a b ≡ less c d
less-same a b c d e = elim (split b a) [
  | upto h ↦ less_up a b h ∙ ap pos (omega arith) ∙ sym (less_up c d (omega arith))
  | over h ↦ less-down a b h ∙ ap negsuc (omega arith) ∙ sym (less-down c d (omega arith))
]

pub less_pos : (a b : ℕ) → less (a + b) b ≡ pos a
less_pos a b = less_up (a + b) b (omega arith) ∙ ap pos (omega arith)

pub plus-less : (a b c d : ℕ) → plus (less a b) (less c d) ≡ less (a + c) (b + d)
plus-less a b c d = elim (split b a) [
  | upto h ↦ elim (split d c) [
    | upto k ↦ ap₂ plus (less_up a b h) (less_up c d k) ∙ ap pos (omega arith) ∙ sym (less_up (a + c) (b + d) (omega arith))
    | over k ↦ ap₂ plus (less_up a b h) (less-down c d k) ∙ less-same (a - b) (suc (d - c - 1)) (a + c) (b + d) (omega arith)
  ]
  | over h ↦ elim (split d c) [
    | upto k ↦ ap₂ plus (less-down a b h) (less_up c d k) ∙ less-same (c - d) (suc (b - a - 1)) (a + c) (b + d) (omega arith)
    | over k ↦ ap₂ plus (less-down a b h) (less-down c d k) ∙ ap negsuc (omega arith) ∙ sym (less-down (a + c) (b + d) (omega arith))
  ]
]

pub running-less : (f : ℕ → ℤ) (p m : ℕ → ℕ) (a b : ℕ) (ds : List ℕ) → ((d : ℕ) → In d ds → f d ≡ less (p d) (m d)) → running f (less a b) ds ≡ less (a + sum p ds) (b + sum m ds)
running-less f p m a b [] h = less-same a b (a + 0) (b + 0) (omega arith)
running-less f p m a b (d ∷ ds) h =
    ap (λ x. running f x ds) (ap (plus (less a b)) (h d (here refl)) ∙ plus-less a b (p d) (m d))
    ∙ running-less f p m (a + p d) (b + m d) ds (λ c i. h c (there i))
    ∙ ap₂ less (add_assoc a (p d) (sum p ds)) (add_assoc b (m d) (sum m ds))

-- the same from zero on
from_zero : (f : ℕ → ℤ) (p m : ℕ → ℕ) (ds : List ℕ) → ((d : ℕ) → In d ds → f d ≡ less (p d) (m d)) → running f (pos 0) ds ≡ less (sum p ds) (sum m ds)
from_zero f p m ds h = running-less f p m 0 0 ds h ∙ ap₂ less (zero-add (sum p ds)) (zero-add (sum m ds))

pub mobius-sum : (n : ℕ) → 1 ≤ n → running mobius (pos 0) (divisors n) ≡ pick (eqb n 1) (pos 1) (pos 0)
mobius-sum n h =
    from_zero mobius plus_one minus_one (divisors n) (λ d i. mobius_is d)
    ∙ ap (λ x. less x (sum minus_one (divisors n))) (signs_sum n h)
    ∙ less_pos (pick (eqb n 1) 1 0) (sum minus_one (divisors n))
    ∙ out (eqb n 1)
  where
    out : (b : Bool) → pos (pick b 1 0) ≡ pick b (pos 1) (pos 0)
    out true = refl
    out false = refl

-- every number is a difference, of its two parts
above : ℤ → ℕ
above (pos a) = a
above (negsuc a) = 0

under : ℤ → ℕ
under (pos a) = 0
under (negsuc a) = suc a

parts : (z : ℤ) → z ≡ less (above z) (under z)
unfolding above under
parts (pos a) = sym (less_up a 0 (omega arith) ∙ ap pos (omega arith))
parts (negsuc a) = sym (less-down 0 (suc a) (omega arith) ∙ ap negsuc (omega arith))

pub any_order : (f : ℕ → ℤ) (a : ℤ) (ds es : List ℕ) → Once ds → Once es → ((d : ℕ) → In d ds ↔ In d es) → running f a ds ≡ running f a es
any_order f a ds es p q h = of ds ∙ ap₂ (λ x y. less (above a + x) (under a + y)) (same (λ d. above (f d))) (same (λ d. under (f d))) ∙ sym (of es)
  where
    of : (cs : List ℕ) → running f a cs ≡ less (above a + sum (λ d. above (f d)) cs) (under a + sum (λ d. under (f d)) cs)
    of cs = ap (λ x. running f x cs) (parts a) ∙ running-less f (λ d. above (f d)) (λ d. under (f d)) (above a) (under a) cs (λ d i. parts (f d))

    same : (g : ℕ → ℕ) → sum g ds ≡ sum g es
    same g = once_sum g ds es p q (λ d i. (h d).0 i) (λ d i. (h d).1 i)

-- the specification's sum, from the right, is the running sum, from the left
pub sum-running : (k : ℕ) (w : List ℕ) → sum_from (length w) 1 k w ≡ running (rank_term k w) (pos 0) (divisors (length w))
sum-running k w = from_right (length w) 1 ∙ sym (from_zero (rank_term k w) p m (divisors n) (λ d i. scaled_is (n / d) (cs k (take d w))))
  where
    n : ℕ
    n = length w

    p : ℕ → ℕ
    p d = plus_one (n / d) * cs k (take d w)

    m : ℕ → ℕ
    m d = minus_one (n / d) * cs k (take d w)

    on : ℕ → ℕ → List ℕ
    on l a = keep (λ d. eqb (n % d) 0) (count_from l a)

    none : (a b : ℕ) → plus (pos 0) (less a b) ≡ less a b
    none a b = plus-less 0 0 a b ∙ ap₂ less (zero-add a) (zero-add b)

    from_right : (l a : ℕ) → sum_from l a k w ≡ less (sum p (on l a)) (sum m (on l a))
    from_right zero a = refl
    from_right (suc l) a = elim (test (eqb (n % a) 0)) [
      | inl t ↦ rw t (ap₂ plus (scaled_is (n / a) (cs k (take a w))) (from_right l (suc a)) ∙ plus-less (p a) (m a) (sum p (on l (suc a))) (sum m (on l (suc a))))
      | inr t ↦ rw t (ap (plus (pos 0)) (from_right l (suc a)) ∙ none (sum p (on l (suc a))) (sum m (on l (suc a))))
    ]

-- no running sum is large: each sign's terms are at most k ^ d, and k + .. + k ^ n ≤ 2 · k ^ n
powers_small : (k l a : ℕ) → 2 ≤ k → sum (λ d. k ^ d) (count_from (suc l) a) + k ^ a ≤ 2 * k ^ (a + l)
powers_small k zero a h = omega (arith, ap (λ x. k ^ x) (add-zero a))
powers_small k (suc l) a h =
    let e : suc a + l ≡ a + suc l = omega arith in
    omega (arith, powers_small k l (suc a) h, pow-succ' k a, mul-le-mul_right (k ^ a) h, ap (λ x. k ^ x) e)

powers_sum : (k n : ℕ) → 2 ≤ k → sum (λ d. k ^ d) (count_from n 1) ≤ 2 * k ^ n
powers_sum k zero h = omega arith
powers_sum k (suc l) h = let e : 1 + l ≡ suc l = omega arith in omega (arith, powers_small k l 1 h, ap (λ x. k ^ x) e)

less_small : (a b c : ℕ) → a ≤ c → b ≤ c → nat_abs (less a b) ≤ c
less_small a b c h k = elim (split b a) [
  | upto l ↦ rw (less_up a b l) (omega arith)
  | over l ↦ rw (less-down a b l) (omega arith)
]

pub terms_small : (k n : ℕ) (c : ℕ → ℕ) (ds : List ℕ) → 2 ≤ k → 1 ≤ n → Once ds → ((d : ℕ) → In d ds → In d (divisors n)) → ((d : ℕ) → d ≤ n → c d ≤ k ^ d)
    → nat_abs (running (λ d. scaled (mobius (n / d)) (c d)) (pos 0) ds) ≤ 2 * k ^ n
terms_small k n c ds h s o i small =
    rw (from_zero (λ d. scaled (mobius (n / d)) (c d)) (λ d. plus_one (n / d) * c d) (λ d. minus_one (n / d) * c d) ds (λ d j. scaled_is (n / d) (c d)))
    (less_small _ _ (2 * k ^ n) (bound plus_one (λ d. (one_small d).0)) (bound minus_one (λ d. (one_small d).1)))
  where
    bound : (f : ℕ → ℕ) → ((d : ℕ) → f d ≤ 1) → sum (λ d. f (n / d) * c d) ds ≤ 2 * k ^ n
    bound f g = le_trans (sum_le (λ d. f (n / d) * c d) (λ d. k ^ d) ds each_small) (le_trans (once_sum_le (λ d. k ^ d) ds (count_from n 1) o from) (powers_sum k n h))
      where
        from : (d : ℕ) → In d ds → In d (count_from n 1)
        from d j = let r = divisors_in_lem n (i d j) in in_count n 1 d r.0 (omega (arith, r.1))

        each_small : (d : ℕ) → In d ds → f (n / d) * c d ≤ k ^ d
        each_small d j = omega (arith, mul-le-mul_right (c d) (g (n / d)), small d (divisors_in_lem n (i d j)).1)

-- CS(w) is among all words
pub rank_small : (k : ℕ) (w : List ℕ) (ds : List ℕ) → 2 ≤ k → 1 ≤ length w → Once ds → ((d : ℕ) → In d ds → In d (divisors (length w)))
    → nat_abs (running (rank_term k w) (pos 0) ds) ≤ 2 * k ^ length w
rank_small k w ds h s o i = terms_small k (length w) (λ d. cs k (take d w)) ds h s o i (λ d l. subst (λ x. cs k (take d w) ≤ k ^ x) (length-take-le d w l) (cs_small k (take d w)))

pub count_small : (k n : ℕ) (ds : List ℕ) → 2 ≤ k → 1 ≤ n → Once ds → ((d : ℕ) → In d ds → In d (divisors n))
    → nat_abs (running (count_term k n) (pos 0) ds) ≤ 2 * k ^ n
count_small k n ds h s o i = terms_small k n (λ d. k ^ d) ds h s o i (λ d l. omega arith)

-- the multiples of e among the divisors of n
abbrev multiples_of : ℕ → ℕ → List ℕ
multiples_of e n = keep (divides e) (divisors n)

-- the quotients n / d for the d with e | d | n are the divisors of n / e, each once
module _ (n e : ℕ) (h : 1 ≤ n) (t : divides e n ≡ true) where
  whole : {d : ℕ} → Div d n → n ≡ n / d * d
  whole {d} k = omega (arith, div-add-mod' n d, div_mod k)

  quotient : {d : ℕ} → Div d n → 1 ≤ n / d
  quotient {d} k = div_some h (times d (whole k ∙ mul_comm (n / d) d))

  e_divides : Div e n
  e_divides = divides_out e n t

  e_some : 1 ≤ e
  e_some = div_some h e_divides

  multiple : {d : ℕ} → In d (multiples_of e n) → Div e d × Div d n
  multiple {d} i = let r = keep_in (divides e) (divisors n) i in (divides_out e d r.1, (divisors_in_lem n r.0).2)

  quotients_once : Once (each (λ d. n / d) (multiples_of e n))
  quotients_once = each_once_lem (λ d. n / d) (multiples_of e n) (keep_once (divides e) (divisors n) (divisors_once n)) apart
    where
      apart : (c d : ℕ) → In c (multiples_of e n) → In d (multiples_of e n) → n / c ≡ n / d → c ≡ d
      apart c d i j q =
          let k = (multiple i).1 in
          eq_of_mul-eq-mul_left (n / c) (quotient k) c d (sym (whole k) ∙ whole (multiple j).1 ∙ ap (λ x. x * d) (sym q))

  quotients_in : (x : ℕ) → In x (each (λ d. n / d) (multiples_of e n)) → In x (divisors (n / e))
  quotients_in x i = elim (each_in (λ d. n / d) (multiples_of e n) i) [ image d j f ↦ let r = multiple j in rw f (in_divisors (quotient e_divides) (inside r.0 r.1)) ]
    where
      inside : {d : ℕ} → Div e d → Div d n → Div (n / d) (n / e)
      inside {d} (times y f) k =
          times y (eq_of_mul-eq-mul_right e e_some (n / e) (y * (n / d)) (sym (whole e_divides) ∙ whole k ∙ ap (λ x. n / d * x) f ∙ omega arith))

  in_quotients : (x : ℕ) → In x (divisors (n / e)) → In x (each (λ d. n / d) (multiples_of e n))
  in_quotients x i = at (divisors_in_lem (n / e) i).2
    where
      at : Div x (n / e) → In x (each (λ d. n / d) (multiples_of e n))
      at (times y f) =
          let d = y * e in
          let g : n ≡ x * d = whole e_divides ∙ ap (λ z. z * e) f ∙ omega arith in
          let k : Div d n = times x g in
          subst (λ z. In z (each (λ d. n / d) (multiples_of e n))) (div-eq_of_eq-mul_left (div_some h k) g)
          (in_each (λ d. n / d) (in_keep (divides e) (in_divisors h k) (divides_in e_some (times y refl))))

  shared : (f : ℕ → ℕ) → sum (λ d. when (divides e d) (f (n / d) * e)) (divisors n) ≡ e * sum f (divisors (n / e))
  shared f =
      sum-when (divides e) (λ d. f (n / d) * e) (divisors n)
      ∙ sum_ext (λ d. f (n / d) * e) (λ d. e * f (n / d)) (multiples_of e n) (λ d i. mul_comm (f (n / d)) e)
      ∙ sum_times e (λ d. f (n / d)) (multiples_of e n)
      ∙ ap (λ x. e * x) (sym (each-sum (λ d. n / d) f (multiples_of e n)) ∙ once_sum f (each (λ d. n / d) (multiples_of e n)) (divisors (n / e)) quotients_once (divisors_once (n / e)) quotients_in in_quotients)

  -- the share of a Lyndon word of length e in the sum for length n: n if e is n, else nothing
  pub share : sum (λ d. when (divides e d) (plus_one (n / d) * e)) (divisors n) ≡ pick (eqb e n) n 0 + sum (λ d. when (divides e d) (minus_one (n / d) * e)) (divisors n)
  share = shared plus_one ∙ ap (λ x. e * x) (signs_sum (n / e) (quotient e_divides)) ∙ total (test (eqb e n)) ∙ ap (λ x. pick (eqb e n) n 0 + x) (sym (shared minus_one))
    where
      rest : ℕ
      rest = sum minus_one (divisors (n / e))

      total : (eqb e n ≡ true) ⊎ (eqb e n ≡ false) → e * (pick (eqb (n / e) 1) 1 0 + rest) ≡ pick (eqb e n) n 0 + e * rest
      total (inl s) = let q = eqb-true e n s in rw (s, eq-eqb (n / e) 1 (ap (λ x. n / x) q ∙ div_self h)) (omega arith)
      total (inr s) = rw (s, ne_eqb (n / e) 1 (λ q. eqb-false e n s (omega (arith, whole e_divides, ap (λ x. x * e) q)))) (omega arith)
