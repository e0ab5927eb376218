-- Document 004's sum for a rank (Lemma 9) and the sum for the number of Lyndon words: the sizes of CS written over the words of one list
-- (Bases), the sums over words and divisors exchanged, and of each word's share only that of the words of full length left.
use mathlib.Core.Path.{◌≡◌, refl, sym, ◌∙◌, ap, ap₂}
use mathlib.Core.Bool.{Bool, true, false}
use mathlib.Core.List.{List}
use lib.IntN.{pos}
use Prim.Native.Nat.{ℕ, ◌+◌, ◌*◌, ◌/◌, ◌^◌, ◌≤◌}
use native.Mathlib.Omega.{arith}
use native.Mathlib.Nat.{mul_comm}
use lib.Dec.{eqb}
use lib.ListN.{length, take}
use Rattle.theory.specs.Words.{pick, when, up_to, smallest, all_words, lyndons, how_many, keep, rank}
use Rattle.theory.specs.Lists.{In}
use Rattle.theory.specs.Rings.{divides}
use Rattle.theory.specs.Sums.{cs, mobius, less, scaled, BySum, divisors, running, rank_term, count_term}
use Rattle.theory.proofs.Order.{same_eq}
use Rattle.theory.proofs.Lists.{keep_all}
use Rattle.theory.proofs.Counts.{sum, sum_ext, sum-plus, sum_times, sum_const, sum-keep, sum_swap}
use Rattle.theory.proofs.Listed.{all_count}
use Rattle.theory.proofs.Running.{less_pos, running-less, plus_one, minus_one, scaled_is, share, sum-running}
use Rattle.theory.proofs.Bases.{bases, base_in, bases-front, bases-whole, up_bases, cs-bases, rank-bases}
use Rattle.theory.proofs.Divisors.{divisors_divide}
use Rattle.theory.specs.Prenecklaces.{Prenecklace}
use Rattle.theory.proofs.Necklaces.{smallest_pre}

when_times : (b : Bool) (m c : ℕ) → m * when b c ≡ when b (m * c)
when_times true m c = refl
when_times false m c = omega arith

-- numbers c d, one for each divisor, that are sums over one list of words, each word with its length where that divides d
module _ (n : ℕ) (c : ℕ → ℕ) (B : List (List ℕ)) (some : 1 ≤ n) (fit : (u : List ℕ) → In u B → divides (length u) n ≡ true)
    (is : (d : ℕ) → In d (divisors n) → c d ≡ sum (λ u. when (divides (length u) d) (length u)) B) where
  -- the sums exchanged
  exchanged : (m : ℕ → ℕ) → sum (λ d. m d * c d) (divisors n) ≡ sum (λ u. sum (λ d. when (divides (length u) d) (m d * length u)) (divisors n)) B
  exchanged m =
      sum_ext (λ d. m d * c d) (λ d. sum (λ u. when (divides (length u) d) (m d * length u)) B) (divisors n) (λ d i.
      ap (λ r. m d * r) (is d i) ∙ sym (sum_times (m d) (λ u. when (divides (length u) d) (length u)) B)
      ∙ sum_ext (λ u. m d * when (divides (length u) d) (length u)) (λ u. when (divides (length u) d) (m d * length u)) B (λ u j. when_times (divides (length u) d) (m d) (length u)))
      ∙ sum_swap (λ d u. when (divides (length u) d) (m d * length u)) (divisors n) B

  shares : sum (λ d. plus_one (n / d) * c d) (divisors n) ≡ n * length (keep (λ u. eqb (length u) n) B) + sum (λ d. minus_one (n / d) * c d) (divisors n)
  shares =
      exchanged (λ d. plus_one (n / d))
      ∙ sum_ext _ (λ u. pick (eqb (length u) n) n 0 + sum (λ d. when (divides (length u) d) (minus_one (n / d) * length u)) (divisors n)) B (λ u i. share n (length u) some (fit u i))
      ∙ sum-plus (λ u. pick (eqb (length u) n) n 0) (λ u. sum (λ d. when (divides (length u) d) (minus_one (n / d) * length u)) (divisors n)) B
      ∙ ap₂ ◌+◌ (sym (sum-keep (λ u. eqb (length u) n) (λ u. n) B) ∙ sum_const n (keep (λ u. eqb (length u) n) B) ∙ mul_comm _ n) (sym (exchanged (λ d. minus_one (n / d))))

  pub by_bases : pos (n * length (keep (λ u. eqb (length u) n) B)) ≡ running (λ d. scaled (mobius (n / d)) (c d)) (pos 0) (divisors n)
  by_bases =
      let P = sum (λ d. plus_one (n / d) * c d) (divisors n) in
      let M = sum (λ d. minus_one (n / d) * c d) (divisors n) in
      let e : 0 + P ≡ n * length (keep (λ u. eqb (length u) n) B) + (0 + M) = omega (arith, shares) in
      sym (running-less (λ d. scaled (mobius (n / d)) (c d)) (λ d. plus_one (n / d) * c d) (λ d. minus_one (n / d) * c d) 0 0 (divisors n) (λ d i. scaled_is (n / d) (c d))
      ∙ ap (λ r. less r (0 + M)) e ∙ less_pos (n * length (keep (λ u. eqb (length u) n) B)) (0 + M))

-- for every prenecklace, so for every prefix of a necklace
pub by_pre : (k : ℕ) (w : List ℕ) → 1 ≤ length w → Prenecklace w → pos (length w * rank k w) ≡ running (rank_term k w) (pos 0) (divisors (length w))
by_pre k w s p =
    ap (λ r. pos (length w * r)) (rank-bases k w s)
    ∙ by_bases (length w) (λ d. cs k (take d w)) (up_bases k w) s (λ u i. (base_in (λ u. up_to u w) k (length w) s i).0)
    (λ d i. cs-bases k w s d p (divisors_divide (length w) i))

pub by_divisors : (k : ℕ) (w : List ℕ) → 1 ≤ length w → smallest w ≡ w → pos (length w * rank k w) ≡ running (rank_term k w) (pos 0) (divisors (length w))
by_divisors k w s e = by_pre k w s (smallest_pre w e)

pub by_sum : BySum
by_sum k w two marks s e = by_divisors k w s (same_eq (smallest w) w e) ∙ sym (sum-running k w)

pub count_sum : (k n : ℕ) → 1 ≤ n → pos (n * how_many k n) ≡ running (count_term k n) (pos 0) (divisors n)
count_sum k n s =
    ap (λ r. pos (n * r)) (sym (ap length (keep_all every (lyndons k n) (λ u i. refl))) ∙ sym (bases-whole every k n s))
    ∙ by_bases n (λ d. k ^ d) (bases every k n) s (λ u i. (base_in every k n s i).0)
    (λ d i. sym (all_count k d) ∙ sym (ap length (keep_all (λ x. true) (all_words k d) (λ u i. refl))) ∙ sym (bases-front every k n s every d (divisors_divide n i) (λ u a b. refl)))
  where
    every : List ℕ → Bool
    every u = true
