-- Divisors from n downwards: they are the divisors, largest first, so a running sum over them ends as that over the divisors upwards. With the largest necklace
-- not above a word it ends at n times the word's rank.
use mathlib.Core.Path.{◌≡◌, refl, sym, ◌∙◌, ap, ap₂, subst}
use mathlib.Core.Bool.{Bool, true}
use mathlib.Core.List.{List, [], ◌∷◌, ◌++◌, reverse, reverse-append, append-nil}
use lib.IntN.{ℤ, pos}
use Prim.Native.Nat.{ℕ, zero, suc, ◌+◌, ◌-◌, ◌*◌, ◌%◌, ◌≤◌, ◌<◌}
use native.Mathlib.Omega.{arith}
use native.Mathlib.Nat.{le_refl, mod-one}
use native.Mathlib.Numerals.{add-one}
use lib.Dec.{eqb}
use lib.ListN.{length, take}
use lib.Seq.{take_all}
use borrow.Author.Tests.{eq-eqb, ne_eqb}
use Rattle.theory.specs.Words.{pick, keep, marks_ok, rank}
use Rattle.theory.specs.Lists.{In, here, there, Once, count_from}
use Rattle.theory.specs.Sums.{plus, divisors, down, divisors_in, divisors_down, running, rank_term}
use Rattle.theory.specs.Floors.{necklace_up_to}
use Rattle.theory.specs.Theorems.{Summed}
use Rattle.theory.proofs.Base.{upto, over, split}
use Rattle.theory.proofs.Lists.{take_once, keep_in, in_keep, keep_append, keep_reverse, keep_once, in_nil, count_last}
use Rattle.theory.proofs.Divisors.{test_div, in_divisors, divisors_in_lem, divisors_once, div_test}
use Rattle.theory.proofs.Running.{mobius-sum, any_order, rank_small, count_small}
use Rattle.theory.proofs.BySum.{by_sum, by_divisors, count_sum}
use Rattle.theory.proofs.Floors.{floor_is, floor_rank}

-- the numbers from n down to 1
down_in : (n : ℕ) {d : ℕ} → In d (down n) → (1 ≤ d) × (d ≤ n)
down_in zero i = absurd (in_nil i)
down_in (suc n) (here e) = (omega arith, omega arith)
down_in (suc n) (there i) = let r = down_in n i in (r.0, omega (arith, r.1))

in_down : (n d : ℕ) → 1 ≤ d → d ≤ n → In d (down n)
in_down zero d s h = absurd (omega arith)
in_down (suc n) d s h = elim (split d n) [ upto l ↦ there (in_down n d s l) | over l ↦ let e : d ≡ suc n = omega arith in here e ]

down_once : (n : ℕ) → Once (down n)
down_once zero = tt
down_once (suc n) = (λ i. let h : suc n ≤ n = (down_in n i).1 in omega arith, down_once n)

down-length : (n : ℕ) → length (down n) ≡ n
down-length zero = refl
down-length (suc n) = ap suc (down-length n)

down_last : (n l : ℕ) → l < n → take (suc l) (down n) ≡ take l (down n) ++ ((n - l) ∷ [])
down_last zero l h = absurd (omega arith)
down_last (suc n) zero h = let e : suc n ≡ suc n - 0 = omega arith in ap (λ d. d ∷ []) e
down_last (suc n) (suc l) h = let e : n - l ≡ suc n - suc l = omega arith in ap (λ r. suc n ∷ r) (down_last n l (omega arith) ∙ ap (λ d. take l (down n) ++ (d ∷ [])) e)

down_reversed : (n : ℕ) → down n ≡ reverse (count_from n 1)
down_reversed zero = refl
down_reversed (suc n) =
    let e : suc n ≡ 1 + n = omega arith in
    ap₂ (λ d r. d ∷ r) e (down_reversed n) ∙ sym (ap reverse (count_last n 1) ∙ reverse-append (count_from n 1) ((1 + n) ∷ []))

-- the divisors of n among the first l of them
abbrev divisor : ℕ → ℕ → Bool
divisor n d = eqb (n % d) 0

in_next : (n l : ℕ) → l < n → divisors_in n (l + 1) ≡ divisors_in n l ++ keep (divisor n) ((n - l) ∷ [])
in_next n l h = ap (λ m. divisors_in n m) (add-one l) ∙ ap (keep (divisor n)) (down_last n l h) ∙ keep_append (divisor n) (take l (down n)) ((n - l) ∷ [])

pub in_more : (n l : ℕ) → l < n → n % (n - l) ≡ 0 → divisors_in n (l + 1) ≡ divisors_in n l ++ ((n - l) ∷ [])
in_more n l h e = in_next n l h ∙ ap (λ b. divisors_in n l ++ (pick b ((n - l) ∷ []) [] ++ [])) (eq-eqb (n % (n - l)) 0 e)

pub in_skip : (n l : ℕ) → l < n → (n % (n - l) ≡ 0 → ⊥) → divisors_in n (l + 1) ≡ divisors_in n l
in_skip n l h e = in_next n l h ∙ ap (λ b. divisors_in n l ++ (pick b ((n - l) ∷ []) [] ++ [])) (ne_eqb (n % (n - l)) 0 e) ∙ append-nil (divisors_in n l)

pub in_all : (n l : ℕ) → n ≤ l → divisors_in n l ≡ divisors_down n
in_all n l h = ap (keep (divisor n)) (take_all l (down n) (omega (arith, down-length n)))

-- the last of all is 1
pub one_last : (n : ℕ) → 1 ≤ n → divisors_down n ≡ divisors_in n (n - 1) ++ (1 ∷ [])
one_last n s =
    let e : n - 1 + 1 ≡ n = omega arith in
    let f : n - (n - 1) ≡ 1 = omega arith in
    sym (in_all n n (le_refl n)) ∙ ap (divisors_in n) (sym e) ∙ in_more n (n - 1) (omega arith) (ap (λ d. n % d) f ∙ mod-one n)
    ∙ ap (λ d. divisors_in n (n - 1) ++ (d ∷ [])) f

-- each of them once, and all are divisors
pub in_once : (n l : ℕ) → Once (divisors_in n l)
in_once n l = keep_once (divisor n) (take l (down n)) (take_once l (down n) (down_once n))

pub in_part : (n l : ℕ) → 1 ≤ n → (d : ℕ) → In d (divisors_in n l) → In d (divisors n)
in_part n l s d i = in_divisors s (test_div d n (keep_in (divisor n) (take l (down n)) i).1)

-- the sum with one more at the end
pub running_last : (f : ℕ → ℤ) (a : ℤ) (ds : List ℕ) (d : ℕ) → running f a (ds ++ (d ∷ [])) ≡ plus (running f a ds) (f d)
running_last f a [] d = refl
running_last f a (c ∷ ds) d = running_last f (plus a (f c)) ds d

-- the sum downwards is the sum upwards
pub downwards : (f : ℕ → ℤ) (a : ℤ) (n : ℕ) → running f a (divisors_down n) ≡ running f a (divisors n)
downwards f a n = any_order f a (divisors_down n) (divisors n) (keep_once (divisor n) (down n) (down_once n)) (divisors_once n) λ d. (out d, into d)
  where
    out : (d : ℕ) → In d (divisors_down n) → In d (divisors n)
    out d i =
        let r = keep_in (divisor n) (down n) i in
        let b = down_in n r.0 in
        in_divisors (omega (arith, b.0, b.1)) (test_div d n r.1)

    into : (d : ℕ) → In d (divisors n) → In d (divisors_down n)
    into d i = let r = divisors_in_lem n i in in_keep (divisor n) (in_down n d r.0 r.1) (div_test r.2)

pub down_is : (n : ℕ) → divisors_down n ≡ reverse (divisors n)
down_is n = ap (keep (divisor n)) (down_reversed n) ∙ keep_reverse (divisor n) (count_from n 1)

pub worksheet-total : (k : ℕ) (w : List ℕ) → marks_ok k w ≡ true → 1 ≤ length w
    → running (rank_term k (necklace_up_to k w)) (pos 0) (divisors_down (length w)) ≡ pos (length w * rank k w)
worksheet-total k w m s =
    let v = necklace_up_to k w in
    let r = floor_is k w m in
    let total : pos (length w * rank k v) ≡ running (rank_term k v) (pos 0) (divisors (length w)) = subst (λ n. pos (n * rank k v) ≡ running (rank_term k v) (pos 0) (divisors n)) r.0 (by_divisors k v (omega (arith, r.0, s)) r.2) in
    downwards (rank_term k v) (pos 0) (length w) ∙ sym total ∙ ap (λ x. pos (length w * x)) (floor_rank k w m)

pub summed : Summed
summed =
    record {
      mobius-sum = mobius-sum;
      any_order = any_order;
      down_is = down_is;
      downwards = downwards;
      by_sum = by_sum;
      by_divisors = by_divisors;
      worksheet-total = worksheet-total;
      count_sum = count_sum;
      rank_small = rank_small;
      count_small = count_small;
    }
