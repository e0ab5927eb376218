-- Where a ring's word ends (document 004, Lemma 22): the ring's words up to u cover just the words whose smallest rotation does not
-- exceed the power of u. For the strip that is the size of CS of the power; in the ring of one length, n letters for each word up to u.
use mathlib.Core.Path.{◌≡◌, sym, ◌∙◌, ap, subst}
use mathlib.Core.Bool.{Bool}
use mathlib.Core.List.{List, [], ◌∷◌, ◌++◌}
use mathlib.Core.Logic.{inl, inr}
use Prim.Native.Nat.{ℕ, ◌+◌, ◌*◌, ◌≤◌}
use native.Mathlib.Omega.{arith}
use native.Mathlib.Nat.{mul_comm}
use lib.ListN.{length}
use borrow.Author.Tests.{eqb-true, eq-eqb}
use Rattle.theory.specs.Words.{up_to, smallest, all_words, lyndons, keep, power_to}
use Rattle.theory.specs.Lists.{In, Ascending}
use Rattle.theory.specs.Rings.{Allowed, ring_words, before_w}
use Rattle.theory.specs.Strips.{divisor_of}
use Rattle.theory.specs.Shorts.{whole, short_words}
use Rattle.theory.specs.Theorems.{Ends, StripEnds, ShortEnds}
use Rattle.theory.proofs.Order.{Le, le_up_to, up_to_le, lt_le, le_cases, eq_le, not_lt, le_not_lt}
use Rattle.theory.proofs.Lists.{found, in_split, keep_in, in_keep, keep_once, ascend_once}
use Rattle.theory.proofs.Counts.{sum, sum-append, sum_ext, sum_const, keep_same, once_eq, joined_length}
use Rattle.theory.proofs.Listed.{lyndon_words, lyndon_ascend, ring_words_lem, ring_ascend}
use Rattle.theory.proofs.Ranks.{kept_up_to}
use Rattle.theory.proofs.Joined.{before_is}
use Rattle.theory.proofs.Rotations.{Fits, power_length, powers_lt, ring_fits, count_bases}
use Rattle.theory.proofs.Bases.{count_strip}
use Rattle.theory.proofs.Divisors.{divisors_allowed}
use Rattle.theory.proofs.Base.{same_test}

-- the letters up to the end of a word are those of the words up to it
pub end_is : (ws : List (List ℕ)) (u : List ℕ) → Ascending ws → In u ws → before_w u ws + length u ≡ sum length (keep (λ v. up_to v u) ws)
end_is ws u up i = elim (in_split i) [ found a b e ↦ subst (λ r. before_w u r + length u ≡ sum length (keep (λ v. up_to v u) r)) (sym e) (at a b (subst Ascending e up)) ]
  where
    at : (a b : List (List ℕ)) → Ascending (a ++ (u ∷ b)) → before_w u (a ++ (u ∷ b)) + length u ≡ sum length (keep (λ v. up_to v u) (a ++ (u ∷ b)))
    at a b s = omega (arith, before_is a u b s, joined_length a, ap (sum length) (kept_up_to a u b s), sum-append length a (u ∷ []))

-- words of a ring stand as their powers do
powers_up_to : {n : ℕ} {u v : List ℕ} → Fits n u → Fits n v → up_to v u ≡ up_to (power_to n v) (power_to n u)
powers_up_to {n} {u} {v} a b = same_test (up_to v u) (up_to (power_to n v) (power_to n u)) (λ t. le_up_to (up (up_to_le v u t))) (λ t. le_up_to (not_lt (λ l. le_not_lt (up_to_le (power_to n v) (power_to n u) t) (powers_lt a b l))))
  where
    up : Le v u → Le (power_to n v) (power_to n u)
    up l = elim (le_cases l) [ inl q ↦ lt_le (powers_lt b a q) | inr q ↦ eq_le (ap (power_to n) q) ]

-- the words of a ring up to a word u, by their powers
ring-up_to : (ok : ℕ → Bool) (k n : ℕ) (u : List ℕ) → 1 ≤ n → Allowed n ok → In u (ring_words ok k n)
    → before_w u (ring_words ok k n) + length u ≡ sum length (keep (λ v. up_to (power_to n v) (power_to n u)) (ring_words ok k n))
ring-up_to ok k n u s a i =
    end_is (ring_words ok k n) u (ring_ascend ok k n) i
    ∙ ap (sum length) (keep_same (λ v. up_to v u) (λ v. up_to (power_to n v) (power_to n u)) (ring_words ok k n) (λ v j. powers_up_to (ring_fits ok k n s a i) (ring_fits ok k n s a j)))

pub ends : (ok : ℕ → Bool) (k n : ℕ) → 1 ≤ n → Allowed n ok → Ends ok k n
ends ok k n s a = record { ring_end = λ u i. ring-up_to ok k n u s a i ∙ count_bases ok k n s a (λ x. up_to x (power_to n u)) }

pub strip_ends : StripEnds
strip_ends k n u s i =
    let a : Allowed n (divisor_of n) = divisors_allowed n s in
    ring-up_to (divisor_of n) k n u s a i ∙ count_strip (λ x. up_to x (power_to n u)) k n s
    ∙ ap (λ r. length (keep (λ x. up_to (smallest x) (power_to n u)) (all_words k r))) (sym (power_length (ring_fits (divisor_of n) k n s a i)))

pub short_ends : ShortEnds
short_ends k n u s i =
    end_is ws u (ring_ascend (whole n) k n) i
    ∙ sum_ext length (λ v. n) (keep (λ v. up_to v u) ws) (λ v j. long v (keep_in (λ v. up_to v u) ws j).0)
    ∙ sum_const n (keep (λ v. up_to v u) ws) ∙ mul_comm (length (keep (λ v. up_to v u) ws)) n
    ∙ ap (λ r. n * r) (counts ∙ ap (λ r. length (keep (λ v. up_to v u) (lyndons k r))) (sym (long u i)))
  where
    ws : List (List ℕ)
    ws = short_words k n

    long : (v : List ℕ) → In v ws → length v ≡ n
    long v j = eqb-true (length v) n ((ring_words_lem (whole n) k n v).0 j).3

    counts : length (keep (λ v. up_to v u) ws) ≡ length (keep (λ v. up_to v u) (lyndons k n))
    counts =
        once_eq (keep (λ v. up_to v u) ws) (keep (λ v. up_to v u) (lyndons k n))
        (keep_once (λ v. up_to v u) ws (ascend_once ws (ring_ascend (whole n) k n)))
        (keep_once (λ v. up_to v u) (lyndons k n) (ascend_once (lyndons k n) (lyndon_ascend k n)))
        (λ v j. let (x, t) = keep_in (λ v. up_to v u) ws j in let r = (ring_words_lem (whole n) k n v).0 x in in_keep (λ v. up_to v u) ((lyndon_words k n v).1 (long v x, r.1, r.2)) t)
        (λ v j. let (x, t) = keep_in (λ v. up_to v u) (lyndons k n) j in let (e, m, l) = (lyndon_words k n v).0 x in
        in_keep (λ v. up_to v u) ((ring_words_lem (whole n) k n v).1 (omega arith, m, l, eq-eqb (length v) n e)) t)
