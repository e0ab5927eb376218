-- The sizes of CS for all prefixes of one word, from one list (document 004, section 3): `up_bases k w`, the strip's words whose power of
-- length |w| does not exceed w. For a prenecklace w and d dividing |w|, CS of the first d letters has as many words as
-- those of the list whose length divides d have letters; and the rank of w is the number of those of length |w|.
use mathlib.Core.Path.{◌≡◌, refl, sym, ◌∙◌, ap, subst, subst₂}
use mathlib.Core.Bool.{Bool, true, ◌&&◌}
use mathlib.Core.List.{List}
use mathlib.Core.Logic.{inl, inr}
use Prim.Native.Nat.{ℕ, suc, ◌≤◌}
use native.Mathlib.Omega.{arith}
use lib.Dec.{eqb}
use lib.ListN.{length, take, drop, take-append-drop}
use lib.Seq.{length-take-le}
use borrow.Author.Tests.{eqb-true, eq-eqb}
use Rattle.theory.specs.Words.{when, up_to, smallest, repeated, root, is_lyndon, marks_ok, all_words, lyndons, keep, rank, power_to}
use Rattle.theory.specs.Lists.{In, Once}
use Rattle.theory.specs.Rings.{divides}
use Rattle.theory.specs.Strips.{divisor_of, strip_words}
use Rattle.theory.specs.Sums.{cs}
use Rattle.theory.specs.Prenecklaces.{Cut, Prenecklace}
use Rattle.theory.proofs.Base.{same_test}
use Rattle.theory.proofs.Order.{Le, Prefix, prefix, lt_le, le_cases, le_not_lt, not_lt, cut_lt, lt_cut, le_up_to, up_to_le, prefix_trans, cut_on}
use Rattle.theory.proofs.Lists.{keep_in, in_keep, keep_once, ascend_once}
use Rattle.theory.proofs.Counts.{sum, sum-when, once_sum, once_eq, keep_same}
use Rattle.theory.proofs.Listed.{all_words_lem, lyndon_words, lyndon_ascend, ring_ascend, strip_words_lem}
use Rattle.theory.proofs.Powers.{repeated-length, extends_power, extends_one, root-divides}
use Rattle.theory.proofs.Necklaces.{pre_power}
use Rattle.theory.proofs.Rotations.{Fits, fits, power_is, power_length, power_self, power_begins, count_bases}
use Rattle.theory.proofs.Divisors.{divides_some_lem, divides_le, divides_trans, divisors_allowed}

-- the strip's words whose powers pass a test
abbrev pub bases : (List ℕ → Bool) → ℕ → ℕ → List (List ℕ)
bases f k n = keep (λ u. f (power_to n u)) (strip_words k n)

bases_once : (f : List ℕ → Bool) (k n : ℕ) → Once (bases f k n)
bases_once f k n = keep_once (λ u. f (power_to n u)) (strip_words k n) (ascend_once (strip_words k n) (ring_ascend (divisor_of n) k n))

-- every word is a rotation of a power of a word of the strip
pub count_strip : (f : List ℕ → Bool) (k n : ℕ) → 1 ≤ n → sum length (bases f k n) ≡ length (keep (λ x. f (smallest x)) (all_words k n))
count_strip f k n s =
    count_bases (divisor_of n) k n s (divisors_allowed n s) f
    ∙ ap length (keep_same (λ x. divisor_of n (root x) && f (smallest x)) (λ x. f (smallest x)) (all_words k n) (λ x i. ap (λ b. b && f (smallest x)) (divisor x i)))
  where
    divisor : (x : List ℕ) → In x (all_words k n) → divides (root x) n ≡ true
    divisor x i = let e = ((all_words_lem k n x).0 i).0 in subst (λ m. divides (root x) m ≡ true) e (root-divides x (omega arith))

-- what the list holds
pub base_in : (f : List ℕ → Bool) (k n : ℕ) {u : List ℕ} → 1 ≤ n → In u (bases f k n)
    → (divides (length u) n ≡ true) × (marks_ok k u ≡ true) × (is_lyndon u ≡ true) × (f (power_to n u) ≡ true)
base_in f k n {u} s i =
    let r = keep_in (λ u. f (power_to n u)) (strip_words k n) i in
    let t = (strip_words_lem k n u s).0 r.0 in
    (t.0, t.1, t.2, r.1)

pub in_bases : (f : List ℕ → Bool) (k n : ℕ) {u : List ℕ} → 1 ≤ n → divides (length u) n ≡ true → marks_ok k u ≡ true → is_lyndon u ≡ true
    → f (power_to n u) ≡ true → In u (bases f k n)
in_bases f k n {u} s d m l t = in_keep (λ u. f (power_to n u)) ((strip_words_lem k n u s).1 (d, m, l)) t

module _ (f : List ℕ → Bool) (k n : ℕ) (some : 1 ≤ n) where
  -- those whose length divides d, where the test of the power of length n is a test of that of length d
  pub bases-front : (g : List ℕ → Bool) (d : ℕ) → divides d n ≡ true → ((u : List ℕ) → Fits d u → Fits n u → f (power_to n u) ≡ g (power_to d u))
      → sum (λ u. when (divides (length u) d) (length u)) (bases f k n) ≡ length (keep (λ x. g (smallest x)) (all_words k d))
  bases-front g d h agree =
      sum-when (λ u. divides (length u) d) length (bases f k n)
      ∙ once_sum length (keep (λ u. divides (length u) d) (bases f k n)) (bases g k d)
      (keep_once (λ u. divides (length u) d) (bases f k n) (bases_once f k n)) (bases_once g k d) shorter longer
      ∙ count_strip g k d one
    where
      one : 1 ≤ d
      one = divides_some_lem d n h

      tests : (u : List ℕ) → is_lyndon u ≡ true → divides (length u) d ≡ true → divides (length u) n ≡ true → f (power_to n u) ≡ g (power_to d u)
      tests u l p q = agree u (fits one l p) (fits some l q)

      shorter : (u : List ℕ) → In u (keep (λ u. divides (length u) d) (bases f k n)) → In u (bases g k d)
      shorter u i =
          let (j, p) = keep_in (λ u. divides (length u) d) (bases f k n) i in
          let (q, m, l, t) = base_in f k n some j in
          in_bases g k d one p m l (sym (tests u l p q) ∙ t)

      longer : (u : List ℕ) → In u (bases g k d) → In u (keep (λ u. divides (length u) d) (bases f k n))
      longer u i =
          let (p, m, l, t) = base_in g k d one i in
          let q : divides (length u) n ≡ true = divides_trans (length u) d n p h in
          in_keep (λ u. divides (length u) d) (in_bases f k n some q m l (tests u l p q ∙ t)) p

  -- those of length n
  pub bases-whole : length (keep (λ u. eqb (length u) n) (bases f k n)) ≡ length (keep f (lyndons k n))
  bases-whole =
      once_eq (keep (λ u. eqb (length u) n) (bases f k n)) (keep f (lyndons k n))
      (keep_once (λ u. eqb (length u) n) (bases f k n) (bases_once f k n)) (keep_once f (lyndons k n) (ascend_once (lyndons k n) (lyndon_ascend k n)))
      whole_lyndon lyndon_whole
    where
      whole_lyndon : (u : List ℕ) → In u (keep (λ u. eqb (length u) n) (bases f k n)) → In u (keep f (lyndons k n))
      whole_lyndon u i =
          let (j, e) = keep_in (λ u. eqb (length u) n) (bases f k n) i in
          let (q, m, l, t) = base_in f k n some j in
          let long : length u ≡ n = eqb-true (length u) n e in
          in_keep f ((lyndon_words k n u).1 (long, m, l)) (ap f (sym (power_self (fits some l q) long)) ∙ t)

      lyndon_whole : (u : List ℕ) → In u (keep f (lyndons k n)) → In u (keep (λ u. eqb (length u) n) (bases f k n))
      lyndon_whole u i =
          let (j, t) = keep_in f (lyndons k n) i in
          let (long, m, l) = (lyndon_words k n u).0 j in
          let q : divides (length u) n ≡ true = subst (λ r. divides r n ≡ true) (sym long) (divisors_allowed n some).whole in
          in_keep (λ u. eqb (length u) n) (in_bases f k n some q m l (ap f (power_self (fits some l q) long) ∙ t)) (eq-eqb (length u) n long)

-- a prefix of a necklace against powers: only the letter that decides, or where none does, that a necklace is not below the powers of
-- what begins it
module _ {d n : ℕ} {u : List ℕ} (a : Fits d u) (b : Fits n u) (le : d ≤ n) {x w : List ℕ} (p : Prefix x w) (short : length x ≡ d) (long : length w ≡ n) where
  powers_begin : Prefix (power_to d u) (power_to n u)
  powers_begin =
      subst₂ Prefix (sym (power_is a)) (sym (power_is b))
      (extends_one (suc (length (repeated (suc a.times) u))) (omega arith) a.lyndon.some (extends_power (suc a.times) u) (extends_power (suc b.times) u)
      (omega (arith, repeated-length (suc a.times) u, repeated-length (suc b.times) u, a.whole, b.whole)))

  pub longer_le : Prenecklace w → Le (power_to d u) x → Le (power_to n u) w
  longer_le pre l = elim (le_cases l) [
    | inl q ↦ lt_le (cut_lt (cut_on powers_begin p (lt_cut q (omega (arith, power_length a)))))
    | inr q ↦ not_lt (λ r. pre_power (suc b.times) pre (prefix_trans (power_begins a) (subst (λ y. Prefix y w) (sym q) p)) (subst (λ y. Cut w y) (power_is b) (lt_cut r (omega (arith, power_length b)))))
  ]

  pub shorter_le : Le (power_to n u) w → Le (power_to d u) x
  shorter_le l = not_lt (λ q. le_not_lt l (cut_lt (cut_on p powers_begin (lt_cut q (omega (arith, power_length a))))))

-- the strip's words whose power does not exceed w
abbrev pub up_bases : ℕ → List ℕ → List (List ℕ)
up_bases k w = bases (λ u. up_to u w) k (length w)

module _ (k : ℕ) (w : List ℕ) (some : 1 ≤ length w) where
  pub cs-bases : (d : ℕ) → Prenecklace w → divides d (length w) ≡ true
      → cs k (take d w) ≡ sum (λ u. when (divides (length u) d) (length u)) (up_bases k w)
  cs-bases d pre h =
      ap (λ r. length (keep (λ u. up_to (smallest u) (take d w)) (all_words k r))) short
      ∙ sym (bases-front (λ u. up_to u w) k (length w) some (λ u. up_to u (take d w)) d h tests)
    where
      le : d ≤ length w
      le = divides_le d (length w) some h

      short : length (take d w) ≡ d
      short = length-take-le d w le

      begins : Prefix (take d w) w
      begins = prefix (drop d w) (sym (take-append-drop d w))

      tests : (u : List ℕ) → Fits d u → Fits (length w) u → up_to (power_to (length w) u) w ≡ up_to (power_to d u) (take d w)
      tests u a b =
          same_test (up_to (power_to (length w) u) w) (up_to (power_to d u) (take d w))
          (λ t. le_up_to (shorter_le a b le begins short refl (up_to_le (power_to (length w) u) w t)))
          (λ t. le_up_to (longer_le a b le begins short refl pre (up_to_le (power_to d u) (take d w) t)))

  pub rank-bases : rank k w ≡ length (keep (λ u. eqb (length u) (length w)) (up_bases k w))
  rank-bases = sym (bases-whole (λ u. up_to u w) k (length w) some)
