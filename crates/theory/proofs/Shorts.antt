-- The short ring: n places for each Lyndon word of length n, each window at one place, the word that holds a place, the first word and the last.
use mathlib.Core.Path.{◌≡◌, refl, sym, ◌∙◌, ap, subst}
use mathlib.Core.Bool.{true}
use mathlib.Core.List.{List, [], ◌∷◌, ◌++◌}
use mathlib.Core.Logic.{◌↔◌, ◌≢◌}
use Prim.Native.Nat.{ℕ, zero, suc, ◌+◌, ◌-◌, ◌*◌, ◌/◌, ◌%◌, ◌^◌, ◌≤◌, ◌<◌}
use native.Mathlib.Omega.{arith}
use native.Mathlib.Nat.{mul_comm, le-mul_of_pos_right, div-add-mod', mod-lt, lt_of_mul-lt-mul_left}
use native.Mathlib.Numerals.{add-one}
use lib.ListN.{length, replicate, length-append, length-replicate, replicate-append-replicate}
use borrow.Author.Tests.{eqb-true, eq-eqb}
use Rattle.theory.specs.Words.{root, marks_ok, is_lyndon, all_words, lyndons, how_many, rank, word_of}
use Rattle.theory.specs.Lists.{In}
use Rattle.theory.specs.Rings.{Allowed, before_w, cursor, at_from, window_on, place_on, letters_on, find_on}
use Rattle.theory.specs.Shorts.{whole, short_words, short_ring, short_size, short_window, short_place_of, short_cursor_at}
use Rattle.theory.specs.Theorems.{Ring, Cursors, ShortRing}
use Rattle.theory.specs.Prenecklaces.{Prenecklace}
use Rattle.theory.proofs.Order.{Lt, Le, empty, sooner, further, lt_irrefl}
use Rattle.theory.proofs.Letters.{marks-append, marks-replicate, marks_cons}
use Rattle.theory.proofs.Lyndon.{lyndon_turned, lyndon_in, lyndon_out, necklace_pre, raise_last}
use Rattle.theory.proofs.Tops.{is_z, not_above, last_or, last_lyndon}
use Rattle.theory.proofs.Floors.{zeros_necklace}
use Rattle.theory.proofs.Lists.{in_some, ascend_once}
use Rattle.theory.proofs.Counts.{sum_ext, sum_const, once_eq, joined_length, keep-length}
use Rattle.theory.proofs.Divisors.{Div, divides_in, div_refl}
use Rattle.theory.proofs.Listed.{all_count, lyndon_words, lyndon_ascend, ring_words_lem, ring_ascend}
use Rattle.theory.proofs.Rings.{rings}
use Rattle.theory.proofs.Ranks.{of_index, index_word}
use Rattle.theory.proofs.Joined.{word_at}
use Rattle.theory.proofs.Seams.{Setting, largest, largest_in}
use Rattle.theory.proofs.Strips.{cursors_of}
use Rattle.theory.proofs.Ends.{short_ends}

pub whole_allowed : (n : ℕ) → 1 ≤ n → Allowed n (whole n)
whole_allowed n s = record {
  whole = eq-eqb n n refl;
  divisor = λ d t. let e = eqb-true d n t in divides_in (omega arith) (subst (λ x. Div x n) (sym e) (div_refl n));
}

-- its words are the Lyndon words of length n
pub short_words_lem : (k n : ℕ) (w : List ℕ) → In w (short_words k n) ↔ ((length w ≡ n) × (marks_ok k w ≡ true) × (is_lyndon w ≡ true))
short_words_lem k n w = (
  λ i. let (_, m, l, o) = (ring_words_lem (whole n) k n w).0 i in (eqb-true (length w) n o, m, l),
  λ (e, m, l). (ring_words_lem (whole n) k n w).1 (omega arith, m, l, eq-eqb (length w) n e),
)

short_count : (k n : ℕ) → length (short_words k n) ≡ how_many k n
short_count k n =
    once_eq (short_words k n) (lyndons k n) (ascend_once (short_words k n) (ring_ascend (whole n) k n)) (ascend_once (lyndons k n) (lyndon_ascend k n))
    (λ w i. (lyndon_words k n w).1 ((short_words_lem k n w).0 i)) (λ w i. (short_words_lem k n w).1 ((lyndon_words k n w).0 i))

pub short_long : (k n : ℕ) → length (short_ring k n) ≡ short_size k n
short_long k n =
    joined_length (short_words k n) ∙ sum_ext length (λ w. n) (short_words k n) (λ w i. ((short_words_lem k n w).0 i).0)
    ∙ sum_const n (short_words k n) ∙ mul_comm (length (short_words k n)) n ∙ ap (λ m. n * m) (short_count k n)

pub short_cursors : Cursors whole short_size
short_cursors = cursors_of whole short_size whole_allowed (λ k n _ _. short_long k n)

-- one of them is the ring's largest, so there are n places at least
some_word : (k n : ℕ) → 2 ≤ k → 1 ≤ n → 1 ≤ how_many k n
some_word zero n h s = absurd (omega arith)
some_word (suc z) n h s =
    let R : Setting = record { z = z; n = n; ok = whole n; letters = omega arith; some = s; allowed = whole_allowed n s } in
    omega (arith, in_some ((lyndon_words (suc z) n (largest R)).1 ((short_words_lem (suc z) n (largest R)).0 (largest_in R))))

module _ (k n : ℕ) (two : 2 ≤ k) (one : 1 ≤ n) where
  pub of_ring : Ring (whole n) k n
  of_ring = rings (whole n) k n two one (whole_allowed n one)

  pub short_most : short_size k n ≤ k ^ n
  short_most = omega (arith, sym (short_long k n) ∙ of_ring.long, keep-length (λ w. whole n (root w)) (all_words k n), all_count k n)

  short_least : n ≤ short_size k n
  short_least = le-mul_of_pos_right n (some_word k n two one)

  pub place_is : (w : List ℕ) → place_on (whole n) k n w ≡ short_place_of k n w
  place_is w = ap (λ x. find_on x 0 x (short_ring k n) n w) (short_long k n)

  window_is : (p : ℕ) → window_on (whole n) k n p ≡ short_window k n p
  window_is p = ap (λ x. letters_on x (short_ring k n) p n) (short_long k n)

  short_found : (w : List ℕ) → length w ≡ n → marks_ok k w ≡ true → root w ≡ n → (short_place_of k n w < short_size k n) × (short_window k n (short_place_of k n w) ≡ w)
  short_found w e m r =
      let (inside, reads) = of_ring.found w e m (eq-eqb (root w) n r) in (
        omega (arith, inside, place_is w, short_long k n),
        sym (window_is (short_place_of k n w)) ∙ ap (window_on (whole n) k n) (sym (place_is w)) ∙ reads,
      )

  short_only : (p : ℕ) (w : List ℕ) → p < short_size k n → short_window k n p ≡ w → (short_place_of k n w ≡ p) × (root w ≡ n)
  short_only p w l e =
      let b : p < length (short_ring k n) = omega (arith, short_long k n) in
      let read : window_on (whole n) k n p ≡ w = window_is p ∙ e in
      (sym (place_is w) ∙ of_ring.only p w b read, eqb-true (root w) n (subst (λ x. whole n (root x) ≡ true) read (of_ring.window_fits p b).2))

  -- the front of a word, by its rank
  pub front : (u : List ℕ) → In u (short_words k n) → before_w u (short_words k n) + n ≡ n * rank k u
  front u i = omega (arith, short_ends k n u one i, ((short_words_lem k n u).0 i).0)

  -- a place lies in a word
  parts : (p : ℕ) → n * (p / n) + p % n ≡ p
  parts p = omega (arith, div-add-mod' p n, mul_comm (p / n) n)

  pub index_few : (p : ℕ) → p < short_size k n → suc (p / n) ≤ how_many k n
  index_few p l = lt_of_mul-lt-mul_left n (omega (arith, parts p))

  short_at : (p : ℕ) → p < short_size k n → short_cursor_at k n p ≡ cursor k n (word_of k n (suc (p / n))) (p % n)
  short_at p l =
      let i = suc (p / n) in
      let u = word_of k n i in
      let few = index_few p l in
      let fits = index_word k n i (omega arith) few in
      let inside : In u (short_words k n) = (short_words_lem k n u).1 fits in
      let at : before_w u (short_words k n) + p % n ≡ p = omega (arith, front u inside, ap (λ r. n * r) (of_index k n i (omega arith) few), parts p) in
      ap (at_from k n (short_words k n)) (sym at) ∙ word_at (short_words k n) (ring_ascend (whole n) k n) k n u (p % n) inside (omega (arith, fits.0, mod-lt p one))

  pub short_ring_lem : ShortRing k n
  short_ring_lem = record { long = short_long k n; least = short_least; most = short_most; found = short_found; only = short_only; at_place = short_at }

-- its first word, if words have more than one letter: 0 .. 0 1, the least word of n letters but 0 .. 0
above_zeros : (m : ℕ) (y : List ℕ) → length y ≡ suc m → y ≢ replicate (suc m) 0 → Le (replicate m 0 ++ (1 ∷ [])) y
above_zeros m [] e d = absurd (omega arith)
above_zeros zero (zero ∷ []) e d = absurd (d refl)
above_zeros zero (zero ∷ (b ∷ y)) e d = absurd (omega arith)
above_zeros zero (suc zero ∷ y) e d = further empty
above_zeros zero (suc (suc a) ∷ y) e d = let l : 1 < suc (suc a) = omega arith in sooner l
above_zeros (suc m) (zero ∷ y) e d = further (above_zeros m y (omega arith) (λ q. d (ap (λ r. 0 ∷ r) q)))
above_zeros (suc m) (suc a ∷ y) e d = let l : 0 < suc a = omega arith in sooner l

zeros_last : (m : ℕ) → ◌++◌ {A = ℕ} (replicate m 0) (0 ∷ []) ≡ replicate (suc m) 0
zeros_last m = replicate-append-replicate m 1 0 ∙ ap (λ r. replicate r 0) (add-one m)

not_zeros : (m : ℕ) → is_lyndon (replicate (suc (suc m)) 0) ≡ true → ⊥
not_zeros m l = lt_irrefl (subst (λ y. Lt (replicate (suc (suc m)) 0) y) (zeros_last (suc m)) (lyndon_turned (0 ∷ []) (replicate (suc m) 0) l (omega arith) (omega arith)))

pub first_in : (k m : ℕ) → 2 ≤ k → In (replicate (suc m) 0 ++ (1 ∷ [])) (short_words k (suc (suc m)))
first_in k m h = (short_words_lem k (suc (suc m)) _).1 (
  omega (arith, length-append {A = ℕ} (replicate (suc m) 0) (1 ∷ []), length-replicate {A = ℕ} (suc m) 0),
  marks-append k (replicate (suc m) 0) (1 ∷ []) (marks-replicate k (suc m) 0 (omega arith)) (marks_cons k 1 [] (omega arith) refl),
  lyndon_out (raise_last (replicate (suc m) 0) 0 1 (subst Prenecklace (sym (zeros_last (suc m))) (necklace_pre (zeros_necklace (suc (suc m))))) (omega arith)),
)

pub first_least : (k m : ℕ) {y : List ℕ} → In y (short_words k (suc (suc m))) → Le (replicate (suc m) 0 ++ (1 ∷ [])) y
first_least k m {y} i = let (long, _, lyndon) = (short_words_lem k (suc (suc m)) y).0 i in above_zeros (suc m) y long (λ e. not_zeros m (subst (λ x. is_lyndon x ≡ true) e lyndon))

-- its last: k−2 k−1 .. k−1
module _ (z m : ℕ) (some : 0 < z) where
  abbrev last_word_lem : List ℕ
  last_word_lem = (z - 1) ∷ replicate (suc m) z

  pub last_in : In last_word_lem (short_words (suc z) (suc (suc m)))
  last_in = (short_words_lem (suc z) (suc (suc m)) last_word_lem).1 (
    omega (arith, length-replicate (suc m) z),
    marks_cons (suc z) (z - 1) (replicate (suc m) z) (omega arith) (marks-replicate (suc z) (suc m) z (omega arith)),
    lyndon_out (last_lyndon z (suc m) some),
  )

  pub last_most : {y : List ℕ} → In y (short_words (suc z) (suc (suc m))) → Le y last_word_lem
  last_most {y} i =
      let (long, letters, lyndon) = (short_words_lem (suc z) (suc (suc m)) y).0 i in
      elim (last_or z (suc m) y some (lyndon_in y lyndon) letters (omega arith)) [ is_z e ↦ absurd (omega (arith, ap length e)) | not_above l ↦ l ]
