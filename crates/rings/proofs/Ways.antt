-- The two ways along a ring, on and back: the laws of each, for any ring, and the words with which the strip and the short ring begin and end.
use mathlib.Core.Path.{◌≡◌, refl, sym, ◌∙◌, ap, ap₂, subst}
use mathlib.Core.Bool.{Bool, true, false}
use mathlib.Core.List.{List, [], ◌∷◌, ◌++◌}
use mathlib.Core.Logic.{◌⊎◌, inl, inr}
use Prim.Native.Nat.{ℕ, zero, suc, ◌-◌, ◌≤◌, ◌<◌}
use native.Mathlib.Omega.{arith}
use lib.ListN.{length, replicate}
use borrow.Author.Tests.{lt-ltb, le-ltb, eq-eqb}
use Rattle.theory.specs.Words.{pick, same, below, up_to}
use Rattle.theory.specs.Lists.{In}
use Rattle.theory.specs.Rings.{lyndons_up, Allowed, ring_words, cursor, next_on, previous_on}
use Rattle.theory.specs.Strips.{divisor_of}
use Rattle.theory.specs.Shorts.{whole}
use Rattle.shape.specs.declared.Lengths.{Lengths}
use Rattle.shape.specs.declared.Lengths.TheVariants.{Divisors, Whole}
use Rattle.shape.specs.Rings.{ok_of}
use Rattle.shape.proofs.Rings.{allowed_of}
use Rattle.rings.specs.Moves.{first_word, last_word}
use Rattle.theory.specs.Steps.{next_lyndon, previous_lyndon, word_before}
use Rattle.theory.proofs.Base.{upto, over, split, test, and_in}
use Rattle.theory.proofs.Order.{same_eq, same_ne, lt_below, below_lt, lt_le, le_refl, eq_le, le_cases, le_lt_trans, lt_le_trans, not_lt, not_below, le_not_below, le_up_to, up_to_le}
use Rattle.theory.proofs.Lyndon.{lyndon_some, lyndon_out, one_letter}
use Rattle.theory.proofs.Divisors.{divides-one}
use Rattle.theory.proofs.Listed.{lyndon_up_words, ring_words_lem, ring_ascend}
use Rattle.theory.proofs.Tops.{one_less}
use Rattle.theory.proofs.Shorts.{first_in, first_least, last_in, last_most}
use Rattle.theory.proofs.Steps.{steps, not_zero, zero_first}
use Rattle.theory.proofs.Passed.{not_top, ring_listed, passed_few, passed_few_back}
use Rattle.theory.proofs.Joined.{onward as after-larger, around as after_last, backward as before-smaller, from_end as before_first, word_after, word_before_lem}
use Rattle.rings.proofs.Directions.{Direction, Follows, nothing, nearest, onward, around, Laws}

-- written out where they stand, so that what they count is what a cursor's step counts
abbrev pub forth : (ℕ → Bool) → ℕ → ℕ → Direction
forth ok k n = record { past = λ x y. below x y; upto = λ x y. up_to x y; move = λ x. next_lyndon k n x; leads = λ u. next_on ok (cursor k n u 0) }

abbrev pub back : (ℕ → Bool) → ℕ → ℕ → Direction
back ok k n = record { past = λ x y. below y x; upto = λ x y. up_to y x; move = λ x. word_before k n x; leads = λ u. previous_on ok (cursor k n u 0) }

module _ (ok : ℕ → Bool) (k n : ℕ) (two : 2 ≤ k) (one : 1 ≤ n) (allowed : Allowed n ok) where
  abbrev L : List (List ℕ)
  L = lyndons_up k n

  abbrev R : List (List ℕ)
  R = ring_words ok k n

  of_ring : {y : List ℕ} → In y L → ok (length y) ≡ true → In y R
  of_ring {y} i o = let (short, letters, lyndon) = (lyndon_up_words k n y).0 i in (ring_words_lem ok k n y).1 (short, letters, lyndon, o)

  ring_ok : {y : List ℕ} → In y R → ok (length y) ≡ true
  ring_ok {y} i = let (_, _, _, o) = (ring_words_lem ok k n y).0 i in o

  -- on
  module _ (x : List ℕ) (i : In x L) where
    forth_follows : Follows (forth ok k n) k n x
    forth_follows = elim (test (same x ((k - 1) ∷ []))) [
      | inl t ↦ nothing (ap (next_lyndon k n) (same_eq x _ t) ∙ (steps k n two one).next_none) (λ z j. last (same_eq x _ t) j (test (below x z)))
      | inr t ↦ nearest ((steps k n two one).next_in x i (same_ne t)) ((steps k n two one).next_larger x i (same_ne t)) (λ z j p. (steps k n two one).next_least x z i j p)
    ]
      where
        last : x ≡ (k - 1) ∷ [] → {z : List ℕ} → In z L → (below x z ≡ true) ⊎ (below x z ≡ false) → below x z ≡ false
        last e {z} j (inl b) = absurd (not_top k n two j (below_lt x z b) e)
        last e j (inr b) = b

    back_follows : Follows (back ok k n) k n x
    back_follows = elim (test (same x (0 ∷ []))) [
      | inl t ↦ nothing (rw t refl) (λ z j. first (same_eq x _ t) j (test (below z x)))
      | inr t ↦
          let e : previous_lyndon k n x ≡ word_before k n x = sym (ap (λ b. pick b [] (previous_lyndon k n x)) t) in
          let s = steps k n two one in
          nearest (subst (λ v. In v L) e (s.previous_in x i (same_ne t))) (subst (λ v. below v x ≡ true) e (s.previous_smaller x i (same_ne t)))
          (λ z j p. subst (λ v. up_to z v ≡ true) e (s.previous_most z x j i p))
    ]
      where
        first : x ≡ 0 ∷ [] → {z : List ℕ} → In z L → (below z x ≡ true) ⊎ (below z x ≡ false) → below z x ≡ false
        first e {z} j (inl b) = absurd (not_zero (lyndon_some z ((lyndon_up_words k n z).0 j).2) (below_lt z x b) e)
        first e j (inr b) = b

  pub forth_laws : Laws (forth ok k n) ok k n
  forth_laws = record {
    trans = λ {x} {y} {z} p q. lt_below (le_lt_trans (up_to_le x y p) (below_lt y z q));
    irrefl = λ {x}. le_not_below (le_refl x);
    self = λ {x}. le_up_to (le_refl x);
    soft = λ {x} {y} p. le_up_to (lt_le (below_lt x y p));
    cases = λ {x} {y} p. elim (le_cases (up_to_le x y p)) [ inl l ↦ inl (lt_below l) | inr e ↦ inr e ];
    total = λ {x} {y} p. le_up_to (not_below {u = x} {v = y} p);
    listed = ring_listed ok k n;
    of_ring = of_ring;
    ring_ok = ring_ok;
    follows = forth_follows;
    lead_in = λ u i. elim (word_after R (ring_ascend ok k n) u i) [ after-larger j l f e ↦ j | after_last j f z e ↦ j ];
    neighbour = λ u i. elim (word_after R (ring_ascend ok k n) u i) [
      | after-larger j l f e ↦ onward (lt_below l) (λ y m p. le_up_to (f y m (below_lt u y p)))
      | after_last j f z e ↦ around (λ y m. le_not_below (f y m).1) (λ y m. le_up_to (f y m).0)
    ];
    few = λ u y i j p f. passed_few ok k n two one allowed u y i j p f;
  }

  pub back_laws : Laws (back ok k n) ok k n
  back_laws = record {
    trans = λ {x} {y} {z} p q. lt_below (lt_le_trans (below_lt z y q) (up_to_le y x p));
    irrefl = λ {x}. le_not_below (le_refl x);
    self = λ {x}. le_up_to (le_refl x);
    soft = λ {x} {y} p. le_up_to (lt_le (below_lt y x p));
    cases = λ {x} {y} p. elim (le_cases (up_to_le y x p)) [ inl l ↦ inl (lt_below l) | inr e ↦ inr (sym e) ];
    total = λ {x} {y} p. le_up_to (not_below {u = y} {v = x} p);
    listed = ring_listed ok k n;
    of_ring = of_ring;
    ring_ok = ring_ok;
    follows = back_follows;
    lead_in = λ u i. elim (word_before_lem R (ring_ascend ok k n) u i) [ before-smaller j l f e ↦ j | before_first j f z e ↦ j ];
    neighbour = λ u i. elim (word_before_lem R (ring_ascend ok k n) u i) [
      | before-smaller j l f e ↦ onward (lt_below l) (λ y m p. le_up_to (f y m (below_lt y u p)))
      | before_first j f z e ↦ around (λ y m. le_not_below (f y m).0) (λ y m. le_up_to (f y m).1)
    ];
    few = λ u y i j p f. passed_few_back ok k n two one allowed u y i j p f;
  }

-- the first word of a ring in a direction
pub record First (d : Direction) (ok : ℕ → Bool) (k n : ℕ) (f : List ℕ) : Type 0 where
  pub on_ring : In f (ring_words ok k n)
  pub before : (y : List ℕ) → In y (ring_words ok k n) → d.upto f y ≡ true

-- on a ring with words of one letter these are 0 and k−1
module _ (ok : ℕ → Bool) (k n : ℕ) (two : 2 ≤ k) (one : 1 ≤ n) (letters : ok 1 ≡ true) where
  letter_in : (a : ℕ) → a < k → In (a ∷ []) (ring_words ok k n)
  letter_in a h = (ring_words_lem ok k n (a ∷ [])).1 (one, and_in (lt-ltb a k h) refl, lyndon_out (one_letter a), letters)

  letter_first : First (forth ok k n) ok k n (0 ∷ [])
  letter_first = record { on_ring = letter_in 0 (omega arith); before = λ y i. least i (test (same y (0 ∷ []))) }
    where
      least : {y : List ℕ} → In y (ring_words ok k n) → (same y (0 ∷ []) ≡ true) ⊎ (same y (0 ∷ []) ≡ false) → up_to (0 ∷ []) y ≡ true
      least {y} i (inl t) = le_up_to (eq_le (sym (same_eq y (0 ∷ []) t)))
      least {y} i (inr t) = le_up_to (lt_le (zero_first y (lyndon_some y ((ring_words_lem ok k n y).0 i).2) (same_ne t)))

  letter_last : First (back ok k n) ok k n ((k - 1) ∷ [])
  letter_last = record { on_ring = letter_in (k - 1) (omega arith); before = λ y i. le_up_to (not_lt (λ l. not_top k n two (ring_listed ok k n i) l refl)) }

-- on the short ring, if its words have more than one letter, 0 .. 0 1 and k−2 k−1 .. k−1
whole_first : (k n : ℕ) → 2 ≤ k → 2 ≤ n → First (forth (whole n) k n) (whole n) k n (replicate (n - 1) 0 ++ (1 ∷ []))
whole_first k zero h g = absurd (omega arith)
whole_first k (suc zero) h g = absurd (omega arith)
whole_first k (suc (suc m)) h g =
    subst (λ i. First (forth (whole (suc (suc m))) k (suc (suc m))) (whole (suc (suc m))) k (suc (suc m)) (replicate i 0 ++ (1 ∷ []))) (sym (one_less (suc m)))
    (record { on_ring = first_in k m h; before = λ y i. le_up_to (first_least k m i) })

whole_last : (k n : ℕ) → 2 ≤ k → 2 ≤ n → First (back (whole n) k n) (whole n) k n ((k - 2) ∷ replicate (n - 1) (k - 1))
whole_last zero n h g = absurd (omega arith)
whole_last (suc z) zero h g = absurd (omega arith)
whole_last (suc z) (suc zero) h g = absurd (omega arith)
whole_last (suc z) (suc (suc m)) h g =
    let second : z - 1 ≡ suc z - 2 = omega arith in
    let word : (z - 1) ∷ replicate (suc m) z ≡ (suc z - 2) ∷ replicate (suc (suc m) - 1) (suc z - 1) = ap₂ ◌∷◌ second (ap₂ replicate (sym (one_less (suc m))) (sym (one_less z))) in
    subst (First (back (whole (suc (suc m))) (suc z) (suc (suc m))) (whole (suc (suc m))) (suc z) (suc (suc m))) word
    (record { on_ring = last_in z m (omega arith); before = λ y i. le_up_to (last_most z m (omega arith) i) })

module _ (r : Lengths) (k n : ℕ) (two : 2 ≤ k) (one : 1 ≤ n) where
  pub forth_of : Laws (forth (ok_of r n) k n) (ok_of r n) k n
  forth_of = forth_laws (ok_of r n) k n two one (allowed_of r n one)

  pub back_of_lem : Laws (back (ok_of r n) k n) (ok_of r n) k n
  back_of_lem = back_laws (ok_of r n) k n two one (allowed_of r n one)

  pub first_of_lem : First (forth (ok_of r n) k n) (ok_of r n) k n (first_word r n)
  first_of_lem = go r
    where
      go : (r : Lengths) → First (forth (ok_of r n) k n) (ok_of r n) k n (first_word r n)
      go Divisors = letter_first (divisor_of n) k n two one (divides-one n)
      go Whole = elim (split 2 n) [
        | upto l ↦ rw (lt-ltb 1 n l) (whole_first k n two l)
        | over l ↦ rw (le-ltb 1 n (omega arith)) (letter_first (whole n) k n two one (eq-eqb 1 n (omega arith)))
      ]

  pub last_of_lem : First (back (ok_of r n) k n) (ok_of r n) k n (last_word r k n)
  last_of_lem = go r
    where
      go : (r : Lengths) → First (back (ok_of r n) k n) (ok_of r n) k n (last_word r k n)
      go Divisors = letter_last (divisor_of n) k n two one (divides-one n)
      go Whole = elim (split 2 n) [
        | upto l ↦ rw (lt-ltb 1 n l) (whole_last k n two l)
        | over l ↦ rw (le-ltb 1 n (omega arith)) (letter_last (whole n) k n two one (eq-eqb 1 n (omega arith)))
      ]
