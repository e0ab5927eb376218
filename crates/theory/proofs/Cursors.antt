-- Cursors on a ring: one for each position; a step reads the ring's letter and goes on to the next position, a step back to the one before.
use mathlib.Core.Path.{◌≡◌, refl, sym, ◌∙◌, ap, ap₂, subst}
use mathlib.Core.Bool.{Bool, true, false, false≢true}
use mathlib.Core.List.{List, [], ◌∷◌}
use mathlib.Core.Logic.{inl, inr}
use Prim.Native.Nat.{ℕ, zero, suc, ◌+◌, ◌-◌, ◌≤◌, ◌<◌}
use native.Mathlib.Omega.{arith}
use native.Mathlib.Nat.{add-zero}
use lib.Dec.{ltb, leb}
use lib.ListN.{length, get_or}
use borrow.Author.Tests.{ltb-true, ltb-false, leb-true, lt-ltb}
use Rattle.theory.specs.Words.{pick, is_lyndon, marks_ok}
use Rattle.theory.specs.Lists.{In}
use Rattle.theory.specs.Rings.{lyndons_up, Allowed, ring_words, ring, modulo, letter_on, letters_on, Cursor, cursor, Stepped, good_on, before_w, position_on, at_from, first_after, last_before, passed_by, passed_to, passed_back, passed_down, step_on, back_on, read_on, beside}
use Rattle.theory.specs.Theorems.{Leads, CursorsOn}
use Rattle.theory.proofs.Base.{test, and_l, and_r, and_in}
use Rattle.theory.proofs.Order.{below_lt, le_refl, le_up_to, le_not_below}
use Rattle.theory.proofs.Listed.{ring_words_lem, ring_ascend}
use Rattle.theory.proofs.Reading.{modulo_small, modulo_full, letters-modulo, beside-down, beside_round}
use Rattle.theory.proofs.Passed.{ring_listed, passed_few, passed_few_back}
use Rattle.theory.proofs.Joined.{holds, After, onward, around, Before, backward, from_end, word_inside, word_letter, word_at, position_held, word_after, word_before_lem}
use Rattle.theory.proofs.Divisors.{divides_le}

-- where a move x of the cursor (k, n, w, q) leads: to a letter of a word of the ring, which is at position `to`; and it passes at most n words
pub data Led (ok : ℕ → Bool) (k n : ℕ) (w : List ℕ) (q : ℕ) (x : Stepped) (passes : List ℕ → ℕ) (to : ℕ) : Type 0 where
  led : (v : List ℕ) (r : ℕ) → x.mark ≡ get_or w q 0 → x.passed ≡ passes v → passes v ≤ n → x.cursor_is ≡ cursor k n v r
      → In v (ring_words ok k n) → r < length v → before_w v (ring_words ok k n) + r ≡ to → Led ok k n w q x passes to

pick_le : (b : Bool) (a n : ℕ) → (b ≡ true → a ≤ n) → pick b a 0 ≤ n
pick_le true a n h = h refl
pick_le false a n h = omega arith

module _ (ok : ℕ → Bool) (k n : ℕ) (two : 2 ≤ k) (one : 1 ≤ n) (allowed : Allowed n ok) where
  good_in_lem : (w : List ℕ) (q : ℕ) → good_on ok (cursor k n w q) ≡ true → In w (ring_words ok k n) × (q < length w)
  good_in_lem w q h =
      let a = and_l (ok (length w)) _ h in
      let b = and_r (ok (length w)) _ h in
      let c = and_r (marks_ok k w) _ b in
      ((ring_words_lem ok k n w).1 (divides_le (length w) n one (allowed.divisor _ a), and_l (marks_ok k w) _ b, and_l (is_lyndon w) _ c, a), ltb-true _ _ (and_r (is_lyndon w) _ c))

  in_good : (w : List ℕ) (q : ℕ) → In w (ring_words ok k n) → q < length w → good_on ok (cursor k n w q) ≡ true
  in_good w q i h = let (_, m, l, o) = (ring_words_lem ok k n w).0 i in and_in o (and_in m (and_in l (lt-ltb _ _ h)))

  in_some : (w : List ℕ) → In w (ring_words ok k n) → 0 < length w
  in_some w i = let (_, _, l, _) = (ring_words_lem ok k n w).0 i in leb-true _ _ (and_l (leb 1 (length w)) _ l)

  -- a word w of the ring and a letter of it
  module _ (w : List ℕ) (q : ℕ) (i : In w (ring_words ok k n)) (h : q < length w) where
    abbrev ws : List (List ℕ)
    ws = ring_words ok k n

    abbrev total : ℕ
    total = length (ring ok k n)

    abbrev here_is : ℕ
    here_is = before_w w ws + q

    inside : {v : List ℕ} {r : ℕ} → In v ws → r < length v → before_w v ws + r < total
    inside {v} {r} j b = word_inside ws (ring_ascend ok k n) v r j b

    -- on: the next letter, or the first of the next word
    abbrev LedOn : Type 0
    LedOn = Led ok k n w q (step_on ok (cursor k n w q)) (passed_to k n w) (modulo (suc here_is) total)

    step_led : LedOn
    step_led = elim (test (ltb (suc q) (length w))) [ inl t ↦ inner t | inr t ↦ outer t (word_after ws (ring_ascend ok k n) w i) ]
      where
        -- a position of the ring is its own remainder
        small : {v : List ℕ} {r : ℕ} → In v ws → r < length v → before_w v ws + r ≡ suc here_is → before_w v ws + r ≡ modulo (suc here_is) total
        small j b e = sym (modulo_small _ _ (inside j b)) ∙ ap (λ x. modulo x total) e

        inner : ltb (suc q) (length w) ≡ true → LedOn
        inner t =
            let b = ltb-true (suc q) (length w) t in
            let none : passed_to k n w w ≡ 0 = ap (λ x. pick x (passed_by w w (lyndons_up k n)) 0) (le_not_below (le_refl w)) in
            led w (suc q) (rw t) (rw t (sym none)) (omega (arith, none)) (rw t) i b (small i b (omega arith))

        outer : ltb (suc q) (length w) ≡ false → After w ws (before_w w ws) (first_after w ws ws) → LedOn
        outer t (onward j l least e) =
            let b = in_some _ j in
            let full : suc q ≡ length w = omega (arith, ltb-false (suc q) (length w) t) in
            let few : passed_to k n w (first_after w ws ws) ≤ n = pick_le _ _ n (λ g. passed_few ok k n two one allowed w _ (ring_listed ok k n i) (ring_listed ok k n j) g (λ y x z. le_up_to (least y x (below_lt w y z)))) in
            led (first_after w ws ws) 0 (rw t) (rw t) few (rw t) j b (small j b (omega arith))
        outer t (around j each z e) =
            let full : suc q ≡ length w = omega (arith, ltb-false (suc q) (length w) t) in
            let end : suc here_is ≡ total = omega arith in
            led (first_after w ws ws) 0 (rw t) (rw t) (pick_le _ _ n (λ g. absurd (false≢true (sym (le_not_below (each w i).0) ∙ g)))) (rw t) j (in_some _ j)
            (add-zero _ ∙ z ∙ sym (modulo_full total) ∙ ap (λ x. modulo x total) (sym end))

    -- back: the letter before, or the last of the word before
    abbrev LedBack : Type 0
    LedBack = Led ok k n w q (back_on ok (cursor k n w q)) (passed_down k n w) (beside total false here_is)

    abbrev v : List ℕ
    v = last_before w ws (get_or ws (length ws - 1) [])

    back_led : LedBack
    back_led = elim (test (ltb 0 q)) [ inl t ↦ inner t | inr t ↦ outer t (word_before_lem ws (ring_ascend ok k n) w i) ]
      where
        inner : ltb 0 q ≡ true → LedBack
        inner t =
            let some = ltb-true 0 q t in
            let none : passed_down k n w w ≡ 0 = ap (λ x. pick x (passed_back w w (lyndons_up k n)) 0) (le_not_below (le_refl w)) in
            led w (q - 1) (rw t) (rw t (sym none)) (omega (arith, none)) (rw t) i (omega arith)
            (sym (beside-down here_is total (omega arith) (inside i h) ∙ omega arith))

        outer : ltb 0 q ≡ false → Before w ws (before_w w ws) v → LedBack
        outer t (backward j l most e) =
            let b = in_some v j in
            let zero_q : q ≡ 0 = omega (arith, ltb-false 0 q t) in
            let few : passed_down k n w v ≤ n = pick_le _ _ n (λ g. passed_few_back ok k n two one allowed w v (ring_listed ok k n i) (ring_listed ok k n j) g (λ y x z. le_up_to (most y x (below_lt y w z)))) in
            led v (length v - 1) (rw t) (rw t) few (rw t) j (omega arith)
            (sym (beside-down here_is total (omega arith) (inside i h) ∙ omega arith))
        outer t (from_end j each z e) =
            let b = in_some v j in
            let zero_q : q ≡ 0 = omega (arith, ltb-false 0 q t) in
            let first : here_is ≡ 0 = omega arith in
            let some : 0 < total = omega (arith, inside i h) in
            led v (length v - 1) (rw t) (rw t) (pick_le _ _ n (λ g. absurd (false≢true (sym (le_not_below (each v j).0) ∙ g)))) (rw t) j (omega arith)
            (sym (ap (beside total false) first ∙ beside_round total some ∙ omega arith))

  -- a fact about the ring's cursors, from those that are written out
  own : (P : Cursor → Type 0) → ((w : List ℕ) (q : ℕ) → P (cursor k n w q)) → (c : Cursor) → c.k ≡ k → c.n ≡ n → P c
  own P f c e g = subst P (sym (ap₂ (λ x y. cursor x y c.word c.place) e g)) (f c.word c.place)

  -- it holds a word of the list
  pub good_listed : (c : Cursor) → c.k ≡ k → c.n ≡ n → good_on ok c ≡ true → In c.word (lyndons_up k n)
  good_listed = own _ (λ w q g. ring_listed ok k n (good_in_lem w q g).0)

  letter_read : (w : List ℕ) (q : ℕ) → In w (ring_words ok k n) → q < length w
      → get_or w q 0 ≡ letter_on (length (ring ok k n)) (ring ok k n) (before_w w (ring_words ok k n) + q)
  letter_read w q i b =
      let up = ring_ascend ok k n in
      sym (ap (λ j. get_or (ring ok k n) j 0) (modulo_small _ _ (word_inside _ up w q i b)) ∙ word_letter _ up w q i b)

  -- so much a move tells
  told : {w : List ℕ} {q : ℕ} {x : Stepped} {passes : List ℕ → ℕ} {to : ℕ} → In w (ring_words ok k n) → q < length w → Led ok k n w q x passes to
      → let s = ring ok k n in Leads (good_on ok) (position_on ok) x (letter_on (length s) s (before_w w (ring_words ok k n) + q)) to passes n
  told {w} {q} {x} {passes} i b (led v r m a o f j d e) =
      (m ∙ letter_read w q i b, ap (good_on ok) f ∙ in_good v r j d, ap (position_on ok) f ∙ e, a ∙ ap (λ y. passes y.word) (sym f), omega (arith, a, o))

  letters-read : (c : ℕ) (w : List ℕ) (q : ℕ) → In w (ring_words ok k n) → q < length w
      → read_on ok (cursor k n w q) c ≡ letters_on (length (ring ok k n)) (ring ok k n) (before_w w (ring_words ok k n) + q) c
  letters-read zero w q i b = refl
  letters-read (suc c) w q i b = elim (step_led w q i b) [
    | led v r m a o f j d e ↦
        let s = ring ok k n in
        ap₂ (λ a x. a ∷ x) (m ∙ letter_read w q i b)
        (ap (λ x. read_on ok x c) f ∙ letters-read c v r j d ∙ ap (λ x. letters_on (length s) s x c) e ∙ letters-modulo (length s) s _ c)
  ]

  pub ring_cursors : CursorsOn ok k n
  ring_cursors =
      let ws = ring_words ok k n in
      let s = ring ok k n in
      let up = ring_ascend ok k n in
      record {
        there = λ p h. elim (position_held ws up k n p h) [ holds w q i b e f ↦ rw f (in_good w q i b, e) ];
        within = own _ (λ w q g. let (i, b) = good_in_lem w q g in word_inside ws up w q i b);
        one = own _ (λ w q g. let (i, b) = good_in_lem w q g in word_at ws up k n w q i b);
        onward = own _ (λ w q g. let (i, b) = good_in_lem w q g in told i b (step_led w q i b));
        reads = λ p c h. elim (position_held ws up k n p h) [
          | holds w q i b e f ↦
              ap (λ x. read_on ok x c) f ∙ letters-read c w q i b ∙ ap (λ x. letters_on (length s) s x c) e
        ];
      }

  pub ring_backward : (c : Cursor) → c.k ≡ k → c.n ≡ n → good_on ok c ≡ true
      → let p = position_on ok c in
      let s = ring ok k n in
      Leads (good_on ok) (position_on ok) (back_on ok c) (letter_on (length s) s p) (beside (length s) false p) (passed_down k n c.word) n
  ring_backward = own _ (λ w q g. let (i, b) = good_in_lem w q g in told i b (back_led w q i b))

-- a cursor keeps its k and n: the one at a position, and the one that has moved
pub at_kept : (k n : ℕ) (ws : List (List ℕ)) (p : ℕ) → ((at_from k n ws p).k ≡ k) × ((at_from k n ws p).n ≡ n)
at_kept k n [] p = (refl, refl)
at_kept k n (w ∷ ws) p = elim (test (ltb p (length w))) [ inl t ↦ rw (t, at_from) (refl, refl) | inr t ↦ rw (t, at_from) (at_kept k n ws (p - length w)) ]

pub step_kept : (ok : ℕ → Bool) (c : Cursor) → ((step_on ok c).cursor_is.k ≡ c.k) × ((step_on ok c).cursor_is.n ≡ c.n)
step_kept ok c = elim (test (ltb (suc c.place) (length c.word))) [ inl t ↦ rw t (refl, refl) | inr t ↦ rw t (refl, refl) ]

pub back_kept : (ok : ℕ → Bool) (c : Cursor) → ((back_on ok c).cursor_is.k ≡ c.k) × ((back_on ok c).cursor_is.n ≡ c.n)
back_kept ok c = elim (test (ltb 0 c.place)) [ inl t ↦ rw t (refl, refl) | inr t ↦ rw t (refl, refl) ]
