-- Lists of words, ascending and joined: where a word begins, the word that holds a position, the word after a word.
use mathlib.Core.Path.{◌≡◌, refl, sym, ◌∙◌, ap, subst}
use mathlib.Core.Bool.{false}
use mathlib.Core.List.{List, [], ◌∷◌, ◌++◌, append_assoc}
use mathlib.Core.Logic.{inl, inr}
use Prim.Native.Nat.{ℕ, ◌+◌, ◌-◌, ◌<◌}
use native.Mathlib.Omega.{arith}
use native.Mathlib.Nat.{zero-add, add-zero}
use lib.Dec.{ltb}
use lib.ListN.{length, get_or, length-append, get_or-append}
use lib.Seq.{get_or-append-add, get_or-append_seam}
use borrow.Author.Tests.{ltb-true, ltb-false, lt-ltb, le-ltb}
use Rattle.theory.specs.Words.{same}
use Rattle.theory.specs.Lists.{In, here, there, Ascending}
use Rattle.theory.specs.Rings.{joined, cursor, before_w, at_from, first_after, last_before}
use Rattle.theory.proofs.Base.{test, unsnoc}
use Rattle.theory.proofs.Lists.{in_append_right, in_append_cases, in_mid, found, in_split, ascend_right, ascend_before, joined-append}
use Rattle.theory.proofs.Order.{Lt, Le, same_refl, ne_same, below_lt, lt_le, lt_irrefl, lt_asym, le_refl, eq_le, le_not_below}

-- an ascending list that holds w, from either side of w
pub first_below : (u : List ℕ) (a : List (List ℕ)) (w : List ℕ) (b : List (List ℕ)) → Ascending (u ∷ (a ++ (w ∷ b))) → Lt u w
first_below u a w b s = below_lt u w (s.0 w (in_mid a b))

pub larger_after : (a : List (List ℕ)) (w : List ℕ) (b : List (List ℕ)) {y : List ℕ} → Ascending (a ++ (w ∷ b)) → In y (a ++ (w ∷ b)) → Lt w y → In y b
larger_after [] w b s (here e) l = absurd (lt_irrefl (subst (λ r. Lt w r) e l))
larger_after [] w b s (there i) l = i
larger_after (u ∷ a) w b s (here e) l = absurd (lt_asym (subst (λ r. Lt w r) e l) (first_below u a w b s))
larger_after (u ∷ a) w b s (there i) l = larger_after a w b s.1 i l

-- where a word of the list begins
pub joined_both : (a b : List (List ℕ)) → length (joined (a ++ b)) ≡ length (joined a) + length (joined b)
joined_both a b = ap length (joined-append a b) ∙ length-append (joined a) (joined b)

pub before_is : (a : List (List ℕ)) (w : List ℕ) (b : List (List ℕ)) → Ascending (a ++ (w ∷ b)) → before_w w (a ++ (w ∷ b)) ≡ length (joined a)
before_is [] w b s = rw (same_refl w, before_w)
before_is (u ∷ a) w b s =
    let t : same u w ≡ false = ne_same (λ e. lt_irrefl (subst (λ r. Lt u r) (sym e) (first_below u a w b s))) in
    rw (t, before_w) (omega (arith, before_is a w b s.1, length-append u (joined a)))

-- the word's letters stand there
pub letter_is : (a : List (List ℕ)) (w : List ℕ) (b : List (List ℕ)) (q : ℕ) → q < length w
    → get_or (joined (a ++ (w ∷ b))) (length (joined a) + q) 0 ≡ get_or w q 0
letter_is a w b q h = ap (λ r. get_or r (length (joined a) + q) 0) (joined-append a (w ∷ b)) ∙ get_or-append-add (joined a) (w ++ joined b) q 0 ∙ get_or-append w (joined b) 0 q h

pub place_inside : (a : List (List ℕ)) (w : List ℕ) (b : List (List ℕ)) (q : ℕ) → q < length w → length (joined a) + q < length (joined (a ++ (w ∷ b)))
place_inside a w b q h = omega (arith, joined_both a (w ∷ b), length-append w (joined b))

-- the cursor at a position holds the word whose letters stand there
pub at_is : (k n : ℕ) (a : List (List ℕ)) (w : List ℕ) (b : List (List ℕ)) (q : ℕ) → q < length w
    → at_from k n (a ++ (w ∷ b)) (length (joined a) + q) ≡ cursor k n w q
at_is k n [] w b q h = ap (λ i. at_from k n (w ∷ b) i) (zero-add q) ∙ rw (lt-ltb q (length w) h, at_from)
at_is k n (u ∷ a) w b q h =
    let e : length (u ++ joined a) + q - length u ≡ length (joined a) + q = omega (arith, length-append u (joined a)) in
    let t : ltb (length (u ++ joined a) + q) (length u) ≡ false = le-ltb (length (u ++ joined a) + q) (length u) (omega (arith, length-append u (joined a))) in
    rw (t, at_from) (ap (λ i. at_from k n (a ++ (w ∷ b)) i) e ∙ at_is k n a w b q h)

pub data Held (k n : ℕ) (ws : List (List ℕ)) (p : ℕ) : Type 0 where
  held : (a : List (List ℕ)) (w : List ℕ) (b : List (List ℕ)) (q : ℕ) → ws ≡ a ++ (w ∷ b) → at_from k n ws p ≡ cursor k n w q → q < length w
      → p ≡ length (joined a) + q → Held k n ws p

pub at_held : (k n : ℕ) (ws : List (List ℕ)) (p : ℕ) → p < length (joined ws) → Held k n ws p
at_held k n [] p h = absurd (omega arith)
at_held k n (u ∷ us) p h = elim (test (ltb p (length u))) [
  | inl t ↦ held [] u us p refl (rw (t, at_from)) (ltb-true _ _ t) (sym (zero-add p))
  | inr t ↦ further t (at_held k n us (p - length u) (omega (arith, ltb-false p (length u) t, length-append u (joined us))))
]
  where
    further : ltb p (length u) ≡ false → Held k n us (p - length u) → Held k n (u ∷ us) p
    further t (held a w b q e f g m) =
        held (u ∷ a) w b q (ap (λ r. u ∷ r) e) (rw (t, at_from) f) g (omega (arith, ltb-false p (length u) t, length-append u (joined a)))

-- the word after: the next of the list, or, after the last, the first
first_skips : (a : List (List ℕ)) (w : List ℕ) (b all : List (List ℕ)) → Ascending (a ++ (w ∷ b)) → first_after w (a ++ (w ∷ b)) all ≡ first_after w b all
first_skips [] w b all s = rw (le_not_below (le_refl w), first_after)
first_skips (u ∷ a) w b all s = rw (le_not_below (lt_le (first_below u a w b s)), first_after) (first_skips a w b all s.1)

pub first_next : (a : List (List ℕ)) (w v : List ℕ) (b all : List (List ℕ)) → Ascending (a ++ (w ∷ (v ∷ b))) → first_after w (a ++ (w ∷ (v ∷ b))) all ≡ v
first_next a w v b all s = first_skips a w (v ∷ b) all s ∙ rw ((ascend_right a (w ∷ (v ∷ b)) s).0 v (here refl), first_after)

pub first_last : (a : List (List ℕ)) (w : List ℕ) (all : List (List ℕ)) → Ascending (a ++ (w ∷ [])) → first_after w (a ++ (w ∷ [])) all ≡ get_or all 0 []
first_last a w all s = first_skips a w [] all s

-- the same for a member, by the number of letters before it
pub data Holds (k n : ℕ) (ws : List (List ℕ)) (p : ℕ) : Type 0 where
  holds : (w : List ℕ) (q : ℕ) → In w ws → q < length w → before_w w ws + q ≡ p → at_from k n ws p ≡ cursor k n w q → Holds k n ws p

-- v comes after w: the least larger word, right behind w, or, w being the last, the first
pub data After (w : List ℕ) (ws : List (List ℕ)) (here_is : ℕ) (v : List ℕ) : Type 0 where
  onward : In v ws → Lt w v → ((y : List ℕ) → In y ws → Lt w y → Le v y) → before_w v ws ≡ here_is + length w → After w ws here_is v
  around : In v ws → ((y : List ℕ) → In y ws → Le v y × Le y w) → before_w v ws ≡ 0 → length (joined ws) ≡ here_is + length w → After w ws here_is v

-- the first and the last of an ascending list
first_least : {u : List ℕ} {us : List (List ℕ)} → Ascending (u ∷ us) → {y : List ℕ} → In y (u ∷ us) → Le u y
first_least s (here e) = eq_le (sym e)
first_least {u} s {y} (there i) = lt_le (below_lt u y (s.0 y i))

last_most : (a : List (List ℕ)) {v : List ℕ} → Ascending (a ++ (v ∷ [])) → {y : List ℕ} → In y (a ++ (v ∷ [])) → Le y v
last_most a s {y} i = elim (in_append_cases a i) [ inl j ↦ lt_le (ascend_before a [] s y j) | inr (here e) ↦ eq_le e | inr (there j) ↦ elim j [ ] ]

after_last : (a : List (List ℕ)) (w : List ℕ) → Ascending (a ++ (w ∷ [])) → After w (a ++ (w ∷ [])) (length (joined a)) (get_or (a ++ (w ∷ [])) 0 [])
after_last [] w t = around (here refl) (λ y i. (first_least t i, last_most [] t i)) (before_is [] w [] t) (omega (arith, length-append w []))
after_last (u ∷ a) w t =
    around (here refl) (λ y i. (first_least t i, last_most (u ∷ a) t i)) (before_is [] u (a ++ (w ∷ [])) t)
    (joined_both (u ∷ a) (w ∷ []) ∙ omega (arith, length-append w []))

after_next : (a : List (List ℕ)) (w v : List ℕ) (b : List (List ℕ)) → Ascending (a ++ (w ∷ (v ∷ b))) → After w (a ++ (w ∷ (v ∷ b))) (length (joined a)) v
after_next a w v b t = onward (subst (λ r. In v r) e (in_mid (a ++ (w ∷ [])) b)) (below_lt w v (later.0 v (here refl))) least begins
  where
    e : (a ++ (w ∷ [])) ++ (v ∷ b) ≡ a ++ (w ∷ (v ∷ b))
    e = simp append_assoc

    later : Ascending (w ∷ (v ∷ b))
    later = ascend_right a (w ∷ (v ∷ b)) t

    least : (y : List ℕ) → In y (a ++ (w ∷ (v ∷ b))) → Lt w y → Le v y
    least y i l = elim (larger_after a w (v ∷ b) t i l) [ here f ↦ eq_le (sym f) | there j ↦ lt_le (below_lt v y (later.1.0 y j)) ]

    begins : before_w v (a ++ (w ∷ (v ∷ b))) ≡ length (joined a) + length w
    begins =
        ap (λ r. before_w v r) (sym e) ∙ before_is (a ++ (w ∷ [])) v b (subst Ascending (sym e) t)
        ∙ joined_both a (w ∷ []) ∙ omega (arith, length-append w [])

-- the word before: the last of the list that is below it, or, before the first, the last of all
last_skips : (w : List ℕ) (b : List (List ℕ)) (v : List ℕ) → Ascending (w ∷ b) → last_before w (w ∷ b) v ≡ v
last_skips w b v s = rw (le_not_below (le_refl w), last_before) (rest b (λ y i. below_lt w y (s.0 y i)))
  where
    rest : (b : List (List ℕ)) → ((y : List ℕ) → In y b → Lt w y) → last_before w b v ≡ v
    rest [] f = refl
    rest (u ∷ b) f = rw (le_not_below (lt_le (f u (here refl))), last_before) (rest b (λ y i. f y (there i)))

last_next : (a : List (List ℕ)) (u w : List ℕ) (b : List (List ℕ)) (v : List ℕ) → Ascending (a ++ (u ∷ (w ∷ b))) → last_before w (a ++ (u ∷ (w ∷ b))) v ≡ u
last_next [] u w b v s = rw (s.0 w (here refl), last_before) (last_skips w b u s.1)
last_next (x ∷ a) u w b v s = rw (s.0 w (in_append_right a (there (here refl))), last_before) (last_next a u w b x s.1)

last_of_lem : (a : List (List ℕ)) (v : List ℕ) → let ws = a ++ (v ∷ []) in get_or ws (length ws - 1) [] ≡ v
last_of_lem a v =
    let n : length (a ++ (v ∷ [])) - 1 ≡ length a = omega (arith, length-append a (v ∷ [])) in
    ap (λ i. get_or (a ++ (v ∷ [])) i []) n ∙ get_or-append_seam a v [] []

-- v comes before w: the largest smaller word, right in front of w, or, w being the first, the last
pub data Before (w : List ℕ) (ws : List (List ℕ)) (here_is : ℕ) (v : List ℕ) : Type 0 where
  backward : In v ws → Lt v w → ((y : List ℕ) → In y ws → Lt y w → Le y v) → before_w v ws + length v ≡ here_is → Before w ws here_is v
  from_end : In v ws → ((y : List ℕ) → In y ws → Le w y × Le y v) → here_is ≡ 0 → before_w v ws + length v ≡ length (joined ws) → Before w ws here_is v

before_next : (a : List (List ℕ)) (u w : List ℕ) (b : List (List ℕ)) → Ascending (a ++ (u ∷ (w ∷ b)))
    → Before w (a ++ (u ∷ (w ∷ b))) (length (joined (a ++ (u ∷ [])))) u
before_next a u w b t = backward (in_mid a (w ∷ b)) (below_lt u w (later.0 w (here refl))) most (omega (arith, before_is a u (w ∷ b) t, joined_both a (u ∷ []), length-append u []))
  where
    later : Ascending (u ∷ (w ∷ b))
    later = ascend_right a (u ∷ (w ∷ b)) t

    most : (y : List ℕ) → In y (a ++ (u ∷ (w ∷ b))) → Lt y w → Le y u
    most y i l = elim (in_append_cases a i) [
      | inl j ↦ lt_le (ascend_before a (w ∷ b) t y j)
      | inr (here e) ↦ eq_le e
      | inr (there (here e)) ↦ absurd (lt_irrefl (subst (λ r. Lt r w) e l))
      | inr (there (there j)) ↦ absurd (lt_asym l (below_lt w y (later.1.0 y j)))
    ]

before_first : (w : List ℕ) (b : List (List ℕ)) → Ascending (w ∷ b) → Before w (w ∷ b) 0 (get_or (w ∷ b) (length (w ∷ b) - 1) [])
before_first w b t = let (a, v, e) = unsnoc (w ∷ b) (omega arith) in at a v e
  where
    at : (a : List (List ℕ)) (v : List ℕ) → w ∷ b ≡ a ++ (v ∷ []) → Before w (w ∷ b) 0 (get_or (w ∷ b) (length (w ∷ b) - 1) [])
    at a v e = subst (Before w (w ∷ b) 0) (sym (ap (λ r. get_or r (length r - 1) []) e ∙ last_of_lem a v)) (from_end into (λ y i. (first_least t i, last_most a up (subst (In y) e i))) refl ends)
      where
        up : Ascending (a ++ (v ∷ []))
        up = subst Ascending e t

        into : In v (w ∷ b)
        into = subst (In v) (sym e) (in_mid a [])

        ends : before_w v (w ∷ b) + length v ≡ length (joined (w ∷ b))
        ends =
            ap (λ r. before_w v r + length v) e ∙ ap (λ i. i + length v) (before_is a v [] up) ∙ sym (ap (λ r. length (joined r)) e ∙ joined_both a (v ∷ []) ∙ ap (λ i. length (joined a) + i) (length-append v [] ∙ add-zero (length v)))

module _ (ws : List (List ℕ)) (s : Ascending ws) where
  -- what a split list shows of its member
  member : (P : List (List ℕ) → ℕ → Type 0) {w : List ℕ} → In w ws
      → ((a b : List (List ℕ)) → Ascending (a ++ (w ∷ b)) → P (a ++ (w ∷ b)) (length (joined a))) → P ws (before_w w ws)
  member P {w} i f = elim (in_split i) [
    | found a b e ↦
        let t : Ascending (a ++ (w ∷ b)) = subst Ascending e s in
        subst (λ r. P r (before_w w r)) (sym e) (subst (λ m. P (a ++ (w ∷ b)) m) (sym (before_is a w b t)) (f a b t))
  ]

  pub word_inside : (w : List ℕ) (q : ℕ) → In w ws → q < length w → before_w w ws + q < length (joined ws)
  word_inside w q i h = member (λ r m. m + q < length (joined r)) i (λ a b t. place_inside a w b q h)

  pub word_letter : (w : List ℕ) (q : ℕ) → In w ws → q < length w → get_or (joined ws) (before_w w ws + q) 0 ≡ get_or w q 0
  word_letter w q i h = member (λ r m. get_or (joined r) (m + q) 0 ≡ get_or w q 0) i (λ a b t. letter_is a w b q h)

  pub word_at : (k n : ℕ) (w : List ℕ) (q : ℕ) → In w ws → q < length w → at_from k n ws (before_w w ws + q) ≡ cursor k n w q
  word_at k n w q i h = member (λ r m. at_from k n r (m + q) ≡ cursor k n w q) i (λ a b t. at_is k n a w b q h)

  pub position_held : (k n p : ℕ) → p < length (joined ws) → Holds k n ws p
  position_held k n p h = elim (at_held k n ws p h) [
    | held a w b q e f g m ↦
        holds w q (subst (λ r. In w r) (sym e) (in_mid a b)) g
        (ap (λ r. before_w w r + q) e ∙ ap (λ i. i + q) (before_is a w b (subst Ascending e s)) ∙ sym m) f
  ]

  pub word_after : (w : List ℕ) → In w ws → After w ws (before_w w ws) (first_after w ws ws)
  word_after w i = member (λ r m. After w r m (first_after w r r)) i split
    where
      split : (a b : List (List ℕ)) → Ascending (a ++ (w ∷ b)) → After w (a ++ (w ∷ b)) (length (joined a)) (first_after w (a ++ (w ∷ b)) (a ++ (w ∷ b)))
      split a [] t = rw (first_last a w _ t) (after_last a w t)
      split a (v ∷ b) t = rw (first_next a w v b _ t) (after_next a w v b t)

  pub word_before_lem : (w : List ℕ) → In w ws → Before w ws (before_w w ws) (last_before w ws (get_or ws (length ws - 1) []))
  word_before_lem w i = member (λ r m. Before w r m (last_before w r (get_or r (length r - 1) []))) i split
    where
      split : (a b : List (List ℕ)) → Ascending (a ++ (w ∷ b))
          → let r = a ++ (w ∷ b) in Before w r (length (joined a)) (last_before w r (get_or r (length r - 1) []))
      split [] b t = subst (Before w (w ∷ b) 0) (sym (last_skips w b _ t)) (before_first w b t)
      split (x ∷ c) b t = let (a, u, e) = unsnoc (x ∷ c) (omega arith) in inner a u e
        where
          inner : (a : List (List ℕ)) (u : List ℕ) → x ∷ c ≡ a ++ (u ∷ [])
              → let r = (x ∷ c) ++ (w ∷ b) in Before w r (length (joined (x ∷ c))) (last_before w r (get_or r (length r - 1) []))
          inner a u e =
              let f : (x ∷ c) ++ (w ∷ b) ≡ a ++ (u ∷ (w ∷ b)) = ap (λ y. y ++ (w ∷ b)) e ∙ append_assoc a (u ∷ []) (w ∷ b) in
              let up : Ascending (a ++ (u ∷ (w ∷ b))) = subst Ascending f t in
              subst (λ y. Before w ((x ∷ c) ++ (w ∷ b)) (length (joined y)) (last_before w ((x ∷ c) ++ (w ∷ b)) (get_or ((x ∷ c) ++ (w ∷ b)) (length ((x ∷ c) ++ (w ∷ b)) - 1) []))) (sym e)
              (subst (λ r. Before w r (length (joined (a ++ (u ∷ [])))) (last_before w r (get_or r (length r - 1) []))) (sym f)
              (subst (Before w (a ++ (u ∷ (w ∷ b))) (length (joined (a ++ (u ∷ []))))) (sym (last_next a u w b _ up)) (before_next a u w b up)))
