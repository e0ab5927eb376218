-- Document 004's automaton (section 4), its paths: the recurrence for the number of words that lead a state back to w, why these numbers
-- are those of a longer word too, and the words outside CS(w): y followed by a prefix p of w, where y leads the state behind p back to w.
use mathlib.Core.Path.{◌≡◌, refl, sym, ◌∙◌, ap, subst}
use mathlib.Core.Bool.{Bool, true}
use mathlib.Core.List.{List, [], ◌∷◌, ◌++◌, append_assoc, append-nil}
use mathlib.Core.Logic.{inl, inr}
use Prim.Native.Nat.{ℕ, zero, suc, ◌+◌, ◌-◌, ◌*◌, ◌^◌, ◌≤◌, ◌<◌}
use native.Mathlib.Omega.{arith}
use lib.ListN.{length, get_or, drop, length-append, length-drop}
use lib.Seq.{drop-append-le, drop-cons}
use Rattle.theory.specs.Words.{same, with_first, each_first, all_words, keep, marks_ok}
use Rattle.theory.specs.Automaton.{moved, run, returning, paths_to}
use Rattle.theory.proofs.Base.{test, less, equal, more, cmp, levi, longer, shorter, cancel_right, same_test}
use Rattle.theory.proofs.Order.{same_eq, eq_same, ne_same}
use Rattle.theory.proofs.Lists.{keep_append, keep_none}
use Rattle.theory.proofs.Counts.{keep_same, keep-length}
use Rattle.theory.proofs.Letters.{marks_getD}
use Rattle.theory.specs.Prenecklaces.{Prenecklace}
use Rattle.theory.proofs.AllWords.{all_in, all_count}
use Rattle.theory.proofs.Automaton.{moved-less, moved_same, moved_more, run_nil, State, state, home_state, state_length, Walk, stay, follow, restart, walk_run, walk_state, walk_some, walk_append, walk_straight, halves, walk_split, Since, since, never, walk_since, home_alone, run_walk, Turns, turns_accepts}

-- the recurrence
keep_first : (f : List ℕ → Bool) (c : ℕ) (ws : List (List ℕ)) → length (keep f (with_first c ws)) ≡ length (keep (λ x. f (c ∷ x)) ws)
keep_first f c [] = refl
keep_first f c (x ∷ ws) = elim (test (f (c ∷ x))) [ inl t ↦ rw t (ap suc (keep_first f c ws)) | inr t ↦ rw t (keep_first f c ws) ]

-- how many of the given words lead a state to w
abbrev homeward : List ℕ → List ℕ → List (List ℕ) → ℕ
homeward w r ws = length (keep (λ x. same (run w r x) w) ws)

module _ (w r : List ℕ) (a : ℕ) (ws : List (List ℕ)) (some : 0 < length w) where
  none_home : homeward w [] ws ≡ 0
  none_home = ap length (keep_none (λ x. same (run w [] x) w) ws (λ x i. ne_same (λ e. let h : [] ≡ w = sym (run_nil w x) ∙ e in omega (arith, ap length h))))

  by_first : (l c : ℕ) → homeward w (a ∷ r) (each_first (suc l) c ws) ≡ homeward w (moved w (a ∷ r) c) ws + homeward w (a ∷ r) (each_first l (suc c) ws)
  by_first l c = ap length (keep_append f (with_first c ws) (each_first l (suc c) ws)) ∙ omega (arith, length-append (keep f (with_first c ws)) (keep f (each_first l (suc c) ws)), keep_first f c ws)
    where
      f : List ℕ → Bool
      f x = same (run w (a ∷ r) x) w

  -- first letters above a; first letters from c on, a among them
  home_above : (l c : ℕ) → a < c → homeward w (a ∷ r) (each_first l c ws) ≡ l * homeward w w ws
  home_above zero c h = omega arith
  home_above (suc l) c h = omega (arith, by_first l c, home_above l (suc c) (omega arith), ap (λ s. homeward w s ws) (moved_more w r h))

  home_from : (l c : ℕ) → c ≤ a → a < c + l → homeward w (a ∷ r) (each_first l c ws) ≡ homeward w r ws + (c + l - 1 - a) * homeward w w ws
  home_from zero c h g = absurd (omega arith)
  home_from (suc l) c h g = elim (cmp c a) [
    | less e ↦
        let k : c + suc l - 1 - a ≡ suc c + l - 1 - a = omega arith in
        by_first l c ∙ rw k (omega (arith, home_from l (suc c) (omega arith) (omega arith), ap (λ s. homeward w s ws) (moved-less w r e), none_home))
    | equal e ↦
        let k : c + suc l - 1 - a ≡ l = omega arith in
        by_first l c ∙ rw k (omega (arith, home_above l (suc c) (omega arith), ap (λ s. homeward w s ws) (moved_same w r e)))
    | more e ↦ absurd (omega arith)
  ]

pub home_away : (k : ℕ) (w : List ℕ) (s : ℕ) → 0 < s → s ≤ length w → returning k w s 0 ≡ 0
home_away k w s h l = rw (ne_same {u = drop s w} {v = w} (λ e. omega (arith, ap length e, length-drop s w)))

pub home_step : (k : ℕ) (w : List ℕ) (s l : ℕ) → marks_ok k w ≡ true → s < length w
    → returning k w s (suc l) ≡ returning k w (suc s) l + (k - 1 - get_or w s 0) * returning k w 0 l
home_step k w s l h g =
    let e : drop s w ≡ get_or w s 0 ∷ drop (suc s) w = drop-cons w s 0 g in
    let m : get_or w s 0 < k = marks_getD k w s g h in
    let z : 0 + k - 1 - get_or w s 0 ≡ k - 1 - get_or w s 0 = omega arith in
    ap (λ r. homeward w r (all_words k (suc l))) e
    ∙ home_from w (drop (suc s) w) (get_or w s 0) (all_words k l) (omega arith) k 0 (omega arith) (omega arith)
    ∙ ap (λ c. returning k w (suc s) l + c * returning k w 0 l) z

pub home_small : (k : ℕ) (w : List ℕ) (s l : ℕ) → returning k w s l ≤ k ^ l
home_small k w s l = omega (arith, keep-length (λ x. same (run w (drop s w) x) w) (all_words k l), all_count k l)

-- a word that is no longer than what is left leads on as if nothing came after w
walk_widen : {w r y s : List ℕ} (t : List ℕ) → Walk w r y s → Walk (w ++ t) (r ++ t) y (s ++ t)
walk_widen t stay = stay
walk_widen t (follow g) = follow (walk_widen t g)
walk_widen t (restart h g) = restart h (walk_widen t g)

data Narrow (w r y t z : List ℕ) : Type 0 where
  narrow : (s : List ℕ) → z ≡ s ++ t → Walk w r y s → Narrow w r y t z

walk_narrow : {z : List ℕ} (w t y r : List ℕ) → length y ≤ length r → length r ≤ length w → Walk (w ++ t) (r ++ t) y z → Narrow w r y t z
walk_narrow w t [] r h l g = narrow r (sym (walk_run g)) stay
walk_narrow w t (c ∷ y) [] h l g = absurd (omega arith)
walk_narrow w t (c ∷ y) (a ∷ r) h l (follow g) = elim (walk_narrow w t y r (omega arith) (omega arith) g) [ narrow s e q ↦ narrow s e (follow q) ]
walk_narrow w t (c ∷ y) (a ∷ r) h l (restart b g) = elim (walk_narrow w t y w (omega arith) (omega arith) g) [ narrow s e q ↦ narrow s e (restart b q) ]

returning-front : (k : ℕ) (w t : List ℕ) (q : ℕ) → 0 < length w → q ≤ length w → returning k (w ++ t) q (length w - q) ≡ returning k w q (length w - q)
returning-front k w t q n h = ap length (keep_same (λ x. same (run (w ++ t) (drop q (w ++ t)) x) (w ++ t)) (λ x. same (run w (drop q w) x) w) (all_words k (length w - q)) (λ x i.
    same_test _ _ (λ e. there_so x (all_in k (length w - q) x i).0 (same_eq _ (w ++ t) e)) (λ e. back_so x (same_eq _ w e))))
  where
    d : drop q (w ++ t) ≡ drop q w ++ t
    d = drop-append-le q w t h

    there_so : (x : List ℕ) → length x ≡ length w - q → run (w ++ t) (drop q (w ++ t)) x ≡ w ++ t → same (run w (drop q w) x) w ≡ true
    there_so x l e =
        let g : Walk (w ++ t) (drop q w ++ t) x (w ++ t) = run_walk (omega (arith, length-append w t)) (ap (λ r. run (w ++ t) r x) (sym d) ∙ e) in
        elim (walk_narrow w t x (drop q w) (omega (arith, length-drop q w)) (omega (arith, length-drop q w)) g) [
          | narrow s f v ↦ eq_same (walk_run v ∙ sym (cancel_right w s t f))
        ]

    back_so : (x : List ℕ) → run w (drop q w) x ≡ w → same (run (w ++ t) (drop q (w ++ t)) x) (w ++ t) ≡ true
    back_so x e =
        let g : Walk w (drop q w) x w = run_walk n e in
        eq_same (ap (λ r. run (w ++ t) r x) d ∙ walk_run (walk_widen t g))

pub paths_front : (k : ℕ) (w t : List ℕ) (q : ℕ) → 0 < length w → q ≤ length w → paths_to k (w ++ t) (length w) q ≡ paths_to k w (length w) q
paths_front k w t zero n h = refl
paths_front k w t (suc q) n h = omega (arith, returning-front k w t q n (omega arith), paths_front k w t q n (omega arith))

-- x is u and then a prefix p of w, and u leads the state behind p to w
pub data Returns (w x : List ℕ) : Type 0 where
  returns : (u p t : List ℕ) → x ≡ u ++ p → w ≡ p ++ t → 0 < length t → Walk w t u w → Returns w x

-- in one way only
one_home : {w r : List ℕ} (u v p q o z : List ℕ) → Prenecklace w → 0 < length w → State w r → w ≡ q ++ o → Walk w r u w → u ≡ v ++ z → q ≡ z ++ p → u ≡ v
one_home {w} {r} u v p q o z h n s f g i j =
    let k : w ≡ z ++ (p ++ o) = f ∙ ap (λ y. y ++ o) j ∙ append_assoc z p o in
    i ∙ ap (λ y. v ++ y) (home_alone v z (p ++ o) h s n k (subst (λ y. Walk w r y w) i g)) ∙ append-nil v

pub both_home : {w r s : List ℕ} (u p t v q o : List ℕ) → Prenecklace w → 0 < length w → State w r → State w s → w ≡ p ++ t → w ≡ q ++ o
    → Walk w r u w → Walk w s v w → u ++ p ≡ v ++ q → u ≡ v
both_home u p t v q o h n a b f g x y e = elim (levi u p v q e) [
  | longer z i j ↦ one_home u v p q o z h n a g x i j
  | shorter z i j ↦ sym (one_home v u q p t z h n b f y i j)
]

-- a word whose double is not accepted is of this form: it leads the state that it reaches to the same state
pub refused_returns : {w x t : List ℕ} → Prenecklace w → 0 < length w → length x ≡ length w → 0 < length t → Walk w w (x ++ x) t → Returns w x
refused_returns {w} {x} {t} h n m k g = elim (walk_split x g) [ halves s a b ↦ go s a b (walk_since a) (walk_since b) (walk_some x (omega arith) b) ]
  where
    go : (s : List ℕ) → Walk w w x s → Walk w s x t → Since w w x s → Since w s x t → 0 < length s → Returns w x
    go s a b (never e) d i = absurd (omega (arith, ap length e, length-append x s))
    go s a b (since u p e q f) (never d) i = absurd (omega (arith, ap length d, length-append x t, state_length (walk_state (home_state w) a)))
    go s a b (since u p e q f) (since v o d r c) i =
        returns u p s e f i (subst (λ y. Walk w s y w) (both_home v o t u p s h n (state p f) (home_state w) c f r q (sym d ∙ e)) r)

pub returns_refused : {w x : List ℕ} → Prenecklace w → length x ≡ length w → Returns w x → ¬ Turns x w
returns_refused {w} {x} h m (returns u p t e f n g) z =
    let k : Walk w t x t = subst (λ y. Walk w t y t) (sym e) (walk_append g (subst (λ y. Walk w y p t) (sym f) (walk_straight p t))) in
    omega (arith, ap length (sym (walk_run (walk_append k k)) ∙ turns_accepts {x = x} h m (state p f) z))
