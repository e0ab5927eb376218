-- The list of all words of length 1 to n, each followed by the words that it begins: what it holds, that it ascends.
use mathlib.Core.Path.{◌≡◌, refl, sym, ◌∙◌, ap, subst, subst₂}
use mathlib.Core.Bool.{true}
use mathlib.Core.List.{List, [], ◌∷◌, ◌++◌, append_assoc, append-nil}
use mathlib.Core.Logic.{inl, inr, ◌↔◌}
use Prim.Native.Nat.{ℕ, zero, suc, ◌+◌, ◌≤◌, ◌<◌}
use native.Mathlib.Omega.{arith}
use lib.ListN.{length}
use Rattle.theory.specs.Words.{below, marks_ok}
use Rattle.theory.specs.Lists.{In, here, there, Ascending}
use Rattle.theory.specs.Rings.{heads, words_from, up_words}
use Rattle.theory.specs.Prenecklaces.{Cut}
use Rattle.theory.proofs.Base.{cmp, less, equal, more}
use Rattle.theory.proofs.Order.{Lt, Prefix, prefix, cut_lt, cut_append, cut_at_letter, lt_append, lt_below}
use Rattle.theory.proofs.Lists.{in_nil, in_append_left, in_append_right, in_append_cases, ascend_append}
use Rattle.theory.proofs.Letters.{marks_cons, marks_head, marks_tail}

-- w with one letter from a on, of the next l
data Next (l a : ℕ) (w v : List ℕ) : Type 0 where
  next : (c : ℕ) → a ≤ c → c < a + l → v ≡ w ++ (c ∷ []) → Next l a w v

heads_in : (l a : ℕ) (w : List ℕ) {v : List ℕ} → In v (heads l a w) → Next l a w v
heads_in zero a w i = absurd (in_nil i)
heads_in (suc l) a w (here e) = next a (omega arith) (omega arith) e
heads_in (suc l) a w (there i) = elim (heads_in l (suc a) w i) [ next c p q e ↦ next c (omega arith) (omega arith) e ]

in_heads : (l a c : ℕ) (w : List ℕ) → a ≤ c → c < a + l → In (w ++ (c ∷ [])) (heads l a w)
in_heads zero a c w p q = absurd (omega arith)
in_heads (suc l) a c w p q = elim (cmp a c) [
  | less h ↦ there (in_heads l (suc a) c w (omega arith) (omega arith))
  | equal h ↦ here (ap (λ r. w ++ (r ∷ [])) (sym h))
  | more h ↦ absurd (omega arith)
]

-- the stack's invariant: of two of its words, a letter decides that the first is smaller, so it does whatever is appended
abbrev Cuts : List (List ℕ) → Type 0
Cuts [] = Unit {0}
Cuts (w ∷ ws) = ((v : List ℕ) → In v ws → Cut w v) × Cuts ws

heads_cuts : (l a : ℕ) (w : List ℕ) → Cuts (heads l a w)
heads_cuts zero a w = tt
heads_cuts (suc l) a w =
    (λ v i. elim (heads_in l (suc a) w i) [ next c p q e ↦ subst (λ r. Cut (w ++ (a ∷ [])) r) (sym e) (cut_at_letter w [] [] p) ], heads_cuts l (suc a) w)

-- a word of ws with fewer than n letters appended
data Grown (k n : ℕ) (ws : List (List ℕ)) (v : List ℕ) : Type 0 where
  grown : (w t : List ℕ) → In w ws → v ≡ w ++ t → length t < n → marks_ok k t ≡ true → Grown k n ws v

-- w with 1 to n letters appended
data Longer (k n : ℕ) (w v : List ℕ) : Type 0 where
  longer : (c : ℕ) (t : List ℕ) → v ≡ w ++ (c ∷ t) → length t < n → c < k → marks_ok k t ≡ true → Longer k n w v

grown_longer : {k n : ℕ} (w : List ℕ) {v : List ℕ} → Grown k n (heads k 0 w) v → Longer k n w v
grown_longer {k} w (grown u t i e l h) = elim (heads_in k 0 w i) [
  | next c p q f ↦
      longer c t (e ∙ ap (λ r. r ++ t) f ∙ append_assoc w (c ∷ []) t) l (omega arith) h
]

words_in : (n k : ℕ) (ws : List (List ℕ)) {v : List ℕ} → In v (words_from n k ws) → Grown k n ws v
words_in zero k ws i = absurd (in_nil i)
words_in (suc n) k [] i = absurd (in_nil i)
words_in (suc n) k (w ∷ ws) {v} i = elim (in_append_cases (w ∷ words_from n k (heads k 0 w)) i) [
  | inl j ↦ front j (words_in n k (heads k 0 w))
  | inr j ↦ elim (words_in (suc n) k ws j) [ grown u t m e l h ↦ grown u t (there m) e l h ]
]
  where
    front : In v (w ∷ words_from n k (heads k 0 w)) → (In v (words_from n k (heads k 0 w)) → Grown k n (heads k 0 w) v) → Grown k (suc n) (w ∷ ws) v
    front (here e) ih = grown w [] (here refl) (e ∙ sym (append-nil w)) (omega arith) refl
    front (there j) ih = elim (grown_longer w (ih j)) [ longer c t e l p h ↦ grown w (c ∷ t) (here refl) e (omega arith) (marks_cons k c t p h) ]

in_words : (n k : ℕ) (ws : List (List ℕ)) (w t : List ℕ) → In w ws → length t < n → marks_ok k t ≡ true → In (w ++ t) (words_from n k ws)
in_words zero k ws w t i l h = absurd (omega arith)
in_words (suc n) k [] w t i l h = elim i [ ]
in_words (suc n) k (u ∷ ws) w [] (here e) l h = here (append-nil w ∙ e)
in_words (suc n) k (u ∷ ws) w (c ∷ t) (here e) l h =
    let p : c < k = marks_head k c t h in
    let j : In ((w ++ (c ∷ [])) ++ t) (words_from n k (heads k 0 w)) =
    in_words n k (heads k 0 w) (w ++ (c ∷ [])) t (in_heads k 0 c w (omega arith) (omega arith)) (omega arith) (marks_tail k c t h) in
    there (in_append_left (words_from (suc n) k ws) (subst (λ r. In (w ++ (c ∷ t)) (words_from n k (heads k 0 r))) e (rw append_assoc at j)))
in_words (suc n) k (u ∷ ws) w t (there i) l h = in_append_right (u ∷ words_from n k (heads k 0 u)) (in_words (suc n) k ws w t i l h)

words_ascend : (n k : ℕ) (ws : List (List ℕ)) → Cuts ws → Ascending (words_from n k ws)
words_ascend zero k ws p = tt
words_ascend (suc n) k [] p = tt
words_ascend (suc n) k (w ∷ ws) p =
    ascend_append (w ∷ words_from n k (heads k 0 w)) (words_from (suc n) k ws)
    (after, words_ascend n k (heads k 0 w) (heads_cuts k 0 w)) (words_ascend (suc n) k ws p.1)
    (λ u v i j. elim (begin u i) [ prefix t e ↦ elim (words_in (suc n) k ws j) [ grown x s m f l h ↦ cut_lt (subst₂ Cut (sym e) (sym f) (cut_append t s (p.0 x m))) ] ])
  where
    after : (v : List ℕ) → In v (words_from n k (heads k 0 w)) → below w v ≡ true
    after v i = elim (grown_longer w (words_in n k (heads k 0 w) i)) [ longer c t e l q h ↦ lt_below (subst (λ r. Lt w r) (sym e) (lt_append w c t)) ]

    begin : (u : List ℕ) → In u (w ∷ words_from n k (heads k 0 w)) → Prefix w u
    begin u (here e) = prefix [] (e ∙ sym (append-nil w))
    begin u (there i) = elim (grown_longer w (words_in n k (heads k 0 w) i)) [ longer c t e l q h ↦ prefix (c ∷ t) e ]

pub up_in : (k n : ℕ) (w : List ℕ) → In w (up_words k n) → (1 ≤ length w) × (length w ≤ n) × (marks_ok k w ≡ true)
up_in k n w i = elim (grown_longer [] (words_in n k (heads k 0 []) i)) [ longer c t e l p h ↦ rw e (omega arith, omega arith, marks_cons k c t p h) ]

pub in_up : (k n : ℕ) (w : List ℕ) → 1 ≤ length w → length w ≤ n → marks_ok k w ≡ true → In w (up_words k n)
in_up k n [] p q h = absurd (omega arith)
in_up k n (c ∷ t) p q h =
    let l : c < k = marks_head k c t h in
    in_words n k (heads k 0 []) (c ∷ []) t (in_heads k 0 c [] (omega arith) (omega arith)) (omega arith) (marks_tail k c t h)

pub up_words_lem : (k n : ℕ) (w : List ℕ) → In w (up_words k n) ↔ ((1 ≤ length w) × (length w ≤ n) × (marks_ok k w ≡ true))
up_words_lem k n w = (up_in k n w, λ h. in_up k n w h.0 h.1 h.2)

pub up_ascend : (k n : ℕ) → Ascending (up_words k n)
up_ascend k n = words_ascend n k (heads k 0 []) (heads_cuts k 0 [])
