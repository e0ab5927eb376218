-- A word found letter by letter, seen from the word: which letters keep a prenecklace one, and that p c z z .. is not below a word that
-- begins with p just when c is not below its next letter. So a count that tells whether a word is reached tells each letter of it.
use mathlib.Core.Path.{◌≡◌, refl, sym, ◌∙◌, ap, subst}
use mathlib.Core.Bool.{true}
use mathlib.Core.List.{List, [], ◌∷◌, ◌++◌}
use mathlib.Core.Logic.{◌↔◌}
use Prim.Native.Nat.{ℕ, zero, suc, ◌≤◌}
use native.Mathlib.Omega.{arith}
use lib.ListN.{length, replicate, length-append}
use Rattle.theory.specs.Words.{how_many, rank, word_of, marks_ok, is_lyndon}
use Rattle.theory.proofs.Base.{less, equal, more, cmp, levi, longer, shorter}
use Rattle.theory.proofs.Order.{Le, sooner, further, le_prefix, le_not_lt, not_lt, cut_lt, cut_tail, cut_at_letter}
use Rattle.theory.proofs.Letters.{marks_head, marks_tail}
use Rattle.theory.specs.Prenecklaces.{Cut, differ, agree, Prenecklace}
use Rattle.theory.proofs.Ranks.{undone}
use Rattle.theory.proofs.Levels.{rank_mono, rank_strict}
use Rattle.theory.proofs.Tops.{no_higher, replicate_right}

-- letters z after a prenecklace: a suffix t z .. is cut below w z .. only if t is below w
top_cut : (z m : ℕ) (t w : List ℕ) → length t ≤ length w → marks_ok (suc z) w ≡ true → (i : ℕ) → Cut (t ++ replicate i z) (w ++ replicate m z) → Cut t w
top_cut z m [] w h k i c = absurd (none i w k c)
  where
    none : (i : ℕ) (w : List ℕ) → marks_ok (suc z) w ≡ true → ¬ Cut (replicate i z) (w ++ replicate m z)
    none zero w k c = elim c [ ]
    none (suc i) [] k c = tops i m c
      where
        tops : (i m : ℕ) → ¬ Cut (z ∷ replicate i z) (replicate m z)
        tops i zero c = elim c [ ]
        tops zero (suc m) c = elim (cut_tail c refl) [ ]
        tops (suc i) (suc m) c = tops i m (cut_tail c refl)
    none (suc i) (b ∷ w) k (differ l) = omega (arith, marks_head (suc z) b w k)
    none (suc i) (b ∷ w) k (agree c) = none i w (marks_tail (suc z) b w k) c
top_cut z m (a ∷ t) [] h k i c = absurd (omega arith)
top_cut z m (a ∷ t) (b ∷ w) h k i (differ l) = differ l
top_cut z m (a ∷ t) (b ∷ w) h k i (agree c) = agree (top_cut z m t w (omega arith) (marks_tail (suc z) b w k) i c)

pub pre_top : (z m : ℕ) (w : List ℕ) → marks_ok (suc z) w ≡ true → Prenecklace w → Prenecklace (w ++ replicate m z)
pre_top z m w k p u v e c = elim (levi w (replicate m z) u v e) [
  | longer t f g ↦ p u t f (top_cut z m t w (omega (arith, ap length f, length-append u t)) k m (subst (λ r. Cut r (w ++ replicate m z)) g c))
  | shorter t f g ↦ nothing (top_cut z m [] w (omega arith) k (length v) (subst (λ r. Cut r (w ++ replicate m z)) (replicate_right m z t v g) c))
]
  where
    nothing : {w : List ℕ} → ¬ Cut [] w
    nothing {w = []} q = elim q [ ]
    nothing {w = b ∷ w} q = elim q [ ]

-- a word that begins with p goes on with a: it is not above p c z z .. just when a is not above c
module _ (z : ℕ) (p : List ℕ) (a : ℕ) (s : List ℕ) (marks : marks_ok (suc z) s ≡ true) where
  pub reached : {c : ℕ} → a ≤ c → Le (p ++ (a ∷ s)) (p ++ (c ∷ replicate (length s) z))
  reached {c} h = le_prefix p (elim (cmp a c) [
    | less l ↦ sooner l
    | equal l ↦ subst (λ r. Le (a ∷ s) (r ∷ replicate (length s) z)) l (further (not_lt (no_higher (length s) z s (omega arith) marks)))
    | more l ↦ absurd (omega arith)
  ])

  pub reached_out : {c : ℕ} → Le (p ++ (a ∷ s)) (p ++ (c ∷ replicate (length s) z)) → a ≤ c
  reached_out {c} h = elim (cmp c a) [
    | less l ↦ absurd (le_not_lt h (cut_lt (cut_at_letter p (replicate (length s) z) s l)))
    | equal l ↦ omega arith
    | more l ↦ omega arith
  ]

-- ranks reach the word of an index just at it
pub rank_reaches : (k n i : ℕ) {w : List ℕ} → 1 ≤ i → i ≤ how_many k n → length w ≡ n → (i ≤ rank k w) ↔ Le (word_of k n i) w
rank_reaches k n i {w} a b e = (λ h. not_lt (λ l. omega (arith, ranked, rank_strict k (e ∙ sym word.0) word.1 word.2 l)), λ l. omega (arith, ranked, rank_mono k (word.0 ∙ sym e) l))
  where
    v : List ℕ
    v = word_of k n i

    word : (length v ≡ n) × (marks_ok k v ≡ true) × (is_lyndon v ≡ true)
    word = undone.index_word k n i a b

    ranked : rank k v ≡ i
    ranked = undone.of_index k n i a b
