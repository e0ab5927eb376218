-- Lyndon words and prenecklaces (document 003, section 1.4): Proposition 7, Lemma 2, Proposition 8, and how z may be appended.
use mathlib.Core.Path.{◌≡◌, refl, sym, ◌∙◌, ap, subst}
use mathlib.Core.Bool.{true}
use mathlib.Core.List.{List, [], ◌∷◌, ◌++◌, append_assoc, append-nil}
use mathlib.Core.Logic.{◌↔◌}
use Prim.Native.Nat.{ℕ, zero, suc, ◌+◌, ◌-◌, ◌≤◌, ◌<◌}
use native.Mathlib.Omega.{arith}
use native.Mathlib.Nat.{lt_of_le_of_lt}
use lib.Dec.{leb}
use lib.ListN.{length, replicate, length-append}
use lib.Seq.{take-append_seam, drop-append_seam}
use borrow.Author.Tests.{leb-true, le-leb}
use Rattle.theory.specs.Words.{below, turned, lyndon_from, is_lyndon}
use Rattle.theory.specs.Prenecklaces.{Cut, differ, agree, Prenecklace}
use Rattle.theory.proofs.Base.{and_l, and_r, and_in, less, equal, more, cmp, upto, over, split, levi, longer, shorter, split_same, unsnoc, parts, cut_at}
use Rattle.theory.proofs.Order.{Lt, Le, prefix, lt_below, below_lt, lt_irrefl, lt_asym, lt_le, lt_le_trans, le_not_lt, lt_unprefix, cut_lt, cut_irrefl, cut_asym, cut_append, lt_cut, cut_below, cut_above, begins, cmp3}

-- each proper suffix is above the word, decided by a letter
pub record Lyndon (w : List ℕ) : Type 0 where
  pub some : 0 < length w
  pub least : (u v : List ℕ) → w ≡ u ++ v → 0 < length u → 0 < length v → Cut w v

-- smallest among its rotations
abbrev pub Necklace : List ℕ → Type 0
Necklace w = (u v : List ℕ) → w ≡ u ++ v → Le w (v ++ u)

-- a rotation of u ++ v, as the specification turns it
pub turned_parts : (u v : List ℕ) → turned (length u) (u ++ v) ≡ v ++ u
turned_parts u v = rw (drop-append_seam, take-append_seam)

-- the test, in and out
from_in : (l i : ℕ) (w : List ℕ) → lyndon_from l i w ≡ true → (j : ℕ) → i ≤ j → j < i + l → Lt w (turned j w)
from_in zero i w h j a b = absurd (omega arith)
from_in (suc l) i w h j a b = elim (cmp i j) [
  | less g ↦ from_in l (suc i) w (and_r (below w (turned i w)) _ h) j (omega arith) (omega arith)
  | equal g ↦ subst (λ r. Lt w (turned r w)) g (below_lt w (turned i w) (and_l _ _ h))
  | more g ↦ absurd (omega arith)
]

from_out : (l i : ℕ) (w : List ℕ) → ((j : ℕ) → i ≤ j → j < i + l → Lt w (turned j w)) → lyndon_from l i w ≡ true
from_out zero i w h = refl
from_out (suc l) i w h =
    and_in (lt_below (h i (omega arith) (omega arith))) (from_out l (suc i) w (λ j a b. h j (omega arith) (omega arith)))

pub lyndon_some : (w : List ℕ) → is_lyndon w ≡ true → 0 < length w
lyndon_some w h = leb-true 1 (length w) (and_l _ _ h)

pub lyndon_turns : (w : List ℕ) → (is_lyndon w ≡ true) ↔ ((1 ≤ length w) × ((r : ℕ) → 1 ≤ r → r < length w → below w (turned r w) ≡ true))
lyndon_turns w = (into, out)
  where
    into : is_lyndon w ≡ true → (1 ≤ length w) × ((r : ℕ) → 1 ≤ r → r < length w → below w (turned r w) ≡ true)
    into h = (lyndon_some w h, λ r a b. lt_below (from_in (length w - 1) 1 w (and_r (leb 1 (length w)) _ h) r a (omega arith)))

    out : (1 ≤ length w) × ((r : ℕ) → 1 ≤ r → r < length w → below w (turned r w) ≡ true) → is_lyndon w ≡ true
    out (h, f) = and_in (le-leb 1 (length w) h) (from_out (length w - 1) 1 w (λ j a b. below_lt w (turned j w) (f j a (omega arith))))

pub lyndon_turned : (u v : List ℕ) → is_lyndon (u ++ v) ≡ true → 0 < length u → 0 < length v → Lt (u ++ v) (v ++ u)
lyndon_turned u v h a b =
    subst (λ r. Lt (u ++ v) r) (turned_parts u v)
    (from_in (length (u ++ v) - 1) 1 (u ++ v) (and_r (leb 1 (length (u ++ v))) _ h) (length u) a
    (omega (arith, length-append u v)))

-- Proposition 7, necessity: a suffix v that begins w = v t would give t < u and u < t
pub lyndon_in : (w : List ℕ) → is_lyndon w ≡ true → Lyndon w
lyndon_in w h = record { some = lyndon_some w h; least = least }
  where
    least : (u v : List ℕ) → w ≡ u ++ v → 0 < length u → 0 < length v → Cut w v
    least u v e a b = elim (cmp3 v w (omega (arith, ap length e, length-append u v))) [
      | cut_below c ↦ absurd (lt_asym (turn u v e a b) (cut_lt (subst (λ r. Cut (v ++ u) r) (append-nil w) (cut_append u [] c))))
      | cut_above c ↦ c
      | begins p ↦ elim p [ prefix t f ↦ absurd (bordered t f) ]
    ]
      where
        turn : (u v : List ℕ) → w ≡ u ++ v → 0 < length u → 0 < length v → Lt w (v ++ u)
        turn u v e a b = subst (λ r. Lt r (v ++ u)) (sym e) (lyndon_turned u v (rw e at h) a b)

        bordered : (t : List ℕ) → w ≡ v ++ t → ⊥
        bordered t f =
            let n : length t ≡ length u = omega (arith, ap length e, ap length f, length-append u v, length-append v t) in
            let one : Lt t u = lt_unprefix v (subst (λ r. Lt r (v ++ u)) f (turn u v e a b)) in
            let two : Lt (u ++ v) (t ++ v) = subst (λ r. Lt r (t ++ v)) e (turn v t f b (omega arith)) in
            lt_irrefl (lt_le_trans (cut_lt (cut_append v v (lt_cut one (omega arith)))) (lt_le two))

-- Proposition 7, sufficiency
pub lyndon_out : {w : List ℕ} → Lyndon w → is_lyndon w ≡ true
lyndon_out {w} l = and_in (le-leb 1 (length w) l.some) (from_out (length w - 1) 1 w each)
  where
    each : (j : ℕ) → 1 ≤ j → j < 1 + (length w - 1) → Lt w (turned j w)
    each j a b = elim (cut_at w j (omega (arith, l.some))) [ parts u v e i ↦ turn u v e i ]
      where
        turn : (u v : List ℕ) → w ≡ u ++ v → length u ≡ j → Lt w (turned j w)
        turn u v e i =
            let c : Cut w (v ++ u) = subst (λ r. Cut r (v ++ u)) (append-nil w) (cut_append [] u (l.least u v e (omega arith) (omega (arith, ap length e, length-append u v, l.some)))) in
            let q : turned j w ≡ v ++ u = ap (λ r. turned r w) (sym i) ∙ ap (turned (length u)) e ∙ turned_parts u v in
            subst (λ r. Lt w r) (sym q) (cut_lt c)

pub one_letter : (a : ℕ) → Lyndon (a ∷ [])
one_letter a = record { some = omega arith; least = λ u v e f g. absurd (omega (arith, ap length e, length-append u v)) }

-- a Lyndon word is a prenecklace; so is each prefix of one; so is a necklace
pub lyndon_pre : {w : List ℕ} → Lyndon w → Prenecklace w
lyndon_pre {w} l [] v e c = cut_irrefl (subst (λ r. Cut r w) (sym e) c)
lyndon_pre {w} l (x ∷ u) [] e c = elim c [ ]
lyndon_pre {w} l (x ∷ u) (y ∷ v) e c = cut_asym c (l.least (x ∷ u) (y ∷ v) e (omega arith) (omega arith))

pub pre_prefix : (p s : List ℕ) → Prenecklace (p ++ s) → Prenecklace p
pre_prefix p s h u v e c = h u (v ++ s) (ap (λ r. r ++ s) e ∙ append_assoc u v s) (cut_append s s c)

pub necklace_pre : {w : List ℕ} → Necklace w → Prenecklace w
necklace_pre {w} h u v e c =
    le_not_lt (h u v e) (cut_lt (subst (λ r. Cut (v ++ u) r) (append-nil w) (cut_append u [] c)))

-- Lemma 2: raise the last letter of a prenecklace
lift : (t p : List ℕ) {a b : ℕ} → length t < length p → ¬ Cut (t ++ (a ∷ [])) p → a < b → Cut p (t ++ (b ∷ []))
lift [] [] h n l = absurd (omega arith)
lift [] (c ∷ p) {a} {b} h n l = elim (split c a) [ upto g ↦ differ (lt_of_le_of_lt g l) | over g ↦ absurd (n (differ g)) ]
lift (x ∷ t) [] h n l = absurd (omega arith)
lift (x ∷ t) (c ∷ p) {a} {b} h n l = elim (cmp x c) [
  | less g ↦ absurd (n (differ g))
  | equal g ↦ subst (λ r. Cut (r ∷ p) (x ∷ (t ++ (b ∷ [])))) g
      (agree (lift t p (omega arith) (λ q. n (subst (λ r. Cut (x ∷ (t ++ (a ∷ []))) (r ∷ p)) g (agree q))) l))
  | more g ↦ differ g
]

pub raise_last : (p : List ℕ) (a b : ℕ) → Prenecklace (p ++ (a ∷ [])) → a < b → Lyndon (p ++ (b ∷ []))
raise_last p a b h l = record { some = omega (arith, length-append p (b ∷ [])); least = least }
  where
    least : (u v : List ℕ) → p ++ (b ∷ []) ≡ u ++ v → 0 < length u → 0 < length v → Cut (p ++ (b ∷ [])) v
    least u v e f g = last (unsnoc v g)
      where
        last : (t : List ℕ) × (c : ℕ) × (v ≡ t ++ (c ∷ [])) → Cut (p ++ (b ∷ [])) v
        last (t, c, i) = rw i (rw (← (head_eq)) (subst (λ r. Cut (p ++ (b ∷ [])) r) (append-nil (t ++ (b ∷ [])))
            (cut_append (b ∷ []) [] (lift t p (omega (arith, ap length q.0, length-append u t)) (λ k. h u (t ++ (a ∷ [])) whole (subst (λ r. Cut r (p ++ (a ∷ []))) (append-nil (t ++ (a ∷ []))) (cut_append [] (a ∷ []) k))) l))))
          where
            q : (p ≡ u ++ t) × (b ∷ [] ≡ c ∷ [])
            q = split_same p (b ∷ []) (u ++ t) (c ∷ []) (e ∙ ap (λ r. u ++ r) i ∙ sym (append_assoc u t (c ∷ [])))
                (omega (arith, ap length e, ap length i, length-append p (b ∷ []), length-append u v, length-append u t, length-append t (c ∷ [])))

            head_eq : b ≡ c
            head_eq = ap (λ r. lib.ListN.get_or r 0 0) q.1

            whole : p ++ (a ∷ []) ≡ u ++ (t ++ (a ∷ []))
            whole = ap (λ r. r ++ (a ∷ [])) q.0 ∙ append_assoc u t (a ∷ [])

-- a Lyndon word that begins with a letter below z stays one with letters z appended
pub append_last : (c : ℕ) (l : List ℕ) (z : ℕ) → c < z → Lyndon (c ∷ l) → Lyndon ((c ∷ l) ++ (z ∷ []))
append_last c l z h w = record { some = omega arith; least = least }
  where
    least : (u v : List ℕ) → (c ∷ l) ++ (z ∷ []) ≡ u ++ v → 0 < length u → 0 < length v → Cut ((c ∷ l) ++ (z ∷ [])) v
    least u v e f g = elim (levi (c ∷ l) (z ∷ []) u v e) [ longer t i j ↦ inside t i j | shorter t i j ↦ beyond t i j ]
      where
        inside : (t : List ℕ) → c ∷ l ≡ u ++ t → v ≡ t ++ (z ∷ []) → Cut ((c ∷ l) ++ (z ∷ [])) v
        inside [] i j = rw j (differ h)
        inside (x ∷ t) i j = rw j (cut_append (z ∷ []) (z ∷ []) (w.least u (x ∷ t) i f (omega arith)))

        beyond : (t : List ℕ) → u ≡ (c ∷ l) ++ t → z ∷ [] ≡ t ++ v → Cut ((c ∷ l) ++ (z ∷ [])) v
        beyond [] i j = rw (← j) (differ h)
        beyond (x ∷ t) i j = absurd (omega (arith, ap length j, length-append t v))

pub append_top : (c : ℕ) (l : List ℕ) (z i : ℕ) → c < z → Lyndon (c ∷ l) → Lyndon ((c ∷ l) ++ replicate i z)
append_top c l z zero h w = rw append-nil w
append_top c l z (suc i) h w =
    subst Lyndon (append_assoc (c ∷ l) (z ∷ []) (replicate i z)) (append_top c (l ++ (z ∷ [])) z i h (append_last c l z h w))

-- a nonempty word is kept, what follows it and is not all z becomes all z (false for q = []: 01 would give 11)
pub fill_top : (q r : List ℕ) (a z s : ℕ) → 0 < length q → a < z → Prenecklace (q ++ (replicate s z ++ (a ∷ r)))
    → Lyndon (q ++ replicate (s + suc (length r)) z)
fill_top [] r a z s h l w = absurd (omega arith)
fill_top (c ∷ q) r a z s h l w =
    subst Lyndon same_word (append_top c (q ++ (replicate s z ++ (z ∷ []))) z (length r) first raised)
  where
    front : (b : ℕ) → (c ∷ q) ++ (replicate s z ++ (b ∷ [])) ≡ ((c ∷ q) ++ replicate s z) ++ (b ∷ [])
    front b = sym (append_assoc (c ∷ q) (replicate s z) (b ∷ []))

    pre : Prenecklace (((c ∷ q) ++ replicate s z) ++ (a ∷ []))
    pre = pre_prefix (((c ∷ q) ++ replicate s z) ++ (a ∷ [])) r (subst Prenecklace (simp append_assoc) w)

    raised : Lyndon ((c ∷ q) ++ (replicate s z ++ (z ∷ [])))
    raised = subst Lyndon (sym (front z)) (raise_last ((c ∷ q) ++ replicate s z) a z pre l)

    first : c < z
    first = elim (split c a) [ upto g ↦ lt_of_le_of_lt g l | over g ↦ absurd (pre ((c ∷ q) ++ replicate s z) (a ∷ []) refl (differ g)) ]

    tops : (i j : ℕ) → replicate i z ++ ((z ∷ []) ++ replicate j z) ≡ replicate (i + suc j) z
    tops i j = lib.ListN.replicate-append-replicate i (suc j) z

    same_word : (c ∷ (q ++ (replicate s z ++ (z ∷ [])))) ++ replicate (length r) z ≡ (c ∷ q) ++ replicate (s + suc (length r)) z
    same_word = ap (λ r. c ∷ r) (append_assoc q (replicate s z ++ (z ∷ [])) (replicate (length r) z) ∙ ap (λ x. q ++ x) (append_assoc (replicate s z) (z ∷ []) (replicate (length r) z) ∙ tops s (length r)))
