-- Words passed: a step passes one Lyndon word of length at most n, so from a ring's word to its next, and to the one before, at most n are passed.
use mathlib.Core.Path.{◌≡◌, ◌∙◌, ap, subst}
use mathlib.Core.Bool.{Bool, true}
use mathlib.Core.List.{List, [], ◌∷◌}
use mathlib.Core.Logic.{inl, inr, ◌≢◌}
use Prim.Native.Nat.{ℕ, zero, suc, ◌+◌, ◌-◌, ◌≤◌, ◌<◌}
use native.Mathlib.Omega.{arith}
use lib.ListN.{length}
use Rattle.theory.specs.Words.{below, up_to}
use Rattle.theory.specs.Lists.{In}
use Rattle.theory.specs.Rings.{lyndons_up, ring_words, Allowed, passed_by, passed_back}
use Rattle.theory.specs.Steps.{next_lyndon}
use Rattle.theory.specs.Theorems.{Steps}
use Rattle.theory.proofs.Base.{less, equal, more, cmp}
use Rattle.theory.proofs.Order.{Lt, Le, lt_below, below_lt, lt_trans, le_cases, not_lt, le_not_lt, le_up_to, up_to_le}
use Rattle.theory.proofs.Lyndon.{lyndon_some}
use Rattle.theory.proofs.Listed.{lyndon_up_words, ring_words_lem}
use Rattle.theory.proofs.Tops.{one_less}
use Rattle.theory.proofs.Next.{member_in, none_above}
use Rattle.theory.proofs.Steps.{steps}

-- a word below another of the list is not the last letter
pub not_top : (k n : ℕ) {u v : List ℕ} → 2 ≤ k → In v (lyndons_up k n) → Lt u v → u ≢ (k - 1) ∷ []
not_top zero n h i l e = omega arith
not_top (suc z) n {u} {v} h i l e = none_above (member_in z n i) (subst (λ r. Lt r v) (e ∙ ap (λ r. r ∷ []) (one_less z)) l)

-- one step on the way from x to v
data On (k n : ℕ) (x v : List ℕ) : Type 0 where
  on : (y : List ℕ) → In y (lyndons_up k n) → Lt x y → Le y v → (length x < n → length x < length y)
      → passed_by x v (lyndons_up k n) ≡ suc (passed_by y v (lyndons_up k n)) → On k n x v

on_step : {k n : ℕ} → 2 ≤ k → Steps k n → {x v : List ℕ} → In x (lyndons_up k n) → In v (lyndons_up k n) → Lt x v → On k n x v
on_step {k} {n} h s {x} {v} i j l =
    let top : x ≢ (k - 1) ∷ [] = not_top k n h j l in
    let near : up_to (next_lyndon k n x) v ≡ true = s.next_least x v i j (lt_below l) in
    on (next_lyndon k n x) (s.next_in x i top) (below_lt x (next_lyndon k n x) (s.next_larger x i top)) (up_to_le (next_lyndon k n x) v near) (s.next_longer x i top) (s.passed_step x v i top near)

-- the ring's words are words of the list; those of length n, which is allowed, are the ring's
pub ring_listed : (ok : ℕ → Bool) (k n : ℕ) {w : List ℕ} → In w (ring_words ok k n) → In w (lyndons_up k n)
ring_listed ok k n {w} i = let r = (ring_words_lem ok k n w).0 i in (lyndon_up_words k n w).1 (r.0, r.1, r.2)

pub full_in_ring : (ok : ℕ → Bool) (k n : ℕ) {w : List ℕ} → Allowed n ok → In w (lyndons_up k n) → length w ≡ n → In w (ring_words ok k n)
full_in_ring ok k n {w} a i e =
    let r = (lyndon_up_words k n w).0 i in
    (ring_words_lem ok k n w).1 (r.0, r.1, r.2, ap ok e ∙ a.whole)

-- from a word u to v, up to which no word of the ring is between: after the first step each goes to a longer word, until length n is reached
module _ (ok : ℕ → Bool) (k n : ℕ) (h : 2 ≤ k) (g : 1 ≤ n) (a : Allowed n ok) (u v : List ℕ) (i : In v (lyndons_up k n))
    (nearest : (y : List ℕ) → In y (ring_words ok k n) → below u y ≡ true → up_to v y ≡ true) where
  passed_from_lem : (fuel : ℕ) (x : List ℕ) → n < length x + fuel → In x (lyndons_up k n) → Lt u x → Le x v → passed_by x v (lyndons_up k n) + length x ≤ n
  passed_from_lem zero x f j p q = absurd (omega (arith, ((lyndon_up_words k n x).0 j).0))
  passed_from_lem (suc fuel) x f j p q = elim (le_cases q) [
    | inl r ↦ elim (on_step h (steps k n h g) j i r) [ on y c d b e m ↦ omega (arith, m, e (shorter r), passed_from_lem fuel y (omega (arith, e (shorter r))) c (lt_trans p d) b) ]
    | inr r ↦ omega (arith, ap (λ w. passed_by w v (lyndons_up k n)) r ∙ (steps k n h g).passed_none v, ((lyndon_up_words k n x).0 j).0)
  ]
    where
      shorter : Lt x v → length x < n
      shorter r = elim (cmp (length x) n) [
        | less e ↦ e
        | equal e ↦ absurd (le_not_lt (up_to_le v x (nearest x (full_in_ring ok k n a j e) (lt_below p))) r)
        | more e ↦ absurd (omega (arith, ((lyndon_up_words k n x).0 j).0))
      ]

-- no more than n words are passed from u to v if no word of the ring is between; and from v down to u
module _ (ok : ℕ → Bool) (k n : ℕ) (h : 2 ≤ k) (g : 1 ≤ n) (a : Allowed n ok) where
  pub passed_few : (u v : List ℕ) → In u (lyndons_up k n) → In v (lyndons_up k n) → below u v ≡ true
      → ((y : List ℕ) → In y (ring_words ok k n) → below u y ≡ true → up_to v y ≡ true) → passed_by u v (lyndons_up k n) ≤ n
  passed_few u v i j l f =
      elim (on_step h (steps k n h g) i j (below_lt u v l)) [
        | on y c d b e m ↦ omega (arith, m, lyndon_some y ((lyndon_up_words k n y).0 c).2, passed_from_lem ok k n h g a u v j f (suc n) y (omega arith) c d b)
      ]

  pub passed_few_back : (v u : List ℕ) → In v (lyndons_up k n) → In u (lyndons_up k n) → below u v ≡ true
      → ((y : List ℕ) → In y (ring_words ok k n) → below y v ≡ true → up_to y u ≡ true) → passed_back v u (lyndons_up k n) ≤ n
  passed_few_back v u j i l f =
      let same_count : passed_back v u (lyndons_up k n) ≡ passed_by u v (lyndons_up k n) = rw l at ((steps k n h g).passed_back_lem u v i j) in
      omega (arith, same_count, passed_few u v i j l (λ y m q. le_up_to {u = v} {v = y} (not_lt (λ r. le_not_lt (up_to_le y u (f y m (lt_below r))) (below_lt u y q)))))
