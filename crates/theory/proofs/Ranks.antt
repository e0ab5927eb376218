-- Rank and word of an index undo each other: in an ascending list, as many members do not exceed a member as stand up to it.
use mathlib.Core.Path.{◌≡◌, refl, sym, ◌∙◌, ap, subst}
use mathlib.Core.Bool.{true}
use mathlib.Core.List.{List, [], ◌∷◌, ◌++◌, append_assoc, append-nil}
use mathlib.Core.Logic.{◌⊎◌, inl, inr}
use Prim.Native.Nat.{ℕ, suc, ◌-◌, ◌≤◌, ◌<◌}
use native.Mathlib.Omega.{arith}
use lib.ListN.{length, get_or, take, drop, length-append}
use lib.Seq.{split_at, length-take-le}
use Rattle.theory.specs.Words.{up_to, is_lyndon, keep, lyndons, how_many, rank, word_of, marks_ok}
use Rattle.theory.specs.Lists.{In, Ascending}
use Rattle.theory.specs.Theorems.{Undone}
use Rattle.theory.proofs.Order.{Le, eq_le, lt_le, le_up_to, lt_not_up_to}
use Rattle.theory.proofs.Lists.{getD_in, index, in_index, ascend_before, ascend_after, in_rest, keep_split}
use Rattle.theory.proofs.Listed.{lyndon_words, lyndon_ascend}

module _ (a : List (List ℕ)) (u : List ℕ) (b : List (List ℕ)) (up : Ascending (a ++ (u ∷ b))) where
  pub kept_up_to : keep (λ v. up_to v u) (a ++ (u ∷ b)) ≡ a ++ (u ∷ [])
  kept_up_to =
      ap (keep (λ v. up_to v u)) (sym (append_assoc a (u ∷ []) b))
      ∙ keep_split (λ v. up_to v u) (a ++ (u ∷ [])) b (λ v i. le_up_to (to v (in_rest a [] i))) (λ v i. lt_not_up_to (ascend_after a b up v i))
    where
      to : (v : List ℕ) → (v ≡ u) ⊎ In v (a ++ []) → Le v u
      to v (inl e) = eq_le e
      to v (inr i) = lt_le (ascend_before a b up v (rw append-nil at i))

  pub up_to_count : length (keep (λ v. up_to v u) (a ++ (u ∷ b))) ≡ suc (length a)
  up_to_count = omega (arith, ap length kept_up_to, length-append a (u ∷ []))

-- the member at an index has that index, counted from 1
pub count_at : (ws : List (List ℕ)) (j : ℕ) → Ascending ws → j < length ws → length (keep (λ v. up_to v (get_or ws j [])) ws) ≡ suc j
count_at ws j up h =
    let u = get_or ws j [] in
    let e : ws ≡ take j ws ++ (u ∷ drop (suc j) ws) = split_at ws j [] h in
    ap (λ r. length (keep (λ v. up_to v u) r)) e ∙ up_to_count (take j ws) u (drop (suc j) ws) (subst Ascending e up)
    ∙ ap suc (length-take-le j ws (omega arith))

-- a member's count is the index at which it stands, counted from 1
pub data Counted (u : List ℕ) (ws : List (List ℕ)) (c : ℕ) : Type 0 where
  counted : (j : ℕ) → c ≡ suc j → j < length ws → get_or ws j [] ≡ u → Counted u ws c

pub count_of : (u : List ℕ) (ws : List (List ℕ)) → Ascending ws → In u ws → Counted u ws (length (keep (λ v. up_to v u) ws))
count_of u ws up i = elim (in_index [] i) [ index j h e ↦ counted j (ap (λ r. length (keep (λ v. up_to v r) ws)) (sym e) ∙ count_at ws j up h) h e ]

pub index_word : (k n i : ℕ) → 1 ≤ i → i ≤ how_many k n
    → (length (word_of k n i) ≡ n) × (marks_ok k (word_of k n i) ≡ true) × (is_lyndon (word_of k n i) ≡ true)
index_word k n i p q = (lyndon_words k n (word_of k n i)).0 (getD_in (lyndons k n) (i - 1) [] (omega arith))

pub of_index : (k n i : ℕ) → 1 ≤ i → i ≤ how_many k n → rank k (word_of k n i) ≡ i
of_index k n i p q =
    let h : i - 1 < length (lyndons k n) = omega arith in
    ap (λ m. length (keep (λ v. up_to v (word_of k n i)) (lyndons k m))) (index_word k n i p q).0
    ∙ omega (arith, count_at (lyndons k n) (i - 1) (lyndon_ascend k n) h)

module _ (k : ℕ) (w : List ℕ) (ok : marks_ok k w ≡ true) (lyndon : is_lyndon w ≡ true) where
  ranked : Counted w (lyndons k (length w)) (rank k w)
  ranked = count_of w (lyndons k (length w)) (lyndon_ascend k (length w)) ((lyndon_words k (length w) w).1 (refl, ok, lyndon))

  pub of_word : word_of k (length w) (rank k w) ≡ w
  of_word = elim ranked [ counted j c h e ↦ let d : rank k w - 1 ≡ j = omega arith in ap (λ r. get_or (lyndons k (length w)) r []) d ∙ e ]

  pub rank_range : (1 ≤ rank k w) × (rank k w ≤ how_many k (length w))
  rank_range = elim ranked [ counted j c h e ↦ omega arith ]

pub undone : Undone
undone = record { of_index = of_index; index_word = index_word; of_word = of_word; rank_range = rank_range }
