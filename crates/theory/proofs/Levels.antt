-- Counts of what does not exceed a word: rank and the size of CS grow with the word, and are whole at the word of k−1 alone.
use mathlib.Core.Path.{◌≡◌, refl, sym, ◌∙◌, ap, subst}
use mathlib.Core.Bool.{true}
use mathlib.Core.List.{List, ◌∷◌}
use Prim.Native.Nat.{ℕ, suc, ◌-◌, ◌^◌, ◌≤◌, ◌<◌}
use native.Mathlib.Omega.{arith}
use lib.ListN.{length, replicate, length-replicate}
use Rattle.theory.specs.Words.{up_to, is_lyndon, smallest, keep, all_words, lyndons, how_many, rank, marks_ok}
use Rattle.theory.specs.Lists.{In, here, there, Once}
use Rattle.theory.specs.Sums.{cs}
use Rattle.theory.proofs.Order.{Lt, Le, le_up_to, up_to_le, le_trans, lt_le, le_refl, le_not_lt}
use Rattle.theory.proofs.Lists.{keep_in, in_keep, keep_all, keep_once, ascend_once}
use Rattle.theory.proofs.Counts.{keep-length, once_le}
use Rattle.theory.proofs.Listed.{all_words_lem, all_ascend, all_count, lyndon_words, lyndon_ascend}
use Rattle.theory.proofs.Necklaces.{smallest-length, smallest-marks}
use Rattle.theory.proofs.Tops.{top_le}

-- counts of what does not exceed a word grow with the word, and are whole at z z ..
module _ {A : Type 0} (g : A → List ℕ) (xs : List A) (once : Once xs) where
  up_to_mono : {u v : List ℕ} → Le u v → length (keep (λ x. up_to (g x) u) xs) ≤ length (keep (λ x. up_to (g x) v) xs)
  up_to_mono {u} {v} l = once_le _ _ (keep_once (λ x. up_to (g x) u) xs once) (λ x i. let r = keep_in (λ x. up_to (g x) u) xs i in in_keep (λ x. up_to (g x) v) r.0 (le_up_to (le_trans (up_to_le (g x) u r.1) l)))

  up_to_all : {w : List ℕ} → ((x : A) → In x xs → Le (g x) w) → length (keep (λ x. up_to (g x) w) xs) ≡ length xs
  up_to_all {w} h = ap length (keep_all (λ x. up_to (g x) w) xs (λ x i. le_up_to (h x i)))

pub rank_mono : (k : ℕ) {u v : List ℕ} → length u ≡ length v → Le u v → rank k u ≤ rank k v
rank_mono k {u} {v} e l =
    subst (λ m. length (keep (λ x. up_to x u) (lyndons k m)) ≤ rank k v) (sym e)
    (up_to_mono (λ x. x) (lyndons k (length v)) (ascend_once (lyndons k (length v)) (lyndon_ascend k (length v))) l)

pub cs_mono : (k : ℕ) {u v : List ℕ} → length u ≡ length v → Le u v → cs k u ≤ cs k v
cs_mono k {u} {v} e l =
    subst (λ m. length (keep (λ x. up_to (smallest x) u) (all_words k m)) ≤ cs k v) (sym e)
    (up_to_mono smallest (all_words k (length v)) (ascend_once (all_words k (length v)) (all_ascend k (length v))) l)

pub rank_top : (k n : ℕ) → rank k (replicate n (k - 1)) ≡ how_many k n
rank_top k n =
    ap (λ m. length (keep (λ x. up_to x (replicate n (k - 1))) (lyndons k m))) (length-replicate n (k - 1))
    ∙ up_to_all (λ x. x) (lyndons k n) (ascend_once (lyndons k n) (lyndon_ascend k n)) (λ x i. let r = (lyndon_words k n x).0 i in top_le k n x r.0 r.1)

pub rank_most : (k : ℕ) (w : List ℕ) → rank k w ≤ how_many k (length w)
rank_most k w = keep-length (λ x. up_to x w) (lyndons k (length w))

pub cs_top : (k n : ℕ) → cs k (replicate n (k - 1)) ≡ k ^ n
cs_top k n =
    ap (λ m. length (keep (λ x. up_to (smallest x) (replicate n (k - 1))) (all_words k m))) (length-replicate n (k - 1))
    ∙ up_to_all smallest (all_words k n) (ascend_once (all_words k n) (all_ascend k n)) (λ x i. let r = (all_words_lem k n x).0 i in top_le k n (smallest x) (smallest-length x ∙ r.0) (smallest-marks k x r.1))
    ∙ all_count k n

pub cs_small : (k : ℕ) (w : List ℕ) → cs k w ≤ k ^ length w
cs_small k w = omega (arith, keep-length (λ u. up_to (smallest u) w) (all_words k (length w)), all_count k (length w))

-- a Lyndon word has a larger rank than all words below it
pub rank_strict : (k : ℕ) {w v : List ℕ} → length w ≡ length v → marks_ok k v ≡ true → is_lyndon v ≡ true → Lt w v → rank k w < rank k v
rank_strict k {w} {v} e m h l = subst (λ j. suc (length (keep (λ x. up_to x w) (lyndons k j))) ≤ rank k v) (sym e) (once_le (v ∷ lower) (keep (λ x. up_to x v) ws) (new, keep_once (λ x. up_to x w) ws once) inside)
  where
    ws : List (List ℕ)
    ws = lyndons k (length v)

    lower : List (List ℕ)
    lower = keep (λ x. up_to x w) ws

    once : Once ws
    once = ascend_once ws (lyndon_ascend k (length v))

    new : ¬ In v lower
    new i = le_not_lt (up_to_le v w (keep_in (λ x. up_to x w) ws i).1) l

    inside : (x : List ℕ) → In x (v ∷ lower) → In x (keep (λ x. up_to x v) ws)
    inside x (here q) = subst (λ y. In y (keep (λ x. up_to x v) ws)) (sym q) (in_keep (λ x. up_to x v) ((lyndon_words k (length v) v).1 (refl, m, h)) (le_up_to (le_refl v)))
    inside x (there i) = let r = keep_in (λ x. up_to x w) ws i in in_keep (λ x. up_to x v) r.0 (le_up_to (le_trans (up_to_le x w r.1) (lt_le l)))
