-- The largest necklace not above a word, and the largest below it (document 004, Lemma 5): as a search, and as a rule that computes it.
use Rattle.std.specs.Prelude.{Bool, true, false, ◌&&◌, List, [], ◌∷◌, ◌++◌, ℕ, zero, suc, ◌-◌, ltb, length, get_or, take, replicate}
use Rattle.theory.specs.Words.{same, below, up_to, smallest, keep, all_words}

-- equal to its own smallest rotation
abbrev pub is_necklace : List ℕ → Bool
is_necklace w = same (smallest w) w

abbrev pub last_of : List (List ℕ) → List ℕ
last_of [] = []
last_of (w ∷ []) = w
last_of (w ∷ (v ∷ ws)) = last_of (v ∷ ws)

abbrev pub necklace_up_to : ℕ → List ℕ → List ℕ
necklace_up_to k w = last_of (keep (λ u. is_necklace u && up_to u w) (all_words k (length w)))

abbrev pub necklace_below : ℕ → List ℕ → List ℕ
necklace_below k w = last_of (keep (λ u. is_necklace u && below u w) (all_words k (length w)))

-- the letter at i lowered by one, k−1 after it; the last of these words that is a necklace, of those for the letters before i
abbrev pub lowered_at : ℕ → List ℕ → ℕ → List ℕ
lowered_at k w i = take i w ++ ((get_or w i 0 - 1) ∷ replicate (length w - suc i) (k - 1))

abbrev pub floor_from : ℕ → List ℕ → ℕ → List ℕ
floor_from k w zero = []
floor_from k w (suc i) = elim (ltb 0 (get_or w i 0) && is_necklace (lowered_at k w i)) [ true ↦ lowered_at k w i | false ↦ floor_from k w i ]
