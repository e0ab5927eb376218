-- The step from one Lyndon word of length at most n to the next, and back (document 003, section 1.4.2).
use Rattle.std.specs.Prelude.{true, false, List, [], ◌∷◌, ◌++◌, ℕ, zero, suc, ◌-◌, ltb, length, take, drop, replicate}
use Rattle.theory.specs.Words.{pick, same, is_lyndon, repeated}

-- the first m letters of u u u ..: document 003's m-extension of u
abbrev pub extension : ℕ → List ℕ → List ℕ
extension m u = take m (repeated m u)

-- the last letters k−1 cut off, the letter before them raised by one; nothing where every letter is k−1
abbrev pub raised : ℕ → List ℕ → List ℕ
raised k [] = []
raised k (a ∷ w) = elim (raised k w) [ [] ↦ pick (ltb (suc a) k) (suc a ∷ []) [] | b ∷ v ↦ a ∷ (b ∷ v) ]

abbrev pub next_lyndon : ℕ → ℕ → List ℕ → List ℕ
next_lyndon k n x = raised k (extension n x)

-- the last letter lowered by one
abbrev pub lowered : List ℕ → List ℕ
lowered [] = []
lowered (a ∷ []) = (a - 1) ∷ []
lowered (a ∷ (b ∷ w)) = a ∷ lowered (b ∷ w)

-- the shortest period of a word
abbrev pub period_from : ℕ → ℕ → List ℕ → ℕ
period_from zero d w = d
period_from (suc l) d w = elim (same (drop d w) (take (length w - d) w)) [ true ↦ d | false ↦ period_from l (suc d) w ]

abbrev pub period : List ℕ → ℕ
period w = period_from (length w) 1 w

-- the length of the Lyndon word that w extends; 0 if w extends none, so that it is no prenecklace
abbrev pub pre_period : List ℕ → ℕ
pre_period w = pick (is_lyndon (take (period w) w)) (period w) 0

-- the word before y: y with its last letter lowered, filled up with k−1 to length n, is its extension
abbrev pub previous_lyndon : ℕ → ℕ → List ℕ → List ℕ
previous_lyndon k n y = let c = lowered y ++ replicate (n - length y) (k - 1) in take (period c) c

-- the same, and nothing before 0, which is the first
abbrev pub word_before : ℕ → ℕ → List ℕ → List ℕ
word_before k n y = pick (same y (0 ∷ [])) [] (previous_lyndon k n y)
