-- Document 004's automaton for CS(w) (section 4). A state is what is left of w to be read: w itself is the state of the empty prefix,
-- [] the accepting one. A letter equal to the next one of w goes on, a smaller one accepts, a larger one goes back to w.
use Rattle.std.specs.Prelude.{List, [], ◌∷◌, ℕ, zero, suc, ◌+◌, ◌-◌, eqb, ltb, length, drop}
use Rattle.theory.specs.Words.{pick, same, keep, all_words}

abbrev pub moved : List ℕ → List ℕ → ℕ → List ℕ
moved w [] c = []
moved w (a ∷ r) c = pick (ltb c a) [] (pick (eqb c a) r w)

abbrev pub run : List ℕ → List ℕ → List ℕ → List ℕ
run w r [] = r
run w r (c ∷ x) = run w (moved w r c) x

-- the number of words of length l that lead from the state of the prefix of length s back to w
abbrev pub returning : ℕ → List ℕ → ℕ → ℕ → ℕ
returning k w s l = length (keep (λ x. same (run w (drop s w) x) w) (all_words k l))

-- these numbers along an antidiagonal: states below q, lengths that fill up d
abbrev pub paths_to : ℕ → List ℕ → ℕ → ℕ → ℕ
paths_to k w d zero = 0
paths_to k w d (suc q) = returning k w q (d - q) + paths_to k w d q
