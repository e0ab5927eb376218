-- A word found letter by letter: the least one that passes a test which, once passed, all larger words pass.
use Rattle.std.specs.Prelude.{Bool, true, false, List, [], ◌∷◌, ◌++◌, ℕ, zero, suc, ◌-◌, replicate}

-- the least letter c from a on, of the next l, for which p c z z .. passes; m letters z follow
abbrev pub least_letter : ℕ → ℕ → (List ℕ → Bool) → List ℕ → ℕ → ℕ → ℕ
least_letter zero a test p m z = a
least_letter (suc l) a test p m z = elim (test (p ++ (a ∷ replicate m z))) [ true ↦ a | false ↦ least_letter l (suc a) test p m z ]

-- m more letters after p
abbrev pub least_word : ℕ → (List ℕ → Bool) → List ℕ → ℕ → List ℕ
least_word k test p zero = p
least_word k test p (suc m) = least_word k test (p ++ (least_letter (k - 1) 0 test p m (k - 1) ∷ [])) m
