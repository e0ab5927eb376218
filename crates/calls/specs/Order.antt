-- The one order in which refusals are given, and the number that it picks of those that apply. A call's rules (demands' Refused) say for each of its
-- numbers when it applies.
use Rattle.std.specs.Prelude.{Bool, false, ◌&&◌, ◌||◌, List, [], ◌∷◌, ℕ, eqb}
use Rattle.theory.specs.Words.{pick}

abbrev pub order : List ℕ
order = 7 ∷ 1 ∷ 12 ∷ 8 ∷ 14 ∷ 15 ∷ 10 ∷ 2 ∷ 11 ∷ 3 ∷ 16 ∷ 4 ∷ 13 ∷ 5 ∷ 9 ∷ 6 ∷ []

-- a number, and whether it applies
pub record Rule : Type 0 where
  pub number : ℕ
  pub applies : Bool

abbrev pub rule : ℕ → Bool → Rule
rule f b = record { number = f; applies = b }

-- does a number apply, by one of the rules?
abbrev pub applies_in : ℕ → List Rule → Bool
applies_in f [] = false
applies_in f (x ∷ xs) = (eqb f x.number && x.applies) || applies_in f xs

-- the first of some numbers that applies; 0 if none does
abbrev pub first_by : List ℕ → List Rule → ℕ
first_by [] rules = 0
first_by (f ∷ fs) rules = pick (applies_in f rules) f (first_by fs rules)

abbrev pub given : List Rule → ℕ
given rules = first_by order rules
