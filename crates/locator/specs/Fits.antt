-- Letters at the start of a word; the first fit of a window in a text; the necklace from whose root word on a window is looked for.
use Rattle.std.specs.Prelude.{List, [], ◌∷◌, ℕ, zero, suc, ◌+◌, ◌-◌, ◌≤◌, eqb, ltb, length, take, drop}
use Rattle.buffers.specs.Buffers.{filled}
use Rattle.floors.specs.Lowering.{Lowerable}
use Rattle.theory.specs.Words.{pick, same}
use Rattle.theory.specs.Floors.{necklace_below}

-- how many letters b stand at the start
abbrev pub leading : ℕ → List ℕ → ℕ
leading b [] = 0
leading b (a ∷ w) = pick (eqb a b) (suc (leading b w)) 0

-- the first offset from p on, of the next l, at which w stands in the text; p + l if there is none
abbrev pub fit_from : ℕ → ℕ → List ℕ → List ℕ → ℕ
fit_from zero p text w = p
fit_from (suc l) p text w = pick (same (take (length w) (drop p text)) w) p (fit_from l (suc p) text w)

abbrev pub first_fit : List ℕ → List ℕ → ℕ
first_fit text w = fit_from (length text - length w + 1) 0 text w

-- a word with zeros for its last letters, as many as the turn: of γ α that is γ 0 .. 0
abbrev pub cleared : ℕ → List ℕ → List ℕ
cleared turn v = filled 0 (length v - turn) v

-- the turn is within the word; where a word is lowered, there is one below it
pub record Based (k turn lead : ℕ) (v : List ℕ) : Type 0 where
  pub inside : turn ≤ length v
  pub lowers : turn ≤ lead → Lowerable k (cleared turn v)

abbrev pub base_of : ℕ → ℕ → ℕ → List ℕ → List ℕ
base_of k turn lead v = pick (ltb lead turn) v (necklace_below k (cleared turn v))
