-- A word searched for letter by letter: the Lyndon word of an index, or the necklace that holds a position of the strip.
use Rattle.std.specs.Prelude.{◌≡◌, List, [], ◌∷◌, ◌++◌, ℕ, suc, ◌+◌, ◌-◌, ◌≤◌, ◌<◌, eqb, ltb, get_or, take, drop, set, replicate}
use Rattle.theory.specs.Prenecklaces.{Prenecklace}
use Rattle.theory.specs.Words.{pick, how_many, word_of}
use Rattle.theory.specs.Sums.{cs}
use Rattle.theory.specs.Search.{least_word}
use Rattle.shape.specs.declared.Strip as DS
use Rattle.shape.specs.Shapes.{WordOn}
use Rattle.search.specs.declared.Goal.{Goal}
use Rattle.search.specs.declared.Goal.TheVariants.{Index, Position}

-- the goal is one of the strip
abbrev pub Within : DS.Strip → Goal → Type 0
Within s (Index i) = (1 ≤ i) × (i ≤ how_many s.k s.n)
Within s (Position p) = p < s.size

-- the word to be found: the i-th Lyndon word, or the least word whose CS has more than p words
abbrev pub goal_word : ℕ → ℕ → Goal → List ℕ
goal_word k n (Index i) = word_of k n i
goal_word k n (Position p) = least_word k (λ w. ltb p (cs k w)) [] n

-- before a letter is searched: the word begins with the first j letters, its next is at least `from`, k−1 stands after it, and each
-- letter from `from` on makes a prenecklace
pub record Searching (s : DS.Strip) (goal : Goal) (w : List ℕ) (j from : ℕ) : Type 0 where
  pub word : WordOn s w
  pub goal_in : Within s goal
  pub at : j < s.n
  pub rest : drop (suc j) w ≡ replicate (s.n - suc j) (s.k - 1)
  pub begun : take j (goal_word s.k s.n goal) ≡ take j w
  pub least : from ≤ get_or (goal_word s.k s.n goal) j 0
  pub keeps : (c : ℕ) → from ≤ c → c < s.k → Prenecklace (take j w ++ (c ∷ []))

-- the letter found, in its place
pub record Found (s : DS.Strip) (goal : Goal) (before after : List ℕ) (j r : ℕ) : Type 0 where
  pub letter_is : r ≡ get_or (goal_word s.k s.n goal) j 0
  pub buffer : after ≡ set before j r

-- the letter a period back, 0 at the start; the period after the next letter c
abbrev pub letter_back : List ℕ → ℕ → ℕ → ℕ
letter_back w j p = pick (eqb j 0) 0 (get_or w (j - p) 0)

abbrev pub period_with : ℕ → ℕ → ℕ → ℕ → ℕ
period_with p j from c = pick (eqb j 0) 1 (pick (ltb from c) (j + 1) p)
