-- Where a place stands among sections that are sorted: how many begin at it or before it.
use Rattle.std.specs.Prelude.{List, ℕ, ◌≤◌, ◌<◌, length}
use Rattle.theory.specs.Plans.{Section, nth_s}

-- sections ahead of number low begin at p or before it, sections from number high on behind it
pub record Between (p : ℕ) (xs : List Section) (low high : ℕ) : Type 0 where
  pub ordered : low ≤ high
  pub within : high ≤ length xs
  pub before : (i : ℕ) → i < low → (nth_s xs i).offset ≤ p
  pub behind : (i : ℕ) → high ≤ i → i < length xs → p < (nth_s xs i).offset

-- r sections begin at p or before it, and the others behind it
abbrev pub Begun : ℕ → List Section → ℕ → Type 0
Begun p xs r = Between p xs r r
