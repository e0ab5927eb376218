-- The table of document 004's path counts, one flat list indexed by length and state, and the sizes of CS that it gives.
use Rattle.std.specs.Prelude.{◌≡◌, true, List, ℕ, zero, suc, ◌+◌, ◌-◌, ◌*◌, ◌^◌, ◌≤◌, length, get_or, take}
use Rattle.theory.specs.Words.{marks_ok}
use Rattle.theory.specs.Rings.{divides}
use Rattle.theory.specs.Sums.{cs}
use Rattle.theory.specs.Automaton.{returning}

-- the cells of a table: 61 lengths of 61 states
abbrev pub cells : ℕ
cells = 3721

-- a word of at most 60 letters below k, with k^n in range
pub record Counted (k : ℕ) (w : List ℕ) : Type 0 where
  pub two : 2 ≤ k
  pub marks : marks_ok k w ≡ true
  pub some : 1 ≤ length w
  pub short : length w ≤ 60
  pub range : k ^ length w ≤ 2 ^ 60

-- the first row, length 0: of the states up to n only state 0 is home; any numbers in the other cells
pub record Started (n : ℕ) (t : List ℕ) : Type 0 where
  pub size : length t ≡ cells
  pub home : get_or t 0 0 ≡ 1
  pub away : (s : ℕ) → 1 ≤ s → s ≤ n → get_or t s 0 ≡ 0

-- the entry of length l and state s is the number of words of length l that lead from state s home; any numbers in the other cells
pub record Filled (k : ℕ) (w t : List ℕ) : Type 0 where
  pub entry : (s l : ℕ) → s + l ≤ length w → get_or t (l * 61 + s) 0 ≡ returning k w s l

-- the entries of states below q on the antidiagonal of d
abbrev pub diagonal_of : List ℕ → ℕ → ℕ → ℕ
diagonal_of t d zero = 0
diagonal_of t d (suc q) = get_or t ((d - q) * 61 + q) 0 + diagonal_of t d q

-- at each divisor of the word's length the size of CS of so many letters; elsewhere any number, but nowhere more than a power of k
pub record Sized (k : ℕ) (w t : List ℕ) : Type 0 where
  pub size : length t ≡ 61
  pub entry : (d : ℕ) → divides d (length w) ≡ true → get_or t d 0 ≡ cs k (take d w)
  pub small : (d : ℕ) → get_or t d 0 ≤ k ^ d
