-- A word of letters below k, where k−1 is a byte.
use Rattle.std.specs.Prelude.{◌≡◌, true, List, ℕ, ◌≤◌}
use Rattle.theory.specs.Words.{marks_ok}

pub record Lettered (k : ℕ) (w : List ℕ) : Type 0 where
  pub some : 1 ≤ k
  pub byte : k ≤ 256
  pub marks : marks_ok k w ≡ true
