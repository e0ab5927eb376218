-- A word of letters below k with some word of its length below it.
use Rattle.std.specs.Prelude.{◌≡◌, true, List, ℕ, length, replicate}
use Rattle.theory.specs.Words.{below}
use Rattle.lyndon.specs.Letters.{Lettered}

pub record Lowerable (k : ℕ) (w : List ℕ) : Type 0 where
  pub lettered : Lettered k w
  pub above : below (replicate (length w) 0) w ≡ true
