-- A word held at the start of a buffer, and the Lyndon word after it, or before it, in its place.
use Rattle.std.specs.Prelude.{◌≡◌, List, ◌++◌, ℕ, ◌-◌, ◌≤◌, length, take, replicate}
use Rattle.theory.specs.Steps.{next_lyndon, word_before}
use Rattle.lyndon.specs.Letters.{Lettered}

-- a word, and zeros up to n letters
abbrev pub padded : ℕ → List ℕ → List ℕ
padded n w = w ++ replicate (n - length w) 0

-- a word held in the first letters of a buffer
pub record Held (k : ℕ) (buffer : List ℕ) (long : ℕ) : Type 0 where
  pub lettered : Lettered k (take long buffer)
  pub some : 1 ≤ long
  pub fits : long ≤ length buffer

-- a word over a buffer of n letters, with zeros after it, and its length
pub record Put (n : ℕ) (word : List ℕ) (after : List ℕ) (r : ℕ) : Type 0 where
  pub buffer : after ≡ padded n word
  pub size : r ≡ length word

-- the Lyndon word after the held one, and the one before it, of at most as many letters as the buffer has
abbrev pub NextIs : ℕ → List ℕ → ℕ → List ℕ → ℕ → Type 0
NextIs k before long after r = Put (length before) (next_lyndon k (length before) (take long before)) after r

abbrev pub PreviousIs : ℕ → List ℕ → ℕ → List ℕ → ℕ → Type 0
PreviousIs k before long after r = Put (length before) (word_before k (length before) (take long before)) after r
