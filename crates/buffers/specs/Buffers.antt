-- Bytes put over the start of a buffer, or one byte from a place on.
use Rattle.std.specs.Prelude.{List, ◌++◌, ℕ, ◌-◌, length, take, drop, replicate}

-- one byte from a place on
abbrev pub filled : ℕ → ℕ → List ℕ → List ℕ
filled b from w = take from w ++ replicate (length w - from) b

abbrev pub over : List ℕ → List ℕ → List ℕ
over xs ys = xs ++ drop (length xs) ys
