-- The word of a ring that holds a position, and the position in it; and where a word ends.
use Rattle.std.specs.Prelude.{◌≡◌, List, ℕ, ◌*◌, ◌≤◌, ◌<◌, take, drop}
use Rattle.shape.specs.declared.Strip as DS
use Rattle.shape.specs.declared.Lengths.{Lengths}
use Rattle.shape.specs.declared.Lengths.TheVariants.{Divisors, Whole}
use Rattle.shape.specs.Rings.{ok_of}
use Rattle.rings.specs.Moves.{HeldOn}
use Rattle.theory.specs.Words.{rank}
use Rattle.theory.specs.Sums.{cs}
use Rattle.theory.specs.Rings.{cursor, cursor_on}
use Rattle.access.specs.declared.Spot as DP

pub record HoldsAt (lengths : Lengths) (s : DS.Strip) (p : ℕ) (v : List ℕ) (r : DP.Spot) : Type 0 where
  pub held : HeldOn lengths s v r.long
  pub inside : r.at < r.long
  pub is : cursor s.k s.n (take r.long v) r.at ≡ cursor_on (ok_of lengths s.n) s.k s.n p

-- a buffer whose first letters are the word that holds a place of the ring, the others as before
pub record PutAt (lengths : Lengths) (s : DS.Strip) (p : ℕ) (before after : List ℕ) (r : DP.Spot) : Type 0 where
  pub stands : cursor s.k s.n (take r.long after) r.at ≡ cursor_on (ok_of lengths s.n) s.k s.n p
  pub rest : drop r.long after ≡ drop r.long before
  pub fits : r.long ≤ s.n
  pub inside : r.at < r.long

-- the letters of a ring up to the end of the word whose power v is (document 004, Lemma 22)
abbrev pub end_in : Lengths → DS.Strip → List ℕ → ℕ
end_in Divisors s v = cs s.k v
end_in Whole s v = s.n * rank s.k v
