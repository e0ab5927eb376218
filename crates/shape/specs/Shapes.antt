-- What the strip's constructor answers, and words on a strip.
use Rattle.std.specs.Prelude.{◌≡◌, Option, Some, None, IfSome, true, List, ℕ, length}
use Rattle.theory.specs.Words.{marks_ok}
use Rattle.theory.specs.Strips.{strip_fault}
use Rattle.shape.specs.declared.Strip as DS

-- the paper's number for each case of the constructor's answer
abbrev pub number_of : Option DS.Strip → ℕ
number_of (Some s) = 0
number_of None = 1

-- what the constructor promises: the strip of k and n, if it is admitted
pub record Makes (k n : ℕ) (r : Option DS.Strip) : Type 0 where
  pub number : number_of r ≡ strip_fault k n
  pub is : IfSome r (λ s. (s.k ≡ k) × (s.n ≡ n))

-- a word of n letters of the strip
pub record WordOn (s : DS.Strip) (w : List ℕ) : Type 0 where
  pub long : length w ≡ s.n
  pub marks : marks_ok s.k w ≡ true
