-- Which plans are accepted, and the section that a place is laid in.
use Rattle.std.specs.Prelude.{◌≡◌, ◌+◌, Option, MatchOption, List, ℕ}
use Rattle.theory.specs.Plans.{shades, marks, plan_fault, laying_at}
use Rattle.shape.specs.declared.Strip as DS

-- an accepted plan: no fault, and the strip of its k and n
pub record Accepted (s : List ℕ) (x : DS.Strip) : Type 0 where
  pub faultless : plan_fault s ≡ 0
  pub letters : x.k ≡ shades s
  pub marked : x.n ≡ marks s

-- the section of the window at p, whose number the theory counts from 1; none, if it is not laid
abbrev pub Lays : List ℕ → ℕ → Option ℕ → Type 0
Lays s p r = MatchOption r (laying_at s p ≡ 0) (λ i. laying_at s p ≡ i + 1)
