-- The search for the lowest laid window that agrees with one that has erasures: what it asks for, and what it answers.
use Rattle.std.specs.Prelude.{◌≡◌, ◌≢◌, ◌&&◌, Option, MatchOption, List, ℕ, ltb, length}
use Rattle.theory.specs.Words.{pick}
use Rattle.theory.specs.Plans.{laid_at}
use Rattle.theory.specs.Erasures.{fitting, lowest, smudge_fault}
use Rattle.shape.specs.declared.Strip as DS
use Rattle.plans.specs.Accepted.{Accepted}

-- an accepted plan, laid on the strip, and a window without fault
pub record Sought (s : List ℕ) (x : DS.Strip) (w : List ℕ) : Type 0 where
  pub plan : Accepted s x
  pub fine : smudge_fault x.k x.n w ≡ 0

-- a place, if it is below the best so far and the window there is laid; else the best so far
abbrev pub better_of : List ℕ → ℕ → ℕ → ℕ
better_of s b p = pick (ltb p b && laid_at s p) p b

-- what the search promises: the lowest place that fits; none, if none does
abbrev pub Finds : List ℕ → List ℕ → Option ℕ → Type 0
Finds s w r = MatchOption r (length (fitting s w) ≡ 0) (λ p. (length (fitting s w) ≢ 0) × (p ≡ lowest s w))
