-- What the check of a place answers: the place of the ring of k and n if there is no fault, else the fault's refusal.
use Rattle.std.specs.Prelude.{◌≡◌, Result, MatchResult, ℕ}
use Rattle.shape.specs.declared.Lengths.{Lengths}
use Rattle.shape.specs.declared.ring.Place as DP
use Rattle.calls.specs.declared.refusal.Refusal.{Refusal}
use Rattle.calls.specs.Codes.{code}
use Rattle.calls.specs.Refusals.{ring_fault}
use Rattle.calls.specs.Checks.{StripOf}

-- the place p of that ring of k and n
abbrev pub PlaceOf : Lengths → ℕ → ℕ → ℕ → DP.Place → Type 0
PlaceOf lengths k n p x = StripOf k n x.ring.strip × (x.ring.lengths ≡ lengths) × (x.at ≡ p)

-- what the check promises
abbrev pub ChecksPlace : Lengths → ℕ → ℕ → ℕ → Result DP.Place Refusal → Type 0
ChecksPlace lengths k n p r = MatchResult r (λ x. (ring_fault lengths k n p ≡ 0) × PlaceOf lengths k n p x) (λ e. code e ≡ ring_fault lengths k n p)
