-- What looking for a window in a plan answers: where it is laid if there is no fault, else the fault's refusal (7, 1, 8, 2, 3, 9).
use Rattle.std.specs.Prelude.{◌≡◌, ◌+◌, Result, MatchResult, List, ℕ}
use Rattle.theory.specs.Strips.{place_of}
use Rattle.theory.specs.Plans.{shades, marks, laying_at, lookup_fault}
use Rattle.shape.specs.Shapes.{WordOn}
use Rattle.calls.specs.declared.refusal.Refusal.{Refusal}
use Rattle.calls.specs.Codes.{code}
use Rattle.windows.specs.declared.Spot.{Spot}

-- a window that is laid: in the accepted plan of these bytes, a word of its strip, at its place, in its section
pub record Found (s w : List ℕ) (x : Spot) : Type 0 where
  pub fine : lookup_fault s w ≡ 0
  pub plan : x.plan.sections.bytes.now ≡ s
  pub word : WordOn x.plan.strip w
  pub place_is : x.place ≡ place_of (shades s) (marks s) w
  pub laid : laying_at s x.place ≡ x.section + 1

-- what looking promises
abbrev pub Looks : List ℕ → List ℕ → Result Spot Refusal → Type 0
Looks s w r = MatchResult r (Found s w) (λ e. code e ≡ lookup_fault s w)
