-- What the check of a cursor answers: the cursor on its ring if it has no fault there, else the fault's refusal.
use Rattle.std.specs.Prelude.{◌≡◌, Result, MatchResult}
use Rattle.shape.specs.declared.Lengths.{Lengths}
use Rattle.calls.specs.declared.refusal.Refusal.{Refusal}
use Rattle.calls.specs.Codes.{code}
use Rattle.cursors.specs.declared.Cursor as DC
use Rattle.cursors.specs.declared.standing.Standing as DG
use Rattle.cursors.specs.Cursors.{fault_on}

abbrev pub ChecksCursor : Lengths → DC.Cursor → Result DG.Standing Refusal → Type 0
ChecksCursor lengths c r = MatchResult r (λ x. (fault_on lengths c ≡ 0) × (x.ring.lengths ≡ lengths) × (x.cursor ≡ c)) (λ e. code e ≡ fault_on lengths c)
