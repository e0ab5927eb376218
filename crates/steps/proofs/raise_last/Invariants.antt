-- `steps::raise_last` meets its contract. Behind i every letter was k−1 and is 0 now.
use Rattle.steps.proofs.Stepping.{Raising}
use Rattle.steps.proofs.raise_last.Given as goal

abbrev pub invariant-loop-i : goal.invariant-loop-i
invariant-loop-i l = Raising l.z l.initial.w l.w l.i
