-- `floors::lower` meets its contract. From i on every letter was tried in vain and is k−1 now.
use Rattle.floors.proofs.Lowering.{Lowering}
use Rattle.floors.proofs.lower.Given as goal

abbrev pub invariant-loop-i : goal.invariant-loop-i
invariant-loop-i l = Lowering l.k l.initial.w l.w l.i
