-- `spread` writes a row over marks that stand at the buffer's end. Invariant: `Spread`, so what is written ends before the next mark.
use Rattle.pbm.proofs.Spreading.{Spread}
use Rattle.pbm.proofs.spread.Given as goal

abbrev pub invariant-loop-i : goal.invariant-loop-i
invariant-loop-i l = Spread l.initial.out l.lead l.out l.at l.i
