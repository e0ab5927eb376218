-- `fill` meets its contract. The outer loop keeps all shorter lengths right, the inner one also the smaller states of its length.
use Rattle.automaton.proofs.Filling.{Reached}
use Rattle.automaton.proofs.fill.Given as goal

abbrev pub invariant-loop-s : goal.invariant-loop-s
invariant-loop-s l = Reached l.k l.w l.t l.l l.s

abbrev pub invariant-loop-l : goal.invariant-loop-l
invariant-loop-l l = Reached l.k l.w l.t l.l 0
