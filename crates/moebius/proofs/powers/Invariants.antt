-- The table of the powers of k. The loop's invariant: the first d entries are the powers, and the others are 0.
use Rattle.moebius.proofs.Raised.{Raised}
use Rattle.moebius.proofs.powers.Given as goal

abbrev pub invariant-loop-d : goal.invariant-loop-d
invariant-loop-d l = Raised l.k l.d l.t
