-- `sizes` meets its contract. The loop's invariant: the sizes at the divisors passed are stored, and `top` is the power of k before the next.
use Rattle.automaton.proofs.Listing.{Stored}
use Rattle.automaton.proofs.sizes.Given as goal

abbrev pub invariant-loop-d : goal.invariant-loop-d
invariant-loop-d l = Stored l.k l.w l.out l.top l.d
