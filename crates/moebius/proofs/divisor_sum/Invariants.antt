-- The sum over the divisors of n. The loop's invariant: the sum so far is that over the divisors among the first i numbers from n downwards.
use mathlib.Core.Path.{◌≡◌}
use Rattle.moebius.proofs.Passed.{sum_to}
use Rattle.moebius.proofs.divisor_sum.Given as goal

abbrev pub invariant-loop-i : goal.invariant-loop-i
invariant-loop-i l = l.sum ≡ sum_to l.n l.sizes l.i
