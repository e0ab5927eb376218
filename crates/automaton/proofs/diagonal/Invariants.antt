-- `diagonal` meets its contract. The loop's invariant: the sum is that of the entries of the states passed.
use mathlib.Core.Path.{◌≡◌}
use Rattle.automaton.specs.Tables.{diagonal_of}
use Rattle.automaton.proofs.diagonal.Given as goal

abbrev pub invariant-loop-q : goal.invariant-loop-q
invariant-loop-q l = l.sum ≡ diagonal_of l.t l.d l.q
