-- fill: up to the index the filling stands in the buffer, behind it the window, and `rest` is left for the erasures there.
use mathlib.Core.Path.{◌≡◌}
use mathlib.Core.List.{◌++◌}
use lib.ListN.{take, drop}
use Rattle.theory.specs.Erasures.{filling}
use Rattle.erasures.proofs.fill.Given as goal

abbrev pub invariant-loop-letter : goal.invariant-loop-letter
invariant-loop-letter l = filling l.k l.c l.w ≡ take l.letter-index l.out ++ filling l.k l.rest (drop l.letter-index l.out)
