-- `search::letter` bisects for the letter of the word searched for. Invariant: it is from low to high; but for the letter at j the buffer
-- is as before.
use Prim.Native.Nat.{◌-◌}
use Rattle.search.proofs.Tries.{Bisecting}
use Rattle.search.proofs.letter.Given as goal

abbrev pub invariant-loop-low : goal.invariant-loop-low
invariant-loop-low l = Bisecting l.s l.goal l.initial.w l.j l.from l.w l.low l.high

abbrev pub decreases-loop-low : goal.decreases-loop-low
decreases-loop-low l = l.high - l.low
