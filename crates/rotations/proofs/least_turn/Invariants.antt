-- least_turn: the least turn that gives the smallest rotation; b is the least of those that give the smallest so far.
use Prim.Native.Nat.{◌-◌, ◌<◌}
use mathlib.Core.Path.{◌≡◌}
use lib.ListN.{length}
use Rattle.theory.specs.Words.{turn_from, least_turn}
use Rattle.rotations.proofs.least_turn.Given as goal

abbrev pub invariant-loop-i : goal.invariant-loop-i
invariant-loop-i l = (l.b < l.i) × (least_turn l.w ≡ turn_from (length l.w - l.i) l.i l.w l.b)
