-- turn_below: two rotations compared, letter by letter.
use Rattle.rotations.proofs.Turns.{Turning}
use Rattle.rotations.proofs.turn_below.Given as goal

abbrev pub invariant-loop : goal.invariant-loop
invariant-loop l = Turning l.w l.i l.b l.counter l.x l.y
