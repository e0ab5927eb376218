-- turn_below: the letters at x and y agree, and each of the two goes one on or back to the start.
use mathlib.Core.Path.{◌≡◌}
use native.Mathlib.Omega.{arith}
use lib.ListN.{get_or}
use Rattle.rotations.proofs.Turns.{place_on_lem, place_wrap, turning_on}
use Rattle.rotations.proofs.turn_below.Goals.{then-x-n, else-x-n, then-y-n, else-y-n}
use Rattle.rotations.proofs.turn_below.Goals as goal

pub loop-preserved : goal.loop-preserved
loop-preserved c =
    let w = c.args.w.now in
    let even : get_or w c.loop.x 0 ≡ get_or w c.loop.y 0 = omega arith in
    turning_on w c.args.i c.args.b c.loop.counter c.loop.x c.loop.y c.requires.0 c.requires.1 c.loop-test.true c.loop.invariant even
    (elim c.if-x-n.branch [
      | then-x-n t ↦ place_wrap c.requires.0 c.loop-test.true t.if-x-n.true t.x-is c.loop.invariant.left
      | else-x-n t ↦ place_on_lem t.if-x-n.false t.x-is c.loop.invariant.left
    ])
    (elim c.if-y-n.branch [
      | then-y-n t ↦ place_wrap c.requires.1 c.loop-test.true t.if-y-n.true t.y-is c.loop.invariant.right
      | else-y-n t ↦ place_on_lem t.if-y-n.false t.y-is c.loop.invariant.right
    ])
