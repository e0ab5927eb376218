-- `Standing::place` tells the place of the ring that a cursor without fault stands on.
use native.Mathlib.Omega.{arith}
use Rattle.cursors.proofs.Held.{place_inside, held_on}
use Rattle.cursors.proofs.Moving.{same_place}
use Rattle.cursors.proofs.standing.Standing.place.Goals as goal

pub position-requires : goal.position-requires
position-requires c =
    rw (c.from-marks.ensures, c.from.ensures, c.from-2.ensures) (held_on c.args.self.good, omega (arith, place_inside c.args.self.good))

pub returns : goal.returns
returns c =
    same_place c.args.self.good (rw (c.from-marks.ensures, c.from.ensures, c.from-2.ensures) at c.position.ensures.0)
