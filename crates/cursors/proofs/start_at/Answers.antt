-- `start_at` holds the word of a place over zeros.
use mathlib.Core.Path.{sym}
use native.Mathlib.Omega.{arith}
use lib.Seq.{length-take-le}
use borrow.Author.Rules.{rules}
use Rattle.shape.proofs.Limits.{limits}
use Rattle.access.proofs.Reading.{room}
use Rattle.cursors.proofs.Told.{started_at}
use Rattle.cursors.proofs.start_at.Goals as goal

pub slice_bounds-room-end : goal.slice_bounds-room-end
slice_bounds-room-end c = omega (arith, (limits c.args.place.ring.strip).short)

pub slice_bounds-hold-end : goal.slice_bounds-hold-end
slice_bounds-hold-end c = sym (length-take-le c.args.place.ring.strip.n room (omega (arith, (limits c.args.place.ring.strip).short)))

pub hold-spot-requires : goal.hold-spot-requires
hold-spot-requires c =
    (length-take-le c.args.place.ring.strip.n room (omega (arith, (limits c.args.place.ring.strip).short)), omega arith)

pub overflow_cast-result : goal.overflow_cast-result
overflow_cast-result c = omega (arith, (limits c.args.place.ring.strip).most)

pub overflow_cast-result-2 : goal.overflow_cast-result-2
overflow_cast-result-2 c = omega (arith, (limits c.args.place.ring.strip).short)

-- once the word is held, its length and the place in it are below 61
pub overflow_cast-result-3 : goal.overflow_cast-result-3
overflow_cast-result-3 c =
    omega (arith, (limits c.args.place.ring.strip).short, c.hold-spot.ensures.0.fits)

pub overflow_cast-result-4 : goal.overflow_cast-result-4
overflow_cast-result-4 c =
    omega (arith, (limits c.args.place.ring.strip).short, c.hold-spot.ensures.0.fits, c.hold-spot.ensures.0.inside)

pub returns : goal.returns
returns c =
    started_at c.args.place.ring.strip (search rules) c.hold-spot.ensures.0
