-- `Standing::backward` moves a cursor without fault back by one mark.
use mathlib.Core.Path.{refl}
use native.Mathlib.Omega.{arith}
use Rattle.cursors.proofs.Held.{held_on}
use Rattle.cursors.proofs.Moving.{backs_inside, previous_long, backs_away}
use Rattle.cursors.proofs.standing.Standing.backward.Goals as goal

pub returns-then-c-gt0 : goal.returns-then-c-gt0
returns-then-c-gt0 c = rw c.from.ensures (backs_inside c.args.self.good (refl, refl, refl) refl (omega arith))

pub previous_word-led-requires : goal.previous_word-led-requires
previous_word-led-requires c = rw (c.from-marks.ensures, c.from-2.ensures) (held_on c.args.self.good)

pub overflow_sub-result-2 : goal.overflow_sub-result-2
overflow_sub-result-2 c = omega (arith, (previous_long c.args.self.good (rw (c.from-marks.ensures, c.from-2.ensures) at c.previous_word-led.ensures)).0)

pub returns : goal.returns
returns c = rw (c.from.ensures, c.from-marks.ensures) (backs_away c.args.self.good (rw (c.from-marks.ensures, c.from-2.ensures) at c.previous_word-led.ensures) (omega arith))
