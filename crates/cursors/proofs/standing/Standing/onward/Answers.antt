-- `Standing::onward` moves a cursor without fault by one mark.
use native.Mathlib.Omega.{arith}
use Rattle.cursors.proofs.Held.{held_on}
use Rattle.cursors.proofs.Moving.{goes_onward}
use Rattle.cursors.proofs.standing.Standing.onward.Goals as goal

pub next_word-moved-requires : goal.next_word-moved-requires
next_word-moved-requires c = rw (c.from-marks.ensures, c.from-2.ensures) (held_on c.args.self.good)

pub returns : goal.returns
returns c =
    rw (c.from.ensures, c.from-marks.ensures) (goes_onward c.args.self.good (rw (c.from-marks.ensures, c.from-2.ensures) at c.next_word-moved.ensures) (omega arith))
