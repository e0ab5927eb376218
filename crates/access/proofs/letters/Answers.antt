-- `access::letters` writes the letters from a position on.
use mathlib.Core.Path.{◌∙◌, ap}
use lib.ListN.{length}
use Rattle.shape.specs.Rings.{letters_of}
use Rattle.access.proofs.Reading.{held_place}
use Rattle.access.proofs.letters.Goals as goal

pub returns : goal.returns
returns c =
    c.write_from.ensures.0 ∙ ap (λ p. letters_of c.args.place.ring.lengths c.args.place.ring.strip.k c.args.place.ring.strip.n p (length c.args.out.now)) (held_place c.args.place c.holder-spot.ensures)
