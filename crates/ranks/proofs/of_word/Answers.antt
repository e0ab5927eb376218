-- `ranks::of_word` is the rank of any word, since the largest necklace not above it has the same.
use Rattle.shape.proofs.Limits.{limits}
use Rattle.ranks.proofs.Shapes.{sized_summable}
use Rattle.ranks.proofs.Quotients.{only}
use Rattle.ranks.proofs.Floored.{floored_sum}
use Rattle.ranks.proofs.of_word.Goals as goal

pub quotient-requires : goal.quotient-requires
quotient-requires c =
    (sized_summable (limits c.args.word.strip) c.sizes_of-sizes.ensures, (_, floored_sum c.args.word.on c.sizes_of-sizes.ensures))

pub returns : goal.returns
returns c =
    only c.args.word.strip.n (limits c.args.word.strip).some c.quotient.ensures (floored_sum c.args.word.on c.sizes_of-sizes.ensures)
