-- `ranks::of_prenecklace` is the rank: the signed sum of the sizes of CS is n times it.
use mathlib.Core.Path.{◌≡◌}
use Prim.Native.Nat.{◌*◌}
use lib.IntN.{pos}
use borrow.Author.Rules.{rules}
use Rattle.theory.specs.Words.{rank}
use Rattle.shape.proofs.Limits.{limits}
use Rattle.moebius.specs.Summands.{total}
use Rattle.ranks.proofs.Shapes.{sized_summable}
use Rattle.ranks.proofs.Quotients.{rank-sum, only}
use Rattle.ranks.proofs.of_prenecklace.Goals.{After-sizes-sizes}
use Rattle.ranks.proofs.of_prenecklace.Goals as goal

-- the sizes are there
ranked : (c : After-sizes-sizes) → let a = c.args.word in total a.strip.n c.sizes-sizes.result ≡ pos (a.strip.n * rank a.strip.k a.letters.now)
ranked c =
    let a = c.args.word in
    rank-sum a.strip.k a.strip.n a.letters.now _ a.on.long (limits a.strip).some c.requires c.sizes-sizes.ensures.0

pub quotient-requires : goal.quotient-requires
quotient-requires c =
    (sized_summable (limits c.args.word.strip) c.sizes-sizes.ensures.0, (_, ranked (goal.at.quotient-requires c).After-sizes-sizes))

pub returns : goal.returns
returns c =
    (only c.args.word.strip.n (limits c.args.word.strip).some c.quotient.ensures (ranked (goal.at.returns c).After-sizes-sizes), record { size = search rules })
