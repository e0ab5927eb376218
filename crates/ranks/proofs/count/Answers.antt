-- `ranks::count` is the number of Lyndon words: the signed sum of the powers of k is n times it.
use mathlib.Core.Path.{◌≡◌}
use Prim.Native.Nat.{◌*◌}
use lib.IntN.{pos}
use Rattle.theory.specs.Words.{how_many}
use Rattle.shape.proofs.Limits.{limits}
use Rattle.moebius.specs.Summands.{total}
use Rattle.ranks.proofs.Shapes.{powers_summable}
use Rattle.ranks.proofs.Quotients.{count_total, only}
use Rattle.ranks.proofs.count.Goals.{After-powers-sizes}
use Rattle.ranks.proofs.count.Goals as goal

-- the powers are there
many : (c : After-powers-sizes) → let s = c.args.s in total s.n c.powers-sizes.result ≡ pos (s.n * how_many s.k s.n)
many c = let s = c.args.s in count_total s.k s.n c.powers-sizes.result (limits c.args.s).some c.powers-sizes.ensures

pub quotient-requires : goal.quotient-requires
quotient-requires c = (powers_summable (limits c.args.s) c.powers-sizes.ensures, (_, many (goal.at.quotient-requires c).After-powers-sizes))

pub returns : goal.returns
returns c =
    only c.args.s.n (limits c.args.s).some c.quotient.ensures (many (goal.at.returns c).After-powers-sizes)
