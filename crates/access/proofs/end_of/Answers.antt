-- `access::end_of` counts the letters up to the end of a word: the words of its CS, or n times its rank.
use mathlib.Core.Path.{ap}
use Prim.Native.Nat.{◌*◌}
use native.Mathlib.Omega.{arith}
use Rattle.ranks.proofs.Shapes.{words_fit, rank-counted}
use Rattle.access.proofs.end_of.Goals as goal

pub overflow_mul-result : goal.overflow_mul-result
overflow_mul-result c =
    omega (arith, words_fit c.args.power.strip (rank-counted c.args.power.on), ap (λ r. c.args.power.strip.n * r) c.of_prenecklace.ensures.0)
