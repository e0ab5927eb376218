-- `short::end_of` counts n letters for each word, or all letters for none.
use native.Mathlib.Omega.{arith}
use Rattle.ranks.proofs.Shapes.{words_fit}
use Rattle.short.proofs.end_of.Goals as goal

pub overflow_mul-result : goal.overflow_mul-result
overflow_mul-result c = omega (arith, words_fit c.args.s c.requires)
