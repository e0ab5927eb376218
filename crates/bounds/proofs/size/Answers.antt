-- `bounds::size` counts the places of a ring.
use mathlib.Core.Path.{sym, ◌∙◌, ap}
use Prim.Native.Nat.{◌*◌}
use native.Mathlib.Omega.{arith}
use native.Mathlib.Nat.{le_refl}
use Rattle.theory.specs.Words.{how_many}
use Rattle.shape.specs.Rings.{size_in}
use Rattle.ranks.proofs.Shapes.{words_fit}
use Rattle.bounds.proofs.size.Goals as goal

pub overflow_mul-result : goal.overflow_mul-result
overflow_mul-result c =
    omega (arith, words_fit c.args.ring.strip (le_refl (how_many c.args.ring.strip.k c.args.ring.strip.n)), ap (λ r. c.args.ring.strip.n * r) c.count.ensures)

pub returns-in-Whole : goal.returns-in-Whole
returns-in-Whole c =
    ap (λ r. c.args.ring.strip.n * r) c.count.ensures ∙ sym (ap (λ x. size_in x c.args.ring.strip) c.in-Whole.is)
