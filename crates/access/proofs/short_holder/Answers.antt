-- `access::short_holder` finds the word of the short ring that holds a position.
use mathlib.Core.Path.{refl}
use native.Mathlib.Omega.{arith}
use native.Mathlib.Nat.{div-le_self}
use Rattle.access.proofs.Holding.{index_small, short_is}
use Rattle.access.proofs.short_holder.Goals as goal

pub overflow_add-p : goal.overflow_add-p
overflow_add-p c =
    omega (arith, index_small c.args.s c.args.p c.requires.0, div-le_self c.args.p c.args.s.n)

pub returns : goal.returns
returns c = short_is c.args.s c.args.p c.requires.0 c.find.ensures refl refl
