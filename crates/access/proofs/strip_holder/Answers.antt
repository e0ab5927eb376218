-- `access::strip_holder` finds the word of the strip that holds a position.
use mathlib.Core.Path.{ap₂}
use Prim.Native.Nat.{◌+◌, ◌-◌}
use native.Mathlib.Omega.{arith}
use Rattle.access.proofs.Holding.{holder_asks, holder_fits, holder_is}
use Rattle.access.proofs.strip_holder.Goals as goal

pub whole-end-requires : goal.whole-end-requires
whole-end-requires c = holder_asks c.args.s c.args.p c.requires.0 c.find.ensures

pub overflow_add-at : goal.overflow_add-at
overflow_add-at c =
    let fits = holder_fits c.args.s c.args.p c.requires.0 c.find.ensures in
    omega (arith, fits, c.shortest_root-long.ensures)

pub overflow_sub-at : goal.overflow_sub-at
overflow_sub-at c =
    let fits = holder_fits c.args.s c.args.p c.requires.0 c.find.ensures in
    omega (arith, fits, c.shortest_root-long.ensures, c.whole-end.ensures.0)

pub returns : goal.returns
returns c =
    holder_is c.args.s c.args.p c.requires.0 c.find.ensures c.shortest_root-long.ensures (ap₂ (λ x y. c.args.p + x - y) c.shortest_root-long.ensures c.whole-end.ensures.0)
