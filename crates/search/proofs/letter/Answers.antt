use Prim.Native.Nat.{ℕ, ◌+◌, ◌-◌, ◌/◌}
use native.Mathlib.Omega.{arith}
use Rattle.search.proofs.Tries.{bisect_start, bisect_asks, bisect_low, bisect_high}
use Rattle.search.proofs.letter.Goals as goal

abbrev middle : ℕ → ℕ → ℕ
middle low high = low + (high - low) / 2

pub loop-low-init : goal.loop-low-init
loop-low-init c = bisect_start c.requires

pub invariant_of-tried : goal.invariant_of-tried
invariant_of-tried c =
    let l = c.loop-low in
    let (on, _, _) = bisect_asks c.requires l.invariant (middle l.low l.high) (omega arith) (omega arith) in
    record { on = on }

pub reaches-requires : goal.reaches-requires
reaches-requires c =
    let l = c.loop-low in
    let (_, pre, inside) = bisect_asks c.requires l.invariant (middle l.low l.high) (omega arith) (omega arith) in
    (pre, inside)

pub loop-low-preserved-then-reaches : goal.loop-low-preserved-then-reaches
loop-low-preserved-then-reaches c =
    let l = c.loop-low in
    bisect_low c.requires l.invariant (middle l.low l.high) c.reaches.ensures (omega arith) c.if-reaches.true

pub loop-low-preserved : goal.loop-low-preserved
loop-low-preserved c =
    let l = c.loop-low in
    bisect_high c.requires l.invariant (middle l.low l.high) c.reaches.ensures (omega arith) c.if-reaches.false
