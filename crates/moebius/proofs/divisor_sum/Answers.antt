use mathlib.Core.Path.{sym, ◌∙◌}
use native.Mathlib.Omega.{arith}
use Rattle.moebius.proofs.Passed.{sum_skip, entry_small, sum_fits, sum_next}
use Rattle.moebius.proofs.divisor_sum.Goals.{then-n-d-eq0, else-n-d-eq0}
use Rattle.moebius.proofs.divisor_sum.Goals as goal

pub term-sum-requires : goal.term-sum-requires
term-sum-requires c =
    (omega arith, omega arith, c.requires.0.short, entry_small c.args.k c.args.n c.args.sizes.now c.requires.0 _ (omega arith))

pub overflow_add-sum : goal.overflow_add-sum
overflow_add-sum c = sum_fits c.requires.0 (omega arith) c.if-n-d-eq0.true c.loop-i.invariant c.term-sum.ensures (record { sfits = c.term-sum.type_inv })

pub loop-i-preserved : goal.loop-i-preserved
loop-i-preserved c = elim c.if-n-d-eq0.branch [
  | then-n-d-eq0 w ↦ w.sum-is ∙ sum_next c.requires.0 (omega arith) w.if-n-d-eq0.true c.loop-i.invariant w.term-sum.ensures (record { sfits = w.term-sum.type_inv })
  | else-n-d-eq0 w ↦ w.sum-is ∙ c.loop-i.invariant ∙ sym (sum_skip c.args.n c.args.sizes.now c.loop-i.i (omega arith) w.if-n-d-eq0.false)
]
