use native.Mathlib.Omega.{arith}
use Rattle.moebius.proofs.Raised.{raised-one, next_small}
use Rattle.moebius.proofs.powers.Goals as goal

pub loop-d-init : goal.loop-d-init
loop-d-init c = raised-one c.args.k

pub overflow_mul-t : goal.overflow_mul-t
overflow_mul-t c = omega (arith, next_small {n = c.args.n} c.loop-d.invariant (omega arith) (omega arith) (omega arith) (omega arith))
