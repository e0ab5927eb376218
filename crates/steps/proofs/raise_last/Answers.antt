use native.Mathlib.Omega.{arith}
use Rattle.steps.proofs.Stepping.{raising_more, raising_done, raising_all}
use Rattle.steps.proofs.raise_last.Goals as goal

pub returns-then-w-i-clause-size : goal.returns-then-w-i-clause-size
returns-then-w-i-clause-size c =
    omega (arith, (raising_done c.requires c.loop-i.invariant (omega arith) (omega arith)).1)

pub loop-i-preserved : goal.loop-i-preserved
loop-i-preserved c = raising_more c.requires c.loop-i.invariant (omega arith) (omega arith)

pub returns-clause-size : goal.returns-clause-size
returns-clause-size c = (raising_all c.requires c.loop-i.invariant (omega arith)).1
