use native.Mathlib.Omega.{arith}
use Rattle.steps.proofs.Stepping.{extending_more}
use Rattle.steps.proofs.extend.Goals as goal

pub loop-j-preserved : goal.loop-j-preserved
loop-j-preserved c =
    extending_more c.args.w.now c.args.long c.requires.0 c.requires.1 c.loop-j.invariant (omega arith)
