use mathlib.Core.Path.{subst}
use native.Mathlib.Omega.{arith}
use Rattle.fitting.proofs.Seeking.{Best, best_next, nowhere, found}
use Rattle.fitting.proofs.find.Goals.{After-loop-c}
use Rattle.fitting.proofs.find.Goals as goal

pub loop-c-preserved : goal.loop-c-preserved
loop-c-preserved c = best_next c.requires c.loop-c.invariant c.better-best.ensures

tried : (c : After-loop-c) → let plan = c.args.plan.now in Best plan.sections.bytes.now plan.strip c.args.w.now c.fillings-total.result c.loop-c.best
tried c = let plan = c.args.plan.now in subst (λ i. Best plan.sections.bytes.now plan.strip c.args.w.now i c.loop-c.best) (omega arith) c.loop-c.invariant

pub returns-then-best-plan : goal.returns-then-best-plan
returns-then-best-plan c =
    nowhere c.requires c.fillings-total.ensures (tried (goal.at.returns-then-best-plan c).After-loop-c) c.if-best-plan.true

pub returns : goal.returns
returns c =
    found c.requires c.fillings-total.ensures (tried (goal.at.returns c).After-loop-c) c.if-best-plan.false
