-- find: `best` is the best of the first c fillings.
use Rattle.fitting.proofs.Seeking.{Best}
use Rattle.fitting.proofs.find.Given as goal

abbrev pub invariant-loop-c : goal.invariant-loop-c
invariant-loop-c l = Best l.plan.sections.bytes.now l.plan.strip l.w l.c l.best
