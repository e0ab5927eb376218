-- `steps::extend` meets its contract. Each turn writes the extension's next letter.
use Rattle.steps.proofs.Stepping.{Extending}
use Rattle.steps.proofs.extend.Given as goal

abbrev pub invariant-loop-j : goal.invariant-loop-j
invariant-loop-j l = Extending l.initial.w l.long l.w l.j
