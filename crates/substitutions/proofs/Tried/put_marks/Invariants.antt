-- put_marks: the changes of the first j marks by d are written.
use lib.ListN.{length}
use Rattle.theory.specs.Substitutions.{changes_at}
use Rattle.substitutions.proofs.Writing.{Writing}
use Rattle.substitutions.proofs.Tried.put_marks.Given as goal

abbrev pub invariant-loop-j : goal.invariant-loop-j
invariant-loop-j l = Writing l.self.plan.sections.bytes.now l.self.window.now (changes_at l.self.plan.strip.k l.self.window.now l.d) (length l.self.window.now) 0 l.initial.out l.out l.found l.j
