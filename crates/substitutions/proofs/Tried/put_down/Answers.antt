-- put_down: the mark is one of the strip's, so a lower one is too.
use native.Mathlib.Omega.{arith}
use Rattle.theory.proofs.Letters.{marks_getD}
use Rattle.substitutions.proofs.Tried.put_down.Goals as goal

pub put_change-requires : goal.put_change-requires
put_change-requires c = let t = c.args.self.now in grind (arith, marks_getD t.plan.strip.k t.window.now c.args.j c.requires.1 t.word.marks)
