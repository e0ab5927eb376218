use native.Mathlib.Omega.{arith}
use Rattle.automaton.proofs.Filling.{started, letter, fits, stored, ended}
use Rattle.automaton.proofs.fill.Goals.{In-loop-s, else-loop-s-test, then-loop-s-test+else-s-s-end}
use Rattle.automaton.proofs.fill.Goals as goal

pub loop-l-init : goal.loop-l-init
loop-l-init c = started c.start.ensures

pub overflow_sub-larger-in-loop-s : goal.overflow_sub-larger-in-loop-s
overflow_sub-larger-in-loop-s c = omega (arith, letter c.requires c.loop-l.invariant c.loop-s.invariant (omega arith) (omega arith))

pub overflow_mul-t-in-loop-s : goal.overflow_mul-t-in-loop-s
overflow_mul-t-in-loop-s c = rw c.from.ensures (omega (arith, fits c.requires c.loop-l.invariant c.loop-s.invariant (omega arith) (omega arith)))

pub overflow_add-t-in-loop-s-2 : goal.overflow_add-t-in-loop-s-2
overflow_add-t-in-loop-s-2 c = rw c.from.ensures (omega (arith, fits c.requires c.loop-l.invariant c.loop-s.invariant (omega arith) (omega arith)))

pub loop-s-preserved : goal.loop-s-preserved
loop-s-preserved c = rw c.from.ensures (stored c.requires c.loop-l.invariant c.loop-s.invariant (omega arith) (omega arith))

pub loop-l-preserved : goal.loop-l-preserved
loop-l-preserved c = elim c.loop-s-test.branch [
  | else-loop-s-test w ↦ absurd (omega arith)
  | then-loop-s-test+else-s-s-end w ↦ rw (w.t-is, w.from.ensures) (ended c.requires c.loop-l.invariant c.loop-s.invariant (omega arith) (omega arith) (omega arith))
]

-- after the last length
pub returns-2 : goal.returns-2
returns-2 c = elim c.loop-s-test.branch [
  | else-loop-s-test w ↦ absurd (omega arith)
  | then-loop-s-test+else-s-s-end w ↦ rw (w.t-is, w.from.ensures)
      (let full = ended c.requires c.loop-l.invariant c.loop-s.invariant (omega arith) (omega arith) (omega arith) in
      record { entry = λ s i g. full.done s i g (omega arith) })
]
