-- is_welded: where the sections do not meet, the rails do not matter.
use Prim.Native.Nat.{◌+◌}
use mathlib.Core.Path.{refl}
use borrow.Author.Tests.{eq-eqb, ne_eqb}
use Rattle.plans.proofs.accepted.is_welded.Goals as goal

pub returns-then-section-next : goal.returns-then-section-next
returns-then-section-next c =
    let a = c.args in
    rw (eq-eqb (a.section.offset + a.section.long) a.next.offset c.if-section-next.true) refl

pub returns-else-section-next : goal.returns-else-section-next
returns-else-section-next c =
    let a = c.args in
    rw (ne_eqb (a.section.offset + a.section.long) a.next.offset c.if-section-next.false) refl
