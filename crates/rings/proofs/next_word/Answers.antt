use mathlib.Core.Path.{sym, ◌∙◌}
use native.Mathlib.Omega.{arith}
use Rattle.shape.proofs.Limits.{limits}
use Rattle.rings.specs.Moves.{first_word}
use Rattle.rings.proofs.Ways.{first_of_lem}
use Rattle.rings.proofs.Moving.{held_in, forth_on, way_starts, next_put, asks, wraps, counts, falls, arrives, goes_on}
use Rattle.rings.proofs.next_word.Goals as goal

pub loop-l-init : goal.loop-l-init
loop-l-init c = let h = c.requires in way_starts h (forth_on h)

pub next-l-requires : goal.next-l-requires
next-l-requires c = let h = c.requires in let r = limits c.args.ring.strip in asks (forth_on h) (held_in h) c.loop-l.invariant r.two r.most

pub returns-then-l-eq0 : goal.returns-then-l-eq0
returns-then-l-eq0 c =
    let h = c.requires in
    let g = c.loop-l.invariant in
    let r = limits c.args.ring.strip in
    wraps (forth_on h) (held_in h) g (next_put g c.next-l.ensures) (first_word c.args.ring.lengths) c.if-l-eq0.true (first_of_lem c.args.ring.lengths _ _ r.two r.some) c.put_first.ensures

pub overflow_add-passed : goal.overflow_add-passed
overflow_add-passed c =
    let h = c.requires in
    let g = c.loop-l.invariant in
    omega (arith, (limits c.args.ring.strip).short, counts (forth_on h) (held_in h) g (next_put g c.next-l.ensures) c.if-l-eq0.false)

pub returns-then-allows : goal.returns-then-allows
returns-then-allows c =
    let h = c.requires in
    let g = c.loop-l.invariant in
    arrives (forth_on h) (held_in h) g (next_put g c.next-l.ensures) c.if-l-eq0.false (sym c.allows.ensures ∙ c.if-allows.true)

pub loop-l-smaller : goal.loop-l-smaller
loop-l-smaller c =
    let h = c.requires in
    let g = c.loop-l.invariant in
    falls (forth_on h) (held_in h) g (next_put g c.next-l.ensures) c.if-l-eq0.false

pub loop-l-preserved : goal.loop-l-preserved
loop-l-preserved c =
    let h = c.requires in
    let g = c.loop-l.invariant in
    goes_on (forth_on h) (held_in h) g (next_put g c.next-l.ensures) c.if-l-eq0.false (sym c.allows.ensures ∙ c.if-allows.false)
