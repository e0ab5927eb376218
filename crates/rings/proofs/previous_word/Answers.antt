use mathlib.Core.Path.{sym, ◌∙◌}
use native.Mathlib.Omega.{arith}
use Rattle.shape.proofs.Limits.{limits}
use Rattle.rings.specs.Moves.{last_word}
use Rattle.rings.proofs.Ways.{last_of_lem}
use Rattle.rings.proofs.Moving.{held_in, back_on_lem, way_starts, previous_put, asks_back, wraps, counts, falls, arrives, goes_on}
use Rattle.rings.proofs.previous_word.Goals as goal

pub loop-m-init : goal.loop-m-init
loop-m-init c = let h = c.requires in way_starts h (back_on_lem h)

pub previous-m-requires : goal.previous-m-requires
previous-m-requires c = let h = c.requires in let r = limits c.args.ring.strip in asks_back (back_on_lem h) (held_in h) c.loop-m.invariant r.two r.most

pub returns-then-m-eq0 : goal.returns-then-m-eq0
returns-then-m-eq0 c =
    let h = c.requires in
    let g = c.loop-m.invariant in
    let r = limits c.args.ring.strip in
    wraps (back_on_lem h) (held_in h) g (previous_put g c.previous-m.ensures) (last_word c.args.ring.lengths _) c.if-m-eq0.true (last_of_lem c.args.ring.lengths _ _ r.two r.some) c.put_last.ensures

pub overflow_add-count : goal.overflow_add-count
overflow_add-count c =
    let h = c.requires in
    let g = c.loop-m.invariant in
    omega (arith, (limits c.args.ring.strip).short, counts (back_on_lem h) (held_in h) g (previous_put g c.previous-m.ensures) c.if-m-eq0.false)

pub returns-then-allows : goal.returns-then-allows
returns-then-allows c =
    let h = c.requires in
    let g = c.loop-m.invariant in
    arrives (back_on_lem h) (held_in h) g (previous_put g c.previous-m.ensures) c.if-m-eq0.false (sym c.allows.ensures ∙ c.if-allows.true)

pub loop-m-smaller : goal.loop-m-smaller
loop-m-smaller c =
    let h = c.requires in
    let g = c.loop-m.invariant in
    falls (back_on_lem h) (held_in h) g (previous_put g c.previous-m.ensures) c.if-m-eq0.false

pub loop-m-preserved : goal.loop-m-preserved
loop-m-preserved c =
    let h = c.requires in
    let g = c.loop-m.invariant in
    goes_on (back_on_lem h) (held_in h) g (previous_put g c.previous-m.ensures) c.if-m-eq0.false (sym c.allows.ensures ∙ c.if-allows.false)
