-- `short::place_of` is where the window's first letters end, by the rank of its base, less their number.
use mathlib.Core.Path.{◌≡◌, sym, ◌∙◌, ap}
use Prim.Native.Nat.{◌+◌}
use native.Mathlib.Omega.{arith}
use lib.Dec.{ltb}
use lib.ListN.{length, replicate}
use lib.Seq.{length-take-le}
use Rattle.theory.specs.Words.{pick, smallest}
use Rattle.theory.specs.Shorts.{short_place_of}
use Rattle.theory.proofs.Necklaces.{smallest-length}
use Rattle.buffers.proofs.Bytes.{over-whole}
use Rattle.shape.proofs.Limits.{limits}
use Rattle.locator.specs.Fits.{cleared}
use Rattle.ranks.proofs.Shapes.{rank-counted}
use Rattle.short.proofs.Placing.{turn_short, base_on, own_front, first_end}
use Rattle.short.proofs.place_of.Goals.{After-base, After-end_of-end, After-room-1, After-smallest-turn}
use Rattle.short.proofs.place_of.Goals as goal

pub slice_bounds-v-end : goal.slice_bounds-v-end
slice_bounds-v-end c = sym (length-take-le _ (replicate 60 0) (omega (arith, c.args.window.on.long, (limits c.args.window.strip).short)))

-- after `smallest`: the buffer holds the smallest rotation
rotation : (c : After-smallest-turn) → c.smallest-turn.new.out ≡ smallest c.args.window.letters.now
rotation c =
    let w = c.args.window.letters.now in
    c.smallest-turn.ensures.1 ∙ over-whole (smallest w) _ (smallest-length w ∙ sym (length-take-le _ (replicate 60 0) (omega (arith, c.args.window.on.long, (limits c.args.window.strip).short))))

pub base-requires : goal.base-requires
base-requires c =
    let w = c.args.window.letters.now in
    omega (arith, turn_short c.args.window.on c.requires c.smallest-turn.ensures.0, ap length (rotation (goal.at.base-requires c).After-smallest-turn), smallest-length w, c.args.window.on.long)

is_base : (c : After-base) → c.smallest-turn.new.out ≡ smallest c.args.window.letters.now
    → let w = c.args.window.letters.now in
    c.base.new.v ≡ pick (ltb c.count_leading.result c.smallest-turn.result) (smallest w) (cleared c.smallest-turn.result (smallest w))
is_base c r =
    c.base.ensures ∙ ap (λ v. pick (ltb c.count_leading.result c.smallest-turn.result) v (cleared c.smallest-turn.result v)) r

pub invariant_of-of_word : goal.invariant_of-of_word
invariant_of-of_word c =
    record { on = base_on c.args.window.on c.requires c.smallest-turn.ensures.0 c.count_leading.ensures (is_base (goal.at.invariant_of-of_word c).After-base (rotation (goal.at.invariant_of-of_word c).After-smallest-turn)) }

pub end_of-end-requires : goal.end_of-end-requires
end_of-end-requires c =
    omega (arith, c.of_word.ensures, rank-counted (base_on c.args.window.on c.requires c.smallest-turn.ensures.0 c.count_leading.ensures (is_base (goal.at.end_of-end-requires c).After-base (rotation (goal.at.end_of-end-requires c).After-smallest-turn))))

own : (c : After-end_of-end) (is : c.base.new.v ≡ pick (ltb c.count_leading.result c.smallest-turn.result) (smallest c.args.window.letters.now) (cleared c.smallest-turn.result (smallest c.args.window.letters.now)))
    → let a = c.args.window in
    c.smallest-turn.result ≡ 0 → short_place_of a.strip.k a.strip.n a.letters.now + a.strip.n ≡ c.end_of-end.result
own c is =
    own_front c.args.window.on c.requires c.smallest-turn.ensures.0 c.count_leading.ensures is c.of_word.ensures c.end_of-end.ensures

ends : (c : After-end_of-end) (is : c.base.new.v ≡ pick (ltb c.count_leading.result c.smallest-turn.result) (smallest c.args.window.letters.now) (cleared c.smallest-turn.result (smallest c.args.window.letters.now)))
    → let a = c.args.window in
    let turn = c.smallest-turn.result in
    ¬ (turn ≡ 0) → short_place_of a.strip.k a.strip.n a.letters.now + turn ≡ c.end_of-end.result
ends c is =
    first_end c.args.window.on c.requires c.smallest-turn.ensures.0 c.count_leading.ensures is c.of_word.ensures c.end_of-end.ensures

pub overflow_sub-result : goal.overflow_sub-result
overflow_sub-result c = omega (arith, own (goal.at.overflow_sub-result c).After-end_of-end (is_base (goal.at.overflow_sub-result c).After-base (rotation (goal.at.overflow_sub-result c).After-smallest-turn)) c.if-turn-eq0.true)

pub returns-then-turn-eq0 : goal.returns-then-turn-eq0
returns-then-turn-eq0 c = omega (arith, own (goal.at.returns-then-turn-eq0 c).After-end_of-end (is_base (goal.at.returns-then-turn-eq0 c).After-base (rotation (goal.at.returns-then-turn-eq0 c).After-smallest-turn)) c.if-turn-eq0.true)

pub overflow_sub-result-2 : goal.overflow_sub-result-2
overflow_sub-result-2 c = omega (arith, ends (goal.at.overflow_sub-result-2 c).After-end_of-end (is_base (goal.at.overflow_sub-result-2 c).After-base (rotation (goal.at.overflow_sub-result-2 c).After-smallest-turn)) c.if-turn-eq0.false)

pub returns : goal.returns
returns c = omega (arith, ends (goal.at.returns c).After-end_of-end (is_base (goal.at.returns c).After-base (rotation (goal.at.returns c).After-smallest-turn)) c.if-turn-eq0.false)
