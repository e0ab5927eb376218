-- `locator::place_of` meets its contract: at the wrap, or at the first fit in the letters from the base word on.
use mathlib.Core.Path.{sym, ◌∙◌}
use Prim.Native.Nat.{◌-◌}
use native.Mathlib.Omega.{arith}
use lib.ListN.{replicate}
use lib.Seq.{length-take-le}
use Rattle.locator.proofs.Leading.{leading_length}
use Rattle.locator.proofs.Locates.{Located, place_small, base_counted}
use Rattle.locator.proofs.Computed.{counts_inside, wrapped_inside, wrapped_place, turn_based, turn_located, rotated, letters_short, word_held, word_inside, text_place}
use Rattle.locator.proofs.place_of.Goals.{After-base, After-count_leading-lead, After-letters-1, After-shortest_root-long, After-text-2-1}
use Rattle.locator.proofs.place_of.Goals as goal

pub slice_bounds-count_leading-count : goal.slice_bounds-count_leading-count
slice_bounds-count_leading-count c = let a = c.args in omega (arith, c.count_leading-lead.ensures, leading_length (a.window.strip.k - 1) a.window.letters.now)

pub slice_bounds-count_leading-start : goal.slice_bounds-count_leading-start
slice_bounds-count_leading-start c = omega (arith, slice_bounds-count_leading-count (goal.at.slice_bounds-count_leading-start c).After-count_leading-lead)

pub overflow_add-lead : goal.overflow_add-lead
overflow_add-lead c = omega (arith, counts_inside c.args.window.on c.count_leading-lead.ensures c.count_leading.ensures, c.well_formed)

pub wrapped-requires : goal.wrapped-requires
wrapped-requires c =
    wrapped_inside c.args.window.on c.count_leading-lead.ensures c.count_leading.ensures c.if-lead-count_leading.true

pub returns-then-lead-count_leading : goal.returns-then-lead-count_leading
returns-then-lead-count_leading c =
    c.wrapped.ensures
    ∙ wrapped_place c.args.window.on c.count_leading-lead.ensures c.count_leading.ensures c.if-lead-count_leading.true

pub base-requires : goal.base-requires
base-requires c =
    turn_based c.args.window.on c.count_leading-lead.ensures c.count_leading.ensures c.if-lead-count_leading.false
    c.smallest-turn.ensures.0 (rotated c.args.window.on c.smallest-turn.ensures.1)

-- after `base`: the word from which on the window is looked for
located : (c : After-base) → let a = c.args in Located a.window.strip.k a.window.strip.n a.window.letters.now c.smallest-turn.result c.base.new.v
located c =
    turn_located c.args.window.on c.count_leading-lead.ensures c.count_leading.ensures c.if-lead-count_leading.false
    c.smallest-turn.ensures.0 (rotated c.args.window.on c.smallest-turn.ensures.1) c.base.ensures

pub end_of-end-requires : goal.end_of-end-requires
end_of-end-requires c = base_counted c.args.window.on (located (goal.at.end_of-end-requires c).After-base)

-- the word and as many letters as the window has fit the buffer
pub slice_bounds-letters-end : goal.slice_bounds-letters-end
slice_bounds-letters-end c = letters_short c.args.window.on (located (goal.at.slice_bounds-letters-end c).After-base) c.shortest_root-long.ensures

pub overflow_add-letters : goal.overflow_add-letters
overflow_add-letters c = omega (arith, slice_bounds-letters-end (goal.at.overflow_add-letters c).After-shortest_root-long)

pub slice_bounds-text-end : goal.slice_bounds-text-end
slice_bounds-text-end c = sym (length-take-le _ (replicate 120 0) (slice_bounds-letters-end (goal.at.slice_bounds-text-end c).After-shortest_root-long))

pub write_from-requires : goal.write_from-requires
write_from-requires c = word_held c.args.window.on (located (goal.at.write_from-requires c).After-base) c.shortest_root-long.ensures

pub overflow_sub-result : goal.overflow_sub-result
overflow_sub-result c =
    word_inside c.args.window.on (located (goal.at.overflow_sub-result c).After-base) c.shortest_root-long.ensures c.end_of-end.ensures

-- at the end: the sum is the place, so it is small
pub returns : goal.returns
returns c =
    text_place c.args.window.on (located (goal.at.returns c).After-base) c.shortest_root-long.ensures c.write_from.ensures.0
    (sym (slice_bounds-text-end (goal.at.returns c).After-letters-1)) c.end_of-end.ensures c.first_fit.ensures

pub overflow_add-result : goal.overflow_add-result
overflow_add-result c =
    omega (arith, returns (goal.at.overflow_add-result c).After-text-2-1, place_small c.args.window.on)
