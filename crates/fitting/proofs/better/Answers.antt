-- better: the filling, its place, and whether the window there is laid.
use mathlib.Core.Path.{◌≡◌, sym, ◌∙◌, ap, subst}
use native.Mathlib.Omega.{arith}
use Rattle.std.proofs.Common.{rules}
use Rattle.theory.specs.Strips.{place_of}
use Rattle.shape.specs.Shapes.{WordOn}
use Rattle.plans.proofs.Laid.{laid_some, laid_none}
use Rattle.fitting.proofs.Seeking.{filling_on_strip, spot, spot_small, not_lower, not_laid, lower}
use Rattle.fitting.proofs.better.Goals.{After-place_of-place, else-place-best-via-then-place-best+else-is_some, else-place-best-via-else-place-best}
use Rattle.fitting.proofs.better.Goals as goal

pub invariant_of-place_of : goal.invariant_of-place_of
invariant_of-place_of c = record { on = subst (WordOn c.args.plan.now.strip) (sym c.fill.ensures) (filling_on_strip c.requires c.args.c) }

place_is : (c : After-place_of-place) → let a = c.args in c.place_of-place.result ≡ spot a.plan.now.strip a.w.now a.c
place_is c = let strip = c.args.plan.now.strip in c.place_of-place.ensures ∙ ap (place_of strip.k strip.n) c.fill.ensures

pub laying-requires : goal.laying-requires
laying-requires c =
    omega (arith, place_is (goal.at.laying-requires c).After-place_of-place, spot_small c.requires c.args.c)

pub returns-then-is_some : goal.returns-then-is_some
returns-then-is_some c =
    let a = c.args in
    let s = a.plan.now.sections.bytes.now in
    lower s a.best (place_is (goal.at.returns-then-is_some c).After-place_of-place) c.if-place-best.true
    (laid_some s _ c.laying.result c.laying.ensures (search rules))

pub returns : goal.returns
returns c =
    let a = c.args in
    let s = a.plan.now.sections.bytes.now in
    let place = place_is (goal.at.returns c).After-place_of-place in
    elim c.else-place-best.branch [
      | else-place-best-via-then-place-best+else-is_some w ↦ not_laid s a.best place (laid_none s _ w.laying.result w.laying.ensures (search rules))
      | else-place-best-via-else-place-best w ↦ not_lower s a.best place w.if-place-best.false
    ]
