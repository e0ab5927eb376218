use Prim.Native.Nat.{◌≤◌}
use mathlib.Core.Path.{◌≡◌, sym, ap, subst}
use native.Mathlib.Omega.{arith}
use Rattle.theory.specs.Plans.{sections}
use Rattle.plans.specs.Begun.{Between}
use Rattle.plans.proofs.Places.{anywhere, few, raise, lower}
use Rattle.plans.proofs.accepted.AcceptedPlan.begun.Goals.{In-loop-low}
use Rattle.plans.proofs.accepted.AcceptedPlan.begun.Goals as goal

pub loop-low-init : goal.loop-low-init
loop-low-init c =
    let plan = c.args.self.now in
    subst (Between c.args.place (sections plan.sections.bytes.now) 0) (sym c.count-high.ensures) (anywhere plan.accepted c.args.place)

-- a plan has few sections
few-left : (c : In-loop-low) → c.loop-low.high ≤ 500
few-left c = few c.args.self.now.accepted c.args.place c.loop-low.invariant

pub overflow_add-middle : goal.overflow_add-middle
overflow_add-middle c = omega (arith, few-left (goal.at.overflow_add-middle c).In-loop-low)

pub overflow_add-low : goal.overflow_add-low
overflow_add-low c = omega (arith, few-left (goal.at.overflow_add-low c).In-loop-low)

pub loop-low-preserved-then-section_at-place : goal.loop-low-preserved-then-section_at-place
loop-low-preserved-then-section_at-place c =
    raise c.args.self.now.accepted c.args.place c.loop-low.invariant _ (omega arith) (omega arith) (omega (arith, ap (λ x. x.offset) c.section_at.ensures))

pub loop-low-preserved : goal.loop-low-preserved
loop-low-preserved c =
    lower c.args.self.now.accepted c.args.place c.loop-low.invariant _ (omega arith) (omega arith) (omega (arith, ap (λ x. x.offset) c.section_at.ensures))

pub returns : goal.returns
returns c =
    let e : c.loop-low.high ≡ c.loop-low.low = omega arith in
    subst (Between c.args.place (sections c.args.self.now.sections.bytes.now) c.loop-low.low) e c.loop-low.invariant
