-- begun: the number sought is between low and high.
use Prim.Native.Nat.{◌-◌}
use Rattle.theory.specs.Plans.{sections}
use Rattle.plans.specs.Begun.{Between}
use Rattle.plans.proofs.accepted.AcceptedPlan.begun.Given as goal

abbrev pub invariant-loop-low : goal.invariant-loop-low
invariant-loop-low l = Between l.place (sections l.self.sections.bytes.now) l.low l.high

abbrev pub decreases-loop-low : goal.decreases-loop-low
decreases-loop-low l = l.high - l.low
