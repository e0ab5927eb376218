-- is_straight: the sections that are left follow one that ends at `end`.
use mathlib.Core.Path.{◌≡◌}
use Rattle.theory.specs.Plans.{sections, straight_from}
use Rattle.plans.proofs.is_straight.Given as goal

abbrev pub invariant-loop-section : goal.invariant-loop-section
invariant-loop-section l = straight_from l.n l.top 0 (sections l.plan.bytes.now) ≡ straight_from l.n l.top l.end l.section-iterator
