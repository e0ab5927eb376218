-- `listing::put_sections`: a line for each section. Invariant: the lines of the first i sections are added.
use Rattle.theory.specs.Plans.{sections}
use Rattle.listing.proofs.Sections.{Lines}
use Rattle.listing.proofs.put_sections.Given as goal

abbrev pub invariant-loop-i : goal.invariant-loop-i
invariant-loop-i l = Lines l.plan.strip.k l.plan.strip.n (sections l.plan.sections.bytes.now) l.i l.initial.text l.text
