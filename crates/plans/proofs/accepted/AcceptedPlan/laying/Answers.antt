-- laying: only the last section that begins at the place or before it can hold the window's first letter.
use mathlib.Core.Path.{sym, ◌∙◌, subst}
use native.Mathlib.Omega.{arith}
use Rattle.theory.specs.Plans.{sections}
use Rattle.sections.specs.Read.{section_of}
use Rattle.plans.specs.Begun.{Begun}
use Rattle.plans.proofs.Places.{Looked, look, end_fits, nowhere, passed, whole, last, across, parted}
use Rattle.plans.proofs.accepted.AcceptedPlan.laying.Goals.{After-section_at-section}
use Rattle.plans.proofs.accepted.AcceptedPlan.laying.Goals as goal

pub returns-then-looked-eq0 : goal.returns-then-looked-eq0
returns-then-looked-eq0 c =
    nowhere c.args.self.now.accepted c.args.place (subst (Begun c.args.place (sections c.args.self.now.sections.bytes.now)) c.if-looked-eq0.true c.begun-looked.ensures)

-- the section that is looked at
seen : (c : After-section_at-section)
    → Looked c.args.self.now.accepted c.args.place c.begun-looked.result (section_of c.section_at-section.result)
seen c =
    look c.args.self.now.accepted c.args.place c.begun-looked.ensures (omega arith) c.section_at-section.ensures

pub overflow_add-end : goal.overflow_add-end
overflow_add-end c = omega (arith, end_fits c.args.self.now.accepted c.args.place (seen (goal.at.overflow_add-end c).After-section_at-section))

pub returns-then-end-place : goal.returns-then-end-place
returns-then-end-place c =
    passed c.args.self.now.accepted c.args.place (seen (goal.at.returns-then-end-place c).After-section_at-section) c.if-end-place.true

pub returns-then-place-self : goal.returns-then-place-self
returns-then-place-self c =
    whole c.args.self.now.accepted c.args.place (seen (goal.at.returns-then-place-self c).After-section_at-section) c.if-place-self.true ∙ omega (arith, c.if-looked-eq0.false)

pub returns-then-looked-count : goal.returns-then-looked-count
returns-then-looked-count c =
    last c.args.self.now.accepted c.args.place (seen (goal.at.returns-then-looked-count c).After-section_at-section) c.if-place-self.false (omega arith)

pub is_welded-requires : goal.is_welded-requires
is_welded-requires c =
    omega (arith, end_fits c.args.self.now.accepted c.args.place (seen (goal.at.is_welded-requires c).After-section_at-section))

pub returns-then-is_welded : goal.returns-then-is_welded
returns-then-is_welded c =
    across c.args.self.now.accepted c.args.place (seen (goal.at.returns-then-is_welded c).After-section_at-section) c.section_at.ensures (omega arith) (λ z. omega (arith, z)) (sym c.is_welded.ensures ∙ c.if-is_welded.true) ∙ omega (arith, c.if-looked-eq0.false)

pub returns : goal.returns
returns c =
    parted c.args.self.now.accepted c.args.place (seen (goal.at.returns c).After-section_at-section) c.section_at.ensures c.if-place-self.false (sym c.is_welded.ensures ∙ c.if-is_welded.false)
