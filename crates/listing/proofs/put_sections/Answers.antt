use mathlib.Core.Path.{ap}
use native.Mathlib.Omega.{arith}
use Rattle.theory.proofs.Records.{sections_count}
use Rattle.theory.proofs.Laying.{accepted_whole}
use Rattle.listing.proofs.Openings.{section_starts}
use Rattle.listing.proofs.Sections.{line-room, one_more, all_lines}
use Rattle.listing.proofs.put_sections.Goals as goal

pub put_section-requires : goal.put_section-requires
put_section-requires c =
    let plan = c.args.plan.now in (
      omega (arith, ap (λ x. x.offset) c.section_at.ensures, section_starts plan.accepted c.loop-i.i (omega arith)),
      line-room c.loop-i.invariant c.requires.0 (omega (arith, accepted_whole plan.sections.bytes.now plan.accepted.faultless)) c.requires.1,
    )

pub loop-i-preserved : goal.loop-i-preserved
loop-i-preserved c =
    one_more c.loop-i.invariant c.put_section.ensures.0 c.put_section.ensures.1 c.section_at.ensures (omega (arith, sections_count c.args.plan.now.sections.bytes.now))

pub returns : goal.returns
returns c = all_lines c.loop-i.invariant (omega (arith, sections_count c.args.plan.now.sections.bytes.now))
