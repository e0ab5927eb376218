-- `listing::text`: the strip and the sections of an accepted plan.
use Rattle.std.proofs.Common.{rules, ◌∙◌}
use mathlib.Core.Path.{ap}
use Rattle.texts.specs.Writers.{Writes}
use Rattle.texts.proofs.Writing.{writes_as, writes_more}
use Rattle.listing.specs.Listings.{listing}
use Rattle.listing.proofs.Openings.{accepted_text}
use Rattle.listing.proofs.text.Goals as goal
use Rattle.listing.proofs.text.Goals.{in-Ok, in-Err}

pub returns : goal.returns
returns c =
    let plan = c.args.plan.now in
    let written : Writes c.from-listing.result (listing plan) c.match-open.listing =
    elim c.match-open.branch [
      | in-Ok w ↦ rw w.listing-is (writes_as (writes_more w.put_strip.ensures.0 w.put_sections.ensures) (accepted_text w.in-Ok.accepted.accepted ∙ ap listing w.in-Ok.ensures.1))
      | in-Err w ↦ rw w.listing-is (writes_as w.put_refused.ensures (search rules))
    ] in
    search rules
