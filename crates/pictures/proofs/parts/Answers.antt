-- `parts` reads a request; refused, it has no parts.
use Rattle.std.proofs.Common.{◌≡◌, arith, ◌∙◌}
use Rattle.calls.proofs.Answers.{code_some}
use Rattle.pictures.specs.Requests.{Request, request}
use Rattle.pictures.proofs.Requesting.{refused, parted}
use Rattle.pictures.proofs.parts.Goals.{After-check}
use Rattle.pictures.proofs.parts.Goals as goal

-- the numbers that were read
abbrev asked : After-check → Request
asked c = record { shades = c.from-k.result; marks = c.from-n.result; place = c.get-place.result; width = c.get-width.result; height = c.get-height.result }

is : (c : After-check) → asked c ≡ request c.args.request.now
is c = cc

pub returns-in_default : goal.returns-in_default
returns-in_default c =
    let at = (goal.at.returns-in_default c).After-check in
    refused c.args.request.now c.args.out.now (asked at) (is at) (λ z. code_some c.in_default.field-0 (c.in_default.ensures ∙ z))

pub returns : goal.returns
returns c =
    let at = (goal.at.returns c).After-check in
    let (fine, on) = c.in-Ok.ensures in
    parted c.args.request.now c.args.out.now (asked at) (is at) (omega arith) (omega arith) fine (rw (on.0.0, on.0.1, on.1, on.2, on.3) at c.begin.ensures)
