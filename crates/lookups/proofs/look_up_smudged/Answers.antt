-- What fits is laid.
use mathlib.Core.Path.{◌≡◌, subst}
use native.Mathlib.Omega.{arith}
use Rattle.std.proofs.Common.{rules}
use Rattle.std.specs.Prelude.{Some}
use Rattle.calls.specs.Codes.{number_of}
use Rattle.fitting.specs.Fits.{Finds}
use Rattle.lookups.specs.Says.{SmudgedSays}
use Rattle.lookups.proofs.Fitting.{place_small, there, answered}
use Rattle.lookups.proofs.look_up_smudged.Goals.{In_ok-place}
use Rattle.lookups.proofs.look_up_smudged.Goals as goal

-- the place that was found
found : (c : In_ok-place) → Finds c.in_ok-accepted.accepted.sections.bytes.now c.args.window.now (Some c.in_ok-place.place)
found c =
    let is : c.find.result ≡ Some c.in_ok-place.place = grind arith in
    rw is at c.find.ensures

pub laying-requires : goal.laying-requires
laying-requires c =
    place_small c.in_ok-accepted.accepted.accepted c.args.window.now (found (goal.at.laying-requires c).In_ok-place)

pub unwrap-section-requires : goal.unwrap-section-requires
unwrap-section-requires c =
    there c.in_ok-accepted.accepted.accepted c.args.window.now (found (goal.at.unwrap-section-requires c).In_ok-place) c.laying.result c.laying.ensures

pub returns : goal.returns
returns c =
    let a = c.args in
    let plan = c.in_ok-accepted.accepted.accepted in
    let says = answered plan a.window.now (found (goal.at.returns c).In_ok-place) (search rules) a.tray.now c.give.ensures in
    subst (λ s. SmudgedSays s a.window.now a.tray.now c.give.new.tray (number_of c.give.result)) c.in_ok-accepted.ensures.1 says
