-- `sheets::put_line`: of a divisor, its line: the divisor, its term and the sum with it.
use mathlib.Core.Path.{◌≡◌, sym, ◌∙◌, ap₂}
use mathlib.Core.List.{[], ◌∷◌, ◌++◌}
use Prim.Native.Nat.{◌+◌, ◌-◌, ◌^◌, ◌<◌}
use native.Mathlib.Omega.{arith}
use lib.IntN.{ℤ, pos, nat_abs}
use mir.Syntax.{w64}
use mir.Val.{to_z, of_z}
use mir.ValLaws.{to_z-of_z}
use Rattle.theory.specs.Sums.{running, divisors_in}
use Rattle.moebius.specs.Summands.{summand}
use Rattle.moebius.proofs.Passed.{entry_small, term_range, sum_range}
use Rattle.texts.specs.Texts.{decimal, signed}
use Rattle.texts.proofs.Writing.{writes_as}
use Rattle.texts.proofs.Signs.{signed_fits}
use Rattle.lines.proofs.Building.{Written, nothing, more_field, field_room, more_number}
use Rattle.sheets.specs.Worksheets.{sheet_line}
use Rattle.sheets.proofs.Rows.{three, divisor-line}
use Rattle.sheets.proofs.put_line.Goals.{After-divisor_sum-sum, After-number, After-signed}
use Rattle.sheets.proofs.put_line.Goals as goal

pub term-term-requires : goal.term-term-requires
term-term-requires c =
    (omega arith, omega arith, c.requires.0.short, entry_small c.args.k c.args.n c.args.sizes.now c.requires.0 _ (omega arith))

-- a signed number as it is handed on
abbrev seen : ℤ → ℤ
seen x = to_z w64 (of_z w64 x)

the_term : (c : After-divisor_sum-sum) → let a = c.args in (seen c.term-term.result ≡ summand a.n a.sizes.now (a.n - a.i)) × (nat_abs (seen c.term-term.result) < 2 ^ 63)
the_term c =
    let is = to_z-of_z w64 c.term-term.result (record { sfits = c.term-term.type_inv }) ∙ c.term-term.ensures in
    (is, rw is (term_range c.args.k c.args.n c.args.sizes.now c.requires.0 (c.args.n - c.args.i) (omega arith)))

the_sum : (c : After-divisor_sum-sum) → let a = c.args in
    (seen c.divisor_sum-sum.result ≡ running (summand a.n a.sizes.now) (pos 0) (divisors_in a.n (a.i + 1))) × (nat_abs (seen c.divisor_sum-sum.result) < 2 ^ 63)
the_sum c =
    let is = to_z-of_z w64 c.divisor_sum-sum.result (record { sfits = c.divisor_sum-sum.type_inv }) ∙ c.divisor_sum-sum.ensures in
    (is, rw is (sum_range c.args.k c.args.n c.args.sizes.now c.requires.0 (c.args.i + 1)))

divisor : (c : After-number) → let a = c.args in Written a.text.now 21 ([] ++ (decimal (a.n - a.i) ++ (32 ∷ []))) c.number.new.self
divisor c = let a = c.args in more_number (a.n - a.i) 32 (omega arith) (nothing _) c.number.ensures

pub signed-requires : goal.signed-requires
signed-requires c =
    let (_, small) = the_term (goal.at.signed-requires c).After-divisor_sum-sum in
    (small, field_room (signed (seen c.term-term.result)) (signed_fits (seen c.term-term.result) small) (divisor (goal.at.signed-requires c).After-number) (omega arith) c.requires.2)

both : (c : After-signed) → nat_abs (seen c.term-term.result) < 2 ^ 63
    → let a = c.args in
    Written a.text.now 21 ([] ++ (decimal (a.n - a.i) ++ (32 ∷ []))) c.number.new.self
    → Written a.text.now 42 (([] ++ (decimal (a.n - a.i) ++ (32 ∷ []))) ++ (signed (seen c.term-term.result) ++ (32 ∷ []))) c.signed.new.self
both c small d = more_field (signed (seen c.term-term.result)) 32 (signed_fits (seen c.term-term.result) small) d c.signed.ensures

pub signed-requires-2 : goal.signed-requires-2
signed-requires-2 c =
    let at = goal.at.signed-requires-2 c in
    let (_, small) = the_sum at.After-divisor_sum-sum in
    (small, field_room (signed (seen c.divisor_sum-sum.result)) (signed_fits (seen c.divisor_sum-sum.result) small) (both at.After-signed (the_term at.After-divisor_sum-sum).1 (divisor at.After-number)) (omega arith) c.requires.2)

pub returns : goal.returns
returns c =
    let a = c.args in
    let at = goal.at.returns c in
    let (term, small) = the_term at.After-divisor_sum-sum in
    let (sum, fits) = the_sum at.After-divisor_sum-sum in
    let w = more_field (signed (seen c.divisor_sum-sum.result)) 10 (signed_fits (seen c.divisor_sum-sum.result) fits) (both at.After-signed small (divisor at.After-number)) c.signed-2.ensures in
    let d = a.n - a.i in
    let text = three (decimal d) (signed (seen c.term-term.result)) (signed (seen c.divisor_sum-sum.result)) ∙ ap₂ (sheet_line d) term sum ∙ sym (divisor-line (summand a.n a.sizes.now) a.n a.i c.if-n-d-ne0.false) in
    (writes_as w.writes text, omega (arith, w.few, w.writes.adds.ends))
