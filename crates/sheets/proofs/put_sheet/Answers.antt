use mathlib.Core.Path.{◌≡◌, ◌∙◌, ap}
use native.Mathlib.Omega.{arith}
use lib.IntN.{pos}
use Rattle.theory.specs.Sums.{divisors_in}
use Rattle.moebius.specs.Summands.{summand}
use Rattle.texts.proofs.Writing.{writes_as}
use Rattle.lines.proofs.Building.{more_line}
use Rattle.sheets.specs.Worksheets.{sheet_from}
use Rattle.sheets.proofs.Rows.{lines_next, sized_sheet}
use Rattle.sheets.proofs.put_sheet.Goals as goal

pub loop-i-preserved : goal.loop-i-preserved
loop-i-preserved c =
    let text = lines_next (summand c.args.word.strip.n c.sizes_of-sizes.result) c.args.word.strip.n c.loop-i.i (omega arith) in
    more_line c.loop-i.i _ _ c.loop-i.invariant c.put_line.ensures.0 c.put_line.ensures.1 text

pub returns : goal.returns
returns c =
    let n = c.args.word.strip.n in
    let done : c.loop-i.i ≡ n = omega arith in
    writes_as c.loop-i.invariant.writes (ap (λ i. sheet_from (summand n c.sizes_of-sizes.result) (pos 0) (divisors_in n i)) done ∙ sized_sheet c.args.word.on c.sizes_of-sizes.ensures)
