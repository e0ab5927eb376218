-- `sheets::text`: the sheet of the word.
use mathlib.Core.Path.{sym, ◌∙◌, ap₂}
use Rattle.std.proofs.Common.{rules}
use Rattle.texts.specs.Writers.{Writes}
use Rattle.texts.proofs.Writing.{writes_as}
use Rattle.sheets.specs.Worksheets.{sheet, worksheet}
use Rattle.sheets.proofs.Inputs.{fine_sheet}
use Rattle.sheets.proofs.text.Goals as goal
use Rattle.sheets.proofs.text.Goals.{in-Ok, in-Err}

pub returns : goal.returns
returns c =
    let s = c.args.input.now in
    let written : Writes c.from-sheet.result (worksheet s) c.match-check.sheet =
    elim c.match-check.branch [
      | in-Ok w ↦
          let checked = w.in-Ok.ensures in
          rw w.sheet-is (writes_as w.put_sheet.ensures (ap₂ sheet checked.1.0 checked.2 ∙ sym (fine_sheet s checked.0)))
      | in-Err w ↦ rw w.sheet-is (writes_as w.put_refused.ensures (search rules))
    ] in
    search rules
