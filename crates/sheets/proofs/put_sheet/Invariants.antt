-- `sheets::put_sheet`: a line for each divisor. Invariant: the lines of the first i numbers from n downwards are added.
use Prim.Native.Nat.{◌*◌}
use lib.IntN.{pos}
use Rattle.theory.specs.Sums.{divisors_in}
use Rattle.moebius.specs.Summands.{summand}
use Rattle.lines.specs.Lines.{line}
use Rattle.lines.proofs.Building.{Written}
use Rattle.sheets.specs.Worksheets.{sheet_from}
use Rattle.sheets.proofs.put_sheet.Given as goal

abbrev pub invariant-loop-i : goal.invariant-loop-i
invariant-loop-i l = Written l.initial.text (line * l.i) (sheet_from (summand l.s.n l.sizes) (pos 0) (divisors_in l.s.n l.i)) l.text
