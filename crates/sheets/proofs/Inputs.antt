-- An input: the bytes behind k and n are the word, on the strip if the check passes; not refused, its worksheet is the word's.
use mathlib.Core.Path.{◌≡◌, ap}
use mathlib.Core.List.{List}
use Prim.Native.Nat.{ℕ, ◌-◌}
use native.Mathlib.Omega.{arith}
use lib.ListN.{length, take, drop, length-drop}
use lib.Seq.{take_all}
use borrow.Author.Tests.{eq-eqb}
use Rattle.std.specs.Prelude.{Result, Ok}
use Rattle.theory.specs.Words.{pick}
use Rattle.shape.specs.declared.word.Word as DW
use Rattle.shape.specs.Shapes.{WordOn}
use Rattle.calls.specs.declared.refusal.Refusal.{Refusal}
use Rattle.calls.specs.Checks.{ChecksWord}
use Rattle.calls.proofs.Checks.{word_checked}
use Rattle.lines.specs.Lines.{refused_line}
use Rattle.sheets.specs.Worksheets.{letters, long, word_in, sheet, sheet_fault, worksheet}

-- the bytes lent from the third on
pub behind : (s : List ℕ) → take (length s - 2) (drop 2 s) ≡ word_in s
behind s = take_all (length s - 2) (drop 2 s) (omega (arith, length-drop 2 s))

pub fine_sheet : (s : List ℕ) → sheet_fault s ≡ 0 → worksheet s ≡ sheet (letters s) (word_in s)
fine_sheet s e = ap (λ b. pick b (sheet (letters s) (word_in s)) (refused_line (sheet_fault s))) (eq-eqb (sheet_fault s) 0 e)

pub on_strip : (s : List ℕ) {c : Result DW.Word Refusal} {x : DW.Word} → ChecksWord (sheet_fault s) (letters s) (long s) (word_in s) c → c ≡ Ok x → WordOn x.strip (word_in s)
on_strip s e h = (word_checked (letters s) (long s) (word_in s) e h).2
