-- `is_good` tests a cursor's fields, whatever bytes they hold.
use mathlib.Core.Path.{◌≡◌, sym, ◌∙◌}
use native.Mathlib.Omega.{arith}
use lib.ListN.{length}
use borrow.Author.Rules.{rules}
use Rattle.cursors.proofs.Held.{untidy, tidied}
use Rattle.cursors.proofs.is_good.Goals.{Start, Else-long-gt-LONGEST}
use Rattle.cursors.proofs.is_good.Goals as goal

-- the start: the buffer has 60 bytes
sixty : (c : Start) → length c.args.c.word ≡ 60
sixty c = search rules

pub returns-then-letters_below : goal.returns-then-letters_below
returns-then-letters_below c =
    (rw (c.from-long.ensures, c.from.ensures, c.from-then-letters_below.ensures, c.from-then-letters_below-2.ensures) at c.is_on.ensures) ∙ sym (tidied c.args.lengths c.args.c (sixty (goal.at.returns-then-letters_below c).Start) (omega arith) (rw c.from-long.ensures at (sym c.if-letters_below.true ∙ c.letters_below.ensures)))

pub returns : goal.returns
returns c =
    sym (untidy c.args.lengths c.args.c (sixty (goal.at.returns c).Start) (rw c.from-long.ensures at (sym c.if-letters_below.false ∙ c.letters_below.ensures)))
