-- fault: the tests one after the other.
use mathlib.Core.Path.{sym, ◌∙◌}
use native.Mathlib.Omega.{arith}
use Rattle.erasures.proofs.Scans.{wrong_length, too_smudged, letters_told}
use Rattle.erasures.proofs.check_window.Goals as goal

pub returns-then-w-n : goal.returns-then-w-n
returns-then-w-n c = let a = c.args in wrong_length a.k a.n a.w.now c.if-w-n.true

pub returns-then-count_unread-gt-MOST : goal.returns-then-count_unread-gt-MOST
returns-then-count_unread-gt-MOST c =
    let a = c.args in
    too_smudged a.k a.n a.w.now (omega arith) (omega arith)

pub returns-then-read_below : goal.returns-then-read_below
returns-then-read_below c =
    let a = c.args in
    letters_told a.k a.n a.w.now (omega arith) (omega arith) (sym c.if-read_below.true ∙ c.read_below.ensures)

pub returns : goal.returns
returns c =
    let a = c.args in
    letters_told a.k a.n a.w.now (omega arith) (omega arith) (sym c.if-read_below.false ∙ c.read_below.ensures)
