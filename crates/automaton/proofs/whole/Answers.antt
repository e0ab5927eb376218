-- `whole` meets its contract: what the antidiagonal leaves of all words is the size of CS.
use lib.ListN.{length}
use native.Mathlib.Omega.{arith}
use Rattle.automaton.proofs.Diagonals.{Size, size-whole, whole_is}
use borrow.Author.Rules.{rules}
use Rattle.automaton.proofs.whole.Goals.{After-fill}
use Rattle.automaton.proofs.whole.Goals as goal

-- the size of the whole word
size : (c : After-fill)
    → Size c.args.k c.args.w.now c.fill.new.t (length c.args.w.now) c.args.top
size c =
    size-whole c.args.k c.args.w.now c.fill.new.t c.requires.0 c.requires.1 c.fill.ensures c.args.top c.requires.2

pub diagonal-requires : goal.diagonal-requires
diagonal-requires c = omega (arith, size (goal.at.diagonal-requires c).After-fill, c.requires.0.short)

pub overflow_sub-result : goal.overflow_sub-result
overflow_sub-result c = omega (arith, size (goal.at.overflow_sub-result c).After-fill, c.diagonal.ensures)

pub returns : goal.returns
returns c =
    (whole_is c.args.k c.args.w.now c.fill.new.t c.args.top c.diagonal.result (size (goal.at.returns c).After-fill) c.diagonal.ensures, record { size = search rules })
