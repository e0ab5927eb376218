use mathlib.Core.Path.{sym, ◌∙◌}
use Rattle.rings.proofs.Printing.{print_starts, print_ends, print_goes_on}
use Rattle.rings.proofs.write_from.Goals as goal

pub loop-filled-init : goal.loop-filled-init
loop-filled-init c = print_starts c.args.at c.args.out.now c.requires.0 c.requires.1

pub loop-filled-preserved : goal.loop-filled-preserved
loop-filled-preserved c =
    print_goes_on c.loop-filled.invariant c.loop-filled-test.true c.put_word-filled.ensures.0 c.put_word-filled.ensures.1 c.next_word-l.ensures

pub returns : goal.returns
returns c = (print_ends c.loop-filled.invariant c.loop-filled-test.false, record { size = c.loop-filled.invariant.held.size ∙ sym c.requires.0.size })
