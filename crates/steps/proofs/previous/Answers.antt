-- `steps::previous` meets its contract: the buffer holds an extension of the word before, which is cut to that word.
use Rattle.steps.proofs.Backing.{before_zero, before_is}
use Rattle.steps.proofs.previous.Goals as goal

pub returns-then-a-eq0 : goal.returns-then-a-eq0
returns-then-a-eq0 c =
    before_zero c.requires.0 c.requires.1 c.if-a-eq0.true c.fill.ensures

pub returns : goal.returns
returns c =
    before_is c.requires.0 c.requires.1 c.if-a-eq0.false c.fill-2.ensures c.pre_period-l.ensures c.fill-3.ensures
