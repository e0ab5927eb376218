use native.Mathlib.Omega.{arith}
use Rattle.search.proofs.Searches.{search_asks, search_next, search_end}
use Rattle.search.proofs.find.Goals as goal

pub letter-c-requires : goal.letter-c-requires
letter-c-requires c =
    search_asks c.args.s _ c.requires.0 c.loop-j.invariant (omega arith) c.back-from.ensures

pub loop-j-preserved : goal.loop-j-preserved
loop-j-preserved c =
    search_next c.args.s _ c.requires.0 c.loop-j.invariant (omega arith) c.back-from.ensures c.letter-c.ensures c.period_with-period.ensures

pub returns : goal.returns
returns c = search_end c.args.s _ c.requires.0 c.loop-j.invariant (omega arith)
