use native.Mathlib.Omega.{arith}
use Rattle.pbm.proofs.Spreading.{behind, spread_line, spread_mark, spread_all}
use Rattle.pbm.proofs.spread.Goals.{then-at-eq-LINE, else-at-eq-LINE}
use Rattle.pbm.proofs.spread.Goals as goal

pub bounds-out-at : goal.bounds-out-at
bounds-out-at c = omega (arith, behind c.loop-i.invariant (omega arith))

-- a mark follows where the line is not full, or a new one is begun
pub loop-i-preserved : goal.loop-i-preserved
loop-i-preserved c =
    let l = c.loop-i in
    let a = c.args in
    elim c.if-at-eq-LINE.branch [
      | then-at-eq-LINE x ↦ rw (x.out-is, x.at-is) (spread_mark (spread_line l.invariant (omega arith) x.if-at-eq-LINE.true) (omega arith) (omega (arith, x.if-at-eq-LINE.true)))
      | else-at-eq-LINE x ↦ rw (x.out-is, x.at-is) (spread_mark l.invariant (omega arith) (omega (arith, x.if-at-eq-LINE.false)))
    ]

pub returns : goal.returns
returns c = spread_all c.loop-i.invariant (omega arith)
