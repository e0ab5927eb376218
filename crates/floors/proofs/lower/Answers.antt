-- lower: one more letter was tried in vain.
use mathlib.Core.Path.{sym, ◌∙◌}
use native.Mathlib.Omega.{arith}
use Rattle.floors.proofs.Lowering.{lowering_none, lowering_zero, lowering_more}
use Rattle.floors.proofs.lower.Goals as goal
use Rattle.floors.proofs.lower.Goals.{then-a-gt0+else-is_necklace, else-a-gt0}

pub loop-i-init : goal.loop-i-init
loop-i-init c = lowering_none c.requires.lettered

pub loop-i-preserved : goal.loop-i-preserved
loop-i-preserved c =
    elim c.if-a-gt0.branch [
      | then-a-gt0+else-is_necklace w ↦ lowering_more c.loop-i.invariant (omega arith) w.w-is (sym w.is_necklace.ensures ∙ w.if-is_necklace.false)
      | else-a-gt0 w ↦ lowering_zero c.loop-i.invariant (omega arith) w.w-is (omega arith)
    ]
