use mathlib.Core.Path.{refl, sym}
use native.Mathlib.Omega.{arith}
use native.Mathlib.Nat.{zero-add}
use Rattle.substitutions.proofs.Writing.{writing_room, writing_more}
use Rattle.substitutions.proofs.Tried.put_marks.Goals as goal

pub put_mark-found-requires : goal.put_mark-found-requires
put_mark-found-requires c =
    (writing_room c.loop-j.invariant (omega arith) (sym (zero-add c.loop-j.j)), omega arith, c.requires.1)

pub loop-j-preserved : goal.loop-j-preserved
loop-j-preserved c =
    writing_more c.loop-j.invariant (omega arith) (sym (zero-add c.loop-j.j)) refl c.put_mark-found.ensures
