use mathlib.Core.Path.{refl}
use native.Mathlib.Omega.{arith}
use Rattle.substitutions.proofs.Writing.{writing_room, writing_more}
use Rattle.substitutions.proofs.put_list.Goals as goal

pub put_marks-found-requires : goal.put_marks-found-requires
put_marks-found-requires c =
    (writing_room c.loop-d.invariant (omega arith) (omega arith), omega arith)

pub overflow_add-found : goal.overflow_add-found
overflow_add-found c = omega (arith, (writing_more c.loop-d.invariant (omega arith) (omega arith) refl c.put_marks-found.ensures).few)

pub loop-d-preserved : goal.loop-d-preserved
loop-d-preserved c = writing_more c.loop-d.invariant (omega arith) (omega arith) (omega arith) c.put_marks-found.ensures
