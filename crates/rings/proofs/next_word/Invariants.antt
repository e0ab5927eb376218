-- `rings::next_word` steps through the Lyndon words of at most n letters, up to the ring's next word, and counts them.
use lib.ListN.{take}
use Rattle.shape.specs.Rings.{ok_of}
use Rattle.rings.proofs.Directions.{ahead}
use Rattle.rings.proofs.Ways.{forth}
use Rattle.rings.proofs.Moving.{Going}
use Rattle.rings.proofs.next_word.Given as goal

abbrev pub invariant-loop-l : goal.invariant-loop-l
invariant-loop-l l = Going (forth (ok_of l.ring.lengths l.n) l.k l.n) (ok_of l.ring.lengths l.n) l.k l.n (take l.long l.initial.w) l.w l.l l.passed

abbrev pub decreases-loop-l : goal.decreases-loop-l
decreases-loop-l l = ahead (forth (ok_of l.ring.lengths l.n) l.k l.n) l.k l.n (take l.l l.w)
