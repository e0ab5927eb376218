-- `rings::previous_word` steps back through the Lyndon words of at most n letters, down to the ring's word before, and counts them.
use lib.ListN.{take}
use Rattle.shape.specs.Rings.{ok_of}
use Rattle.rings.proofs.Directions.{ahead}
use Rattle.rings.proofs.Ways.{back}
use Rattle.rings.proofs.Moving.{Going}
use Rattle.rings.proofs.previous_word.Given as goal

abbrev pub invariant-loop-m : goal.invariant-loop-m
invariant-loop-m l = Going (back (ok_of l.ring.lengths l.n) l.k l.n) (ok_of l.ring.lengths l.n) l.k l.n (take l.long l.initial.w) l.w l.m l.count

abbrev pub decreases-loop-m : goal.decreases-loop-m
decreases-loop-m l = ahead (back (ok_of l.ring.lengths l.n) l.k l.n) l.k l.n (take l.m l.w)
