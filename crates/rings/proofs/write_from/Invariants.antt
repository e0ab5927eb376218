-- `rings::write_from` writes the ring's letters: what is left of the word, then word after word, until the buffer is full.
use Prim.Native.Nat.{◌-◌}
use lib.ListN.{length, take}
use Rattle.theory.specs.Rings.{cursor, position_in}
use Rattle.shape.specs.Rings.{ok_of}
use Rattle.rings.proofs.Printing.{Printing}
use Rattle.rings.proofs.write_from.Given as goal

abbrev pub invariant-loop-filled : goal.invariant-loop-filled
invariant-loop-filled l = Printing l.ring.lengths l.ring.strip (position_in (ok_of l.ring.lengths) (cursor l.ring.strip.k l.ring.strip.n (take l.long l.initial.w) l.at)) l.initial.out l.w l.out l.l l.from l.filled

abbrev pub decreases-loop-filled : goal.decreases-loop-filled
decreases-loop-filled l = length l.initial.out - l.filled
