-- `buffers::copy` puts the source's bytes over the start of the buffer. Invariant: the first i bytes are there, the others are as before.
use Rattle.buffers.specs.Buffers.{over}
use mathlib.Core.Path.{◌≡◌}
use lib.ListN.{take}
use Rattle.buffers.proofs.copy.Given as goal

abbrev pub invariant-loop-i : goal.invariant-loop-i
invariant-loop-i l = l.out ≡ over (take l.i l.src) l.initial.out
