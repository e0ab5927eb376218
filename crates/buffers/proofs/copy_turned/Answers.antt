-- `buffers::copy_turned` writes a rotation: what stands behind the turn, then what stood before it, to what is left of the buffer.
use Rattle.std.proofs.Common.{rules}
use Rattle.std.proofs.lemmas.Slice.{overwrites}
use Rattle.buffers.proofs.copy_turned.Goals as goal

pub returns : goal.returns
returns c = search (rules, overwrites)
