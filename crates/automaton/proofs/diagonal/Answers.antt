use Prim.Native.Nat.{suc}
use native.Mathlib.Omega.{arith}
use Rattle.automaton.proofs.Diagonals.{diagonal_le}
use Rattle.automaton.proofs.diagonal.Goals as goal

pub overflow_add-sum-in-loop-q : goal.overflow_add-sum-in-loop-q
overflow_add-sum-in-loop-q c = omega (arith, diagonal_le c.args.t.now c.args.d (suc c.loop-q.q) c.args.d (omega arith))
