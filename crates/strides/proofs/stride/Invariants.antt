-- `strides::stride` adds marks, each below 256.
use Prim.Native.Nat.{◌*◌, ◌≤◌}
use Rattle.strides.proofs.stride.Given as goal

abbrev pub invariant-loop : goal.invariant-loop
invariant-loop l = l.sum ≤ 256 * l.counter
