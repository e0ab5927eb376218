-- pre_period: the length of the Lyndon word that the word extends, or 0. The first i letters extend a Lyndon word of length p.
use Prim.Native.Nat.{◌≤◌}
use Rattle.lyndon.proofs.PrePeriods.{Periodic}
use Rattle.lyndon.proofs.pre_period.Given as goal

abbrev pub invariant-loop-i : goal.invariant-loop-i
invariant-loop-i l = (1 ≤ l.p) × (l.p ≤ l.i) × Periodic l.w l.p l.i
