use Prim.Native.Nat.{◌+◌, ◌-◌, ◌<◌}
use mathlib.Core.Path.{◌≡◌, sym, subst}
use native.Mathlib.Omega.{arith}
use lib.ListN.{length, get_or}
use Rattle.std.proofs.lemmas.Bool.Decides.{nat_tests}
use Rattle.lyndon.proofs.PrePeriods.{Periodic, periodic_start, periodic_keep, periodic_raise, periodic_fall, periodic_end}
use Rattle.lyndon.proofs.pre_period.Goals as goal
use Rattle.lyndon.proofs.pre_period.Goals.{then-b-a, else-b-a}

pub loop-i-init : goal.loop-i-init
loop-i-init c =
    let w = c.args.w.now in
    let some : 0 < length w = grind (arith, nat_tests) in
    (omega arith, omega arith, periodic_start w some)

pub returns-then-a-b : goal.returns-then-a-b
returns-then-a-b c =
    sym (periodic_fall c.args.w.now c.loop-i.p c.loop-i.i (omega arith) c.loop-i.invariant.2 c.if-a-b.true)

pub loop-i-preserved : goal.loop-i-preserved
loop-i-preserved c =
    let w = c.args.w.now in
    elim c.if-b-a.branch [
      | then-b-a t ↦ (omega arith, omega arith, subst (λ p. Periodic w p (c.loop-i.i + 1)) (sym t.p-is) (periodic_raise w c.loop-i.p c.loop-i.i (omega arith) c.loop-i.invariant.2 t.if-b-a.true))
      | else-b-a t ↦
          let even : get_or w c.loop-i.i 0 ≡ get_or w (c.loop-i.i - c.loop-i.p) 0 = omega arith in
          (omega arith, omega arith, subst (λ p. Periodic w p (c.loop-i.i + 1)) (sym t.p-is) (periodic_keep w c.loop-i.p c.loop-i.i (omega arith) c.loop-i.invariant.2 even))
    ]

pub returns : goal.returns
returns c =
    let w = c.args.w.now in
    let end : c.loop-i.i ≡ length w = grind (arith, nat_tests) in
    sym (periodic_end w c.loop-i.p c.loop-i.i end c.loop-i.invariant.2)
