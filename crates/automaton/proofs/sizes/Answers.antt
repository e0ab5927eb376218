use borrow.Author.Rules.{rules}
use Prim.Native.Nat.{◌*◌}
use native.Mathlib.Omega.{arith}
use Rattle.automaton.specs.Tables.{Sized}
use Rattle.automaton.proofs.Diagonals.{Size, size_left}
use Rattle.automaton.proofs.Listing.{begun, ended, raised, skipped, stored}
use Rattle.automaton.proofs.sizes.Goals.{In-loop-d, then-n-d-eq0, else-n-d-eq0}
use Rattle.automaton.proofs.sizes.Goals as goal

pub loop-d-init : goal.loop-d-init
loop-d-init c = begun c.args.k c.args.w.now

-- the size at d, whether or not it is asked for
size : (c : In-loop-d)
    → let f = c.fill in
    let i = c.loop-d in
    Size c.args.k c.args.w.now f.new.t i.d (i.top * c.args.k)
size c =
    let i = c.loop-d in
    size_left c.args.k c.args.w.now c.fill.new.t c.requires.0 c.requires.1 c.fill.ensures i.d (i.top * c.args.k) (omega arith) (omega arith) (raised i.invariant (omega arith) (omega arith))

pub overflow_mul-top : goal.overflow_mul-top
overflow_mul-top c = omega (arith, size (goal.at.overflow_mul-top c).In-loop-d)

pub diagonal-requires : goal.diagonal-requires
diagonal-requires c = omega (arith, size (goal.at.diagonal-requires c).In-loop-d)

pub overflow_sub-out : goal.overflow_sub-out
overflow_sub-out c = omega (arith, size (goal.at.overflow_sub-out c).In-loop-d, c.diagonal.ensures)

pub loop-d-preserved : goal.loop-d-preserved
loop-d-preserved c =
    elim c.if-n-d-eq0.branch [
      | then-n-d-eq0 x ↦ rw x.out-is (stored c.loop-d.invariant (omega arith) (omega arith) c.requires.0 (size (goal.at.loop-d-preserved c).In-loop-d) x.diagonal.ensures)
      | else-n-d-eq0 x ↦ rw x.out-is (skipped c.loop-d.invariant (omega arith) (omega arith) x.if-n-d-eq0.false)
    ]

-- after the last length
pub returns-after-n-d-eq0 : goal.returns-after-n-d-eq0
returns-after-n-d-eq0 c =
    let sized : Sized c.args.k c.args.w.now c.if-n-d-eq0.out =
    elim c.if-n-d-eq0.branch [
      | then-n-d-eq0 x ↦ rw x.out-is (ended (stored c.loop-d.invariant (omega arith) (omega arith) c.requires.0 (size (goal.at.returns-after-n-d-eq0 c).In-loop-d) x.diagonal.ensures) (omega arith) (omega arith))
      | else-n-d-eq0 x ↦ rw x.out-is (ended (skipped c.loop-d.invariant (omega arith) (omega arith) x.if-n-d-eq0.false) (omega arith) (omega arith))
    ] in
    (sized, record { size = search rules })
