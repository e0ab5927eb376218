-- put_list: the changes by 1 to d − 1 are written.
use Prim.Native.Nat.{◌-◌}
use Rattle.theory.specs.Substitutions.{changes_for}
use Rattle.substitutions.proofs.Writing.{Writing}
use Rattle.substitutions.proofs.put_list.Given as goal

abbrev pub invariant-loop-d : goal.invariant-loop-d
invariant-loop-d l = Writing l.plan.sections.bytes.now l.w (changes_for l.plan.strip.k l.w) (l.plan.strip.k - 1) 1 l.initial.out l.out l.found (l.d - 1)
