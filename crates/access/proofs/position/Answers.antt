-- `access::position` is the place of a letter of a held word.
use native.Mathlib.Omega.{arith}
use Rattle.access.proofs.Ending.{ending_asks, ends_at}
use Rattle.access.proofs.position.Goals as goal

pub invariant_of-power : goal.invariant_of-power
invariant_of-power c = record { on = (ending_asks c.requires.0 c.extend.ensures).0 }

pub end_of-end-requires : goal.end_of-end-requires
end_of-end-requires c = (ending_asks c.requires.0 c.extend.ensures).1

pub overflow_sub-result : goal.overflow_sub-result
overflow_sub-result c =
    omega (arith, ends_at c.requires.0 c.extend.ensures c.end_of-end.ensures)

pub returns : goal.returns
returns c =
    let extended = c.extend.ensures in
    (omega (arith, ends_at c.requires.0 extended c.end_of-end.ensures), extended)
