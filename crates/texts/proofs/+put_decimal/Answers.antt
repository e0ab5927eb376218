use mathlib.Core.Path.{sym}
use native.Mathlib.Omega.{arith}
use Rattle.texts.proofs.Decimals.{decimal_large, decimal_longer}
use Rattle.texts.proofs.Writing.{writes_as, writes_more, room_left}
use Rattle.texts.proofs.+put_decimal.Goals as goal

pub put_decimal-requires : goal.put_decimal-requires
put_decimal-requires t c = (omega arith, omega (arith, decimal_longer c.args.v (omega arith)))

pub byte-requires-2 : goal.byte-requires-2
byte-requires-2 t c = room_left 1 c.put_decimal.ensures (omega (arith, decimal_longer c.args.v (omega arith)))

pub returns : goal.returns
returns t c = writes_as (writes_more c.put_decimal.ensures c.byte-2.ensures) (sym (decimal_large c.args.v (omega arith)))
