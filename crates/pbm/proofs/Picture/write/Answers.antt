-- `write` puts the head and one row, and repeats the row up to the file's end.
use native.Mathlib.Omega.{arith}
use Rattle.pbm.proofs.Drawing.{rows_small, ends_there, end_fits, row-lent, file_drawn}
use Rattle.pbm.proofs.Picture.write.Goals as goal

pub overflow_mul-total : goal.overflow_mul-total
overflow_mul-total c = omega (arith, rows_small c.args.self.drawable c.begin-parts.ensures)

pub overflow_add-total : goal.overflow_add-total
overflow_add-total c = omega (arith, ends_there c.args.self.drawable c.begin-parts.ensures, c.requires)

pub slice_bounds-extend-end : goal.slice_bounds-extend-end
slice_bounds-extend-end c = end_fits c.args.self.drawable c.begin-parts.ensures c.requires c.begin-parts.auto.out

pub extend-requires : goal.extend-requires
extend-requires c = row-lent c.args.self.drawable c.begin-parts.ensures c.requires c.begin-parts.auto.out

pub returns : goal.returns
returns c = file_drawn c.args.self.drawable c.begin-parts.ensures c.requires c.begin-parts.auto.out c.extend.ensures
