-- `picture_of` passes a refusal on: the size is not told.
use Rattle.std.proofs.Common.{length, arith}
use Rattle.std.proofs.lemmas.Result.{err_from_is_err_and}
use Rattle.calls.specs.Refusals.{picture_fault}
use Rattle.calls.proofs.Answers.{untold}
use Rattle.pbm.specs.Pictures.{picture}
use Rattle.pictures.proofs.picture_of.Goals as goal

pub returns-in_err-total : goal.returns-in_err-total
returns-in_err-total c =
    let a = c.args in
    let b = picture a.k a.n a.place a.width a.height in
    let p = err_from_is_err_and c.from_residual-in_err-total.result c.from_residual-in_err-total.ensures.1 in
    rw (p.1, p.2) (untold (picture_fault a.k a.n a.place a.width a.height) (length b) b a.size.now a.tray.now (omega arith) c.in_err-total.field-0.0 c.in_err-total.ensures)
