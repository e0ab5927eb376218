-- `print_picture` answers the file's size, in a tray that holds the file.
use Rattle.std.proofs.Common.{length, refl, arith, ◌∙◌}
use mathlib.Core.Path.{ap}
use Rattle.buffers.specs.Buffers.{over}
use Rattle.calls.proofs.Answers.{beside_small, beside_answer}
use Rattle.pbm.specs.Pictures.{picture}
use Rattle.pictures.proofs.Framing.{same_file, checked_long}
use Rattle.pictures.proofs.print_picture.Goals as goal

pub returns-then-tray-size : goal.returns-then-tray-size
returns-then-tray-size c =
    let a = c.args in
    let b = picture a.k a.n a.place a.width a.height in
    let (fine, on) = c.in_ok-picture.ensures in
    beside_small (length b) b a.tray.now fine (omega (arith, checked_long c.in_ok-picture.picture on)) refl

pub returns : goal.returns
returns c =
    let a = c.args in
    let b = picture a.k a.n a.place a.width a.height in
    let (fine, on) = c.in_ok-picture.ensures in
    let long = checked_long c.in_ok-picture.picture on in
    beside_answer b a.tray.now fine (omega (arith, long)) (omega (arith, long)) (c.write.ensures ∙ ap (λ x. over x a.tray.now) (same_file c.in_ok-picture.picture on))
