use mathlib.Core.Path.{◌≡◌}
use mathlib.Core.List.{[], ◌∷◌, ◌++◌}
use Prim.Native.Nat.{◌+◌}
use native.Mathlib.Omega.{arith}
use lib.ListN.{take}
use lib.Seq.{length-take-le}
use Rattle.theory.proofs.Letters.{marks_getD}
use Rattle.texts.specs.Texts.{glyphs}
use Rattle.texts.proofs.Digits.{glyphs-length, glyphs_more}
use Rattle.texts.proofs.Writing.{writes_as, writes_more, room_left}
use Rattle.texts.proofs.Text.letters.Goals as goal

pub digit-requires : goal.digit-requires
digit-requires c = marks_getD 36 c.args.word.now c.loop-letter.letter-index (omega arith) c.requires.1

pub byte-requires : goal.byte-requires
byte-requires c =
    let i = c.loop-letter.letter-index in
    let w = c.args.word.now in
    room_left 1 c.loop-letter.invariant (omega (arith, glyphs-length (take i w), length-take-le i w (omega arith)))

pub loop-letter-preserved : goal.loop-letter-preserved
loop-letter-preserved c =
    let i = c.loop-letter.letter-index in
    let w = c.args.word.now in
    let text : glyphs (take i w) ++ (c.digit.result ∷ []) ≡ glyphs (take (i + 1) w) = cc (glyphs_more w i (omega arith), c.digit.ensures) in
    writes_as (writes_more c.loop-letter.invariant c.byte.ensures) text
