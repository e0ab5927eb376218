-- A tray that is too small is told after the word's own faults.
use native.Mathlib.Omega.{arith}
use mathlib.Core.Path.{refl}
use Rattle.theory.specs.Words.{smallest, least_turn}
use Rattle.theory.proofs.Necklaces.{smallest-length}
use Rattle.calls.proofs.Answers.{beside_small}
use Rattle.words.proofs.smallest_rotation.Goals as goal

pub returns-then-tray-word : goal.returns-then-tray-word
returns-then-tray-word c =
    let a = c.args in
    let w = a.word.now in
    beside_small (least_turn w) (smallest w) a.tray.now c.in_ok-check_word.ensures.0 (omega (arith, smallest-length w)) refl
