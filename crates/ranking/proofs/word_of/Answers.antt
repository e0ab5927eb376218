-- A tray that is too small is told after the index's own faults.
use mathlib.Core.Path.{◌≡◌, refl, sym, ◌∙◌, ap₂}
use native.Mathlib.Omega.{arith}
use lib.ListN.{length}
use Rattle.theory.specs.Words.{word_of}
use Rattle.theory.proofs.Ranks.{undone}
use Rattle.calls.proofs.Answers.{into_small}
use Rattle.ranking.proofs.word_of.Goals as goal

pub returns-then-tray-long : goal.returns-then-tray-long
returns-then-tray-long c =
    let a = c.args in
    let s = c.in_ok-strip.strip in
    let e = c.in_ok-strip.ensures in
    let long : length (word_of a.k a.n a.index) ≡ a.n =
    ap₂ (λ k n. length (word_of k n a.index)) (sym e.strip.1.0) (sym e.strip.1.1) ∙ (undone.index_word s.k s.n a.index e.within.0 e.within.1).0 ∙ e.strip.1.1 in
    into_small (word_of a.k a.n a.index) a.tray.now e.strip.0 (omega (arith, long)) refl refl
