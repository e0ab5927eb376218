-- A word's digits. Invariant: those of the letters before this one are added.
use lib.ListN.{take}
use Rattle.texts.specs.Texts.{glyphs}
use Rattle.texts.specs.Writers.{Writes}
use Rattle.texts.proofs.Text.letters.Given as goal

abbrev pub invariant-loop-letter : goal.invariant-loop-letter
invariant-loop-letter l = Writes l.initial.self (glyphs (take l.letter-index l.word)) l.self
