-- Lines that programs print: the one of a refusal, and bytes that hold any.
use Rattle.std.specs.Prelude.{List, [], ◌∷◌, ℕ}
use Rattle.texts.specs.Texts.{decimal, fields}

-- the word refused
abbrev pub refused_text : List ℕ
refused_text = 114 ∷ 101 ∷ 102 ∷ 117 ∷ 115 ∷ 101 ∷ 100 ∷ []

abbrev pub refused_line : ℕ → List ℕ
refused_line f = fields refused_text (decimal f ∷ [])

-- bytes that hold any line
abbrev pub line : ℕ
line = 128
