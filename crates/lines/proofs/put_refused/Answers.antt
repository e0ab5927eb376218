-- `lines::put_refused`: the word refused and a number.
use mathlib.Core.Path.{ap}
use mathlib.Core.List.{[], ◌∷◌, ◌++◌}
use native.Mathlib.Omega.{arith}
use Rattle.texts.proofs.Writing.{writes_as}
use Rattle.lines.specs.Lines.{refused_text, refused_line}
use Rattle.lines.proofs.Building.{Written, nothing, more, more_number, number_room}
use Rattle.lines.proofs.put_refused.Goals.{After-bytes}
use Rattle.lines.proofs.put_refused.Goals as goal

-- the word is written
word : (c : After-bytes) → Written c.args.text.now 8 (refused_text ++ (32 ∷ [])) c.bytes.new.self
word c = more (refused_text ++ (32 ∷ [])) 8 (nothing _) c.bytes.ensures (omega arith)

pub number-requires : goal.number-requires
number-requires c = number_room c.from.result (omega arith) (word (goal.at.number-requires c).After-bytes) (omega arith) c.requires

pub returns : goal.returns
returns c =
    let w = more_number c.from.result 10 (omega arith) (word (goal.at.returns c).After-bytes) c.number.ensures in
    writes_as w.writes (ap refused_line c.from.ensures)
