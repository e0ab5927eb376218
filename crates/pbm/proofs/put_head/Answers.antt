-- `put_head` writes the line P1, then width and height.
use native.Mathlib.Omega.{arith}
use lib.ListN.{length}
use Rattle.std.proofs.Common.{rules}
use Rattle.texts.specs.Writers.{HasRoom}
use Rattle.pbm.specs.Pictures.{head_text}
use Rattle.pbm.proofs.Heads.{width_room, height_room, whole_head}
use Rattle.pbm.proofs.Rows.{head_length}
use Rattle.pbm.proofs.put_head.Goals.{After-from-text}
use Rattle.pbm.proofs.put_head.Goals as goal

-- the writer has the room of the buffer
fits : (c : After-from-text) → HasRoom c.from-text.result (length (head_text c.args.width c.args.height))
fits c = search rules

pub bytes-requires : goal.bytes-requires
bytes-requires c = omega (arith, head_length c.args.width c.args.height, fits (goal.at.bytes-requires c).After-from-text)

pub number-requires : goal.number-requires
number-requires c = width_room c.args.width c.args.height c.bytes.ensures (fits (goal.at.number-requires c).After-from-text)

pub number-requires-2 : goal.number-requires-2
number-requires-2 c = height_room c.args.width c.args.height c.bytes.ensures (fits (goal.at.number-requires-2 c).After-from-text) c.number.ensures

pub returns : goal.returns
returns c =
    let w = whole_head c.args.width c.args.height c.bytes.ensures (fits (goal.at.returns c).After-from-text) c.number.ensures c.number-2.ensures in
    search rules
