-- `listing::put_section`: the number, offset and length of a section, and its first window.
use mathlib.Core.List.{[], ◌∷◌, ◌++◌}
use native.Mathlib.Omega.{arith}
use borrow.Author.Rules.{rules}
use Rattle.texts.specs.Texts.{glyphs}
use Rattle.texts.proofs.Writing.{writes_as}
use Rattle.sections.specs.Read.{section_of}
use Rattle.listing.proofs.Sections.{window_short, digits_short, window_digits, section_text}
use Rattle.lines.proofs.Building.{Written, spaced, nothing, more, more_number, room, number_room}
use Rattle.listing.proofs.put_section.Goals.{After-letters-2, After-number, After-number-2, After-number-3}
use Rattle.listing.proofs.put_section.Goals as goal

-- the number is written
number : (c : After-number) → Written c.args.text.now 21 (spaced [] c.args.i) c.number.new.self
number c = more_number c.args.i 32 (search rules) (nothing _) c.number.ensures

-- the offset is written
offset : (c : After-number-2) → Written c.args.text.now 42 (spaced (spaced [] c.args.i) c.args.section.offset) c.number-2.new.self
offset c =
    let first = more_number c.args.i 32 (search rules) (nothing c.args.text.now) c.number.ensures in
    more_number c.args.section.offset 32 (search rules) first c.number-2.ensures

-- the length is written
numbers : (c : After-number-3) → Written c.args.text.now 42 (spaced (spaced [] c.args.i) c.args.section.offset) c.number-2.new.self →
    Written c.args.text.now 63 (spaced (spaced (spaced [] c.args.i) c.args.section.offset) c.args.section.long) c.number-3.new.self
numbers c two = more_number c.args.section.long 32 (search rules) two c.number-3.ensures

-- the digits of the window are written
digits : (c : After-letters-2) → Written c.args.text.now 63 (spaced (spaced (spaced [] c.args.i) c.args.section.offset) c.args.section.long) c.number-3.new.self →
    Written c.args.text.now 123 (spaced (spaced (spaced [] c.args.i) c.args.section.offset) c.args.section.long ++ glyphs c.letters.new.out) c.letters-2.new.self
digits c three = more _ 60 three c.letters-2.ensures (digits_short c.args.s (section_of c.args.section) c.letters.ensures)

pub number-requires : goal.number-requires
number-requires c = number_room c.args.i (search rules) (nothing c.args.text.now) (omega arith) c.requires.1

pub number-requires-2 : goal.number-requires-2
number-requires-2 c = number_room c.args.section.offset (search rules) (number (goal.at.number-requires-2 c).After-number) (omega arith) c.requires.1

pub number-requires-3 : goal.number-requires-3
number-requires-3 c = number_room c.args.section.long (search rules) (offset (goal.at.number-requires-3 c).After-number-2) (omega arith) c.requires.1

pub letters-requires-2 : goal.letters-requires-2
letters-requires-2 c =
    let at = goal.at.letters-requires-2 c in
    let three = numbers at.After-number-3 (offset at.After-number-2) in
    let short = window_short c.args.s (section_of c.args.section) c.letters.ensures in
    (omega (arith, short, room 60 three (omega arith) c.requires.1), window_digits c.args.s (section_of c.args.section) c.letters.ensures)

pub bytes-requires : goal.bytes-requires
bytes-requires c =
    let at = goal.at.bytes-requires c in
    room 1 (digits at.After-letters-2 (numbers at.After-number-3 (offset at.After-number-2))) (omega arith) c.requires.1

pub returns : goal.returns
returns c =
    let at = goal.at.returns c in
    let four = digits at.After-letters-2 (numbers at.After-number-3 (offset at.After-number-2)) in
    let w = more (10 ∷ []) 1 four c.bytes.ensures (omega arith) in
    (writes_as w.writes (section_text c.args.s (section_of c.args.section) c.letters.ensures c.args.i), omega (arith, w.few, w.writes.adds.ends))
