-- `listing::put_strip`: the word strip, then k, n and k^n.
use mathlib.Core.List.{[], ◌∷◌, ◌++◌}
use native.Mathlib.Omega.{arith}
use Rattle.texts.proofs.Writing.{writes_as}
use Rattle.listing.specs.Listings.{strip_text}
use Rattle.lines.proofs.Building.{Written, spaced, nothing, more, more_number, number_room}
use Rattle.listing.proofs.Fields.{strip_text_lem, strip_fits}
use Rattle.listing.proofs.put_strip.Goals.{After-bytes, After-number, After-number-2}
use Rattle.listing.proofs.put_strip.Goals as goal

-- the word is written
word : (c : After-bytes) → Written c.args.text.now 6 (strip_text ++ (32 ∷ [])) c.bytes.new.self
word c = more (strip_text ++ (32 ∷ [])) 6 (nothing _) c.bytes.ensures (omega arith)

-- k is written
shades : (c : After-number) → Written c.args.text.now 6 (strip_text ++ (32 ∷ [])) c.bytes.new.self →
    Written c.args.text.now 27 (spaced (strip_text ++ (32 ∷ [])) c.args.s.k) c.number.new.self
shades c first = more_number _ 32 (strip_fits c.args.s).0 first c.number.ensures

-- n is written
marks : (c : After-number-2) → Written c.args.text.now 27 (spaced (strip_text ++ (32 ∷ [])) c.args.s.k) c.number.new.self →
    Written c.args.text.now 48 (spaced (spaced (strip_text ++ (32 ∷ [])) c.args.s.k) c.args.s.n) c.number-2.new.self
marks c two = more_number _ 32 (strip_fits c.args.s).1 two c.number-2.ensures

pub number-requires : goal.number-requires
number-requires c = number_room _ (strip_fits c.args.s).0 (word (goal.at.number-requires c).After-bytes) (omega arith) c.requires

pub number-requires-2 : goal.number-requires-2
number-requires-2 c =
    let at = goal.at.number-requires-2 c in
    number_room _ (strip_fits c.args.s).1 (shades at.After-number (word at.After-bytes)) (omega arith) c.requires

pub number-requires-3 : goal.number-requires-3
number-requires-3 c =
    let at = goal.at.number-requires-3 c in
    number_room _ (strip_fits c.args.s).2 (marks at.After-number-2 (shades at.After-number (word at.After-bytes))) (omega arith) c.requires

pub returns : goal.returns
returns c =
    let at = goal.at.returns c in
    let three = marks at.After-number-2 (shades at.After-number (word at.After-bytes)) in
    let w = more_number _ 10 (strip_fits c.args.s).2 three c.number-3.ensures in
    (writes_as w.writes (strip_text_lem c.args.s), omega (arith, w.few, w.writes.adds.ends))
