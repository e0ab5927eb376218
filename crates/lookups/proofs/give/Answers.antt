-- `give` puts the section's number, the distance and the rail over the start of a tray that has room for them.
use mathlib.Core.Path.{◌≡◌, refl, ◌∙◌, ap}
use mathlib.Core.List.{List, ◌++◌}
use Prim.Native.Nat.{ℕ, ◌-◌}
use native.Mathlib.Omega.{arith}
use lib.ListN.{length}
use borrow.Rule.Slice.PartMut.{put_mid}
use Rattle.buffers.specs.Buffers.{over}
use Rattle.numbers.specs.Numbers.{put_be}
use Rattle.buffers.proofs.Bytes.{handed_on}
use Rattle.numbers.proofs.Numbers.{put-length}
use Rattle.calls.proofs.Answers.{into_answer}
use Rattle.lookups.specs.Says.{answer_at}
use Rattle.lookups.proofs.Laying.{section_inside, starts_before, bytes_are}
use Rattle.lookups.proofs.give.Goals.{After-put-2}
use Rattle.lookups.proofs.give.Goals as goal

-- the answer's bytes ahead of the rail, for what a section's number and a distance are
abbrev front : ℕ → ℕ → List ℕ
front number distance = put_be 2 number ++ put_be 8 distance

-- these are written
front-written : (c : After-put-2) → put_mid 2 (length c.put.new.out - 2) c.put.new.out c.put-2.new.out ≡ over (front c.args.spot.now.section (c.args.spot.now.place - c.section_at.result.offset)) c.args.tray.now
front-written c =
    let a = c.args in
    handed_on (put_be 2 a.spot.now.section) (put_be 8 (a.spot.now.place - c.section_at.result.offset)) a.tray.now c.put.new.out c.put-2.new.out 2 (put-length 2 a.spot.now.section) c.put.ensures c.put-2.ensures (omega arith)

pub section_at-requires : goal.section_at-requires
section_at-requires c = section_inside c.requires

pub overflow_sub-distance : goal.overflow_sub-distance
overflow_sub-distance c = starts_before c.requires c.section_at.ensures

pub rail_of-requires : goal.rail_of-requires
rail_of-requires c = section_inside c.requires

pub returns : goal.returns
returns c =
    into_answer (answer_at c.args.spot.now.plan.sections.bytes.now c.args.spot.now.place) c.args.tray.now refl (omega arith) refl
    (handed_on (front c.args.spot.now.section (c.args.spot.now.place - c.section_at.result.offset)) (put_be 2 c.rail_of.result) c.args.tray.now _ c.put-3.new.out 10 refl (front-written (goal.at.returns c).After-put-2) c.put-3.ensures (omega arith)
    ∙ ap (λ b. over b c.args.tray.now) (bytes_are c.requires c.section_at.ensures c.rail_of.ensures))
