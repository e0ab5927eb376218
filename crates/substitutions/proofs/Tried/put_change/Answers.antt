-- put_change: the window copied and changed, its place, and the entry if it is laid there.
use mathlib.Core.Path.{◌≡◌, sym, ◌∙◌, ap, subst}
use native.Mathlib.Omega.{arith}
use lib.ListN.{set, replicate}
use lib.Seq.{length-take-le}
use Rattle.std.proofs.Common.{rules}
use Rattle.theory.specs.Strips.{place_of}
use Rattle.theory.specs.Substitutions.{change, changed}
use Rattle.buffers.proofs.Bytes.{over-whole}
use Rattle.numbers.specs.Numbers.{put_be}
use Rattle.shape.specs.Shapes.{WordOn}
use Rattle.shape.proofs.Limits.{limits}
use Rattle.plans.proofs.Laid.{laid_some, laid_none}
use Rattle.substitutions.proofs.Changing.{two_bytes, changed_on_strip, new_place_small, wrote_not, wrote_one}
use Rattle.substitutions.proofs.Tried.put_change.Goals.{After-copy, After-place_of-place, After-put}
use Rattle.substitutions.proofs.Tried.put_change.Goals as goal

-- the copy is the window, of at most 60 letters
copied : (c : After-copy) → c.copy.new.out ≡ c.args.self.now.window.now
copied c =
    let t = c.args.self.now in
    c.copy.ensures ∙ over-whole _ _ (sym (length-take-le _ (replicate 60 0) (omega (arith, t.word.long, (limits t.plan.strip).short))))

pub invariant_of-place_of : goal.invariant_of-place_of
invariant_of-place_of c =
    let a = c.args in
    let t = a.self.now in
    record { on = subst (λ v. WordOn t.plan.strip (set v a.j a.a)) (sym (copied (goal.at.invariant_of-place_of c).After-copy)) (changed_on_strip t.plan.accepted t.word a.j c.requires.2) }

-- and, with the letter, the window so changed
place_is : (c : After-place_of-place) → let a = c.args in let t = a.self.now in c.place_of-place.result ≡ place_of t.plan.strip.k t.plan.strip.n (changed (change a.j a.a) t.window.now)
place_is c =
    let a = c.args in
    let t = a.self.now in
    c.place_of-place.ensures ∙ ap (λ v. place_of t.plan.strip.k t.plan.strip.n (set v a.j a.a)) (copied (goal.at.After-place_of-place c).After-copy)

pub laying-requires : goal.laying-requires
laying-requires c =
    let t = c.args.self.now in
    omega (arith, place_is (goal.at.laying-requires c).After-place_of-place, new_place_small t.plan.accepted t.word c.args.j c.requires.2)

pub returns-then-is_none : goal.returns-then-is_none
returns-then-is_none c =
    let a = c.args in
    let t = a.self.now in
    wrote_not t.plan.accepted t.word a.j c.requires.2 (place_is (goal.at.returns-then-is_none c).After-place_of-place) a.out.now
    (laid_none t.plan.sections.bytes.now _ c.laying.result c.laying.ensures (search rules))

pub returns : goal.returns
returns c =
    let a = c.args in
    let t = a.self.now in
    wrote_one t.plan.accepted t.word a.j c.requires.2 (place_is (goal.at.returns c).After-place_of-place) a.out.now
    (laid_some t.plan.sections.bytes.now _ c.laying.result c.laying.ensures (search rules))
    (two_bytes a.j a.a (put_be 8 c.place_of-place.result) a.out.now _ (omega (arith, c.requires.0)) c.put.ensures)
