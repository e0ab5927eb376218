-- put_mark: the change down, and behind it the change up.
use native.Mathlib.Omega.{arith}
use lib.ListN.{get_or, length-append}
use Rattle.theory.specs.Substitutions.{changes_down, changes_up}
use Rattle.substitutions.proofs.Writing.{wrote_on}
use Rattle.substitutions.proofs.Tried.put_mark.Goals as goal

pub returns : goal.returns
returns c =
    let a = c.args in
    let t = a.self.now in
    let b = get_or t.window.now a.j 0 in
    wrote_on c.put_down-found.ensures (changes_up t.plan.strip.k a.d a.j b) (omega (arith, c.requires.0, length-append (changes_down a.d a.j b) (changes_up t.plan.strip.k a.d a.j b))) c.put_up.ensures
