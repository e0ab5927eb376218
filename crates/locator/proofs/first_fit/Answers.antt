use mathlib.Core.Path.{refl, sym, ◌∙◌}
use Prim.Native.Nat.{◌+◌, ◌-◌}
use native.Mathlib.Omega.{arith}
use lib.ListN.{length}
use Rattle.locator.proofs.Fits.{trial_on, trial_differs, trial_ends, fit_here, fit_on}
use Rattle.locator.proofs.first_fit.Goals as goal

pub loop-j-preserved : goal.loop-j-preserved
loop-j-preserved c =
    let t = c.args.text.now in
    let w = c.args.window.now in
    (refl, trial_on t w c.search.p c.loop-j.j (omega arith) c.loop-j.invariant.1 (omega arith) c.if-text-p.false)

pub search-preserved : goal.search-preserved
search-preserved c =
    let t = c.args.text.now in
    let w = c.args.window.now in
    let m = length t - length w + 1 in
    (omega arith, c.search.invariant.1 ∙ fit_on t w m c.search.p (omega arith) (trial_differs t w c.search.p c.loop-j.j (omega arith) c.loop-j.invariant.1 (omega arith) c.if-text-p.true))

pub returns-after-loop-j : goal.returns-after-loop-j
returns-after-loop-j c =
    let t = c.args.text.now in
    let w = c.args.window.now in
    let m = length t - length w + 1 in
    sym (c.search.invariant.1 ∙ fit_here t w m c.search.p (omega arith) (trial_ends t w c.search.p c.loop-j.j (omega arith) c.loop-j.invariant.1 (omega arith)))
