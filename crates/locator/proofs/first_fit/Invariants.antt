-- `locator::first_fit`: no offset before p fits, and at p the first j letters agree.
use mathlib.Core.Path.{◌≡◌}
use Prim.Native.Nat.{◌-◌}
use Rattle.locator.specs.Fits.{fit_from, first_fit}
use Rattle.locator.proofs.Fits.{Trial}
use Rattle.locator.proofs.first_fit.Given as goal

abbrev pub invariant-loop-j : goal.invariant-loop-j
invariant-loop-j l = (l.found ≡ l.initial.found) × Trial l.text l.window l.p l.j

abbrev pub invariant-search : goal.invariant-search
invariant-search l = (l.found ≡ l.offsets) × (first_fit l.text l.window ≡ fit_from (l.offsets - l.p) l.p l.text l.window)
