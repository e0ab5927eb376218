-- The lowest place that fits is on the strip, and laid; and its answer is what the smudged lookup promises.
use mathlib.Core.Path.{◌≡◌, refl, sym, ◌∙◌, ap, ap₂, subst}
use mathlib.Core.List.{List}
use Prim.Native.Nat.{ℕ, ◌<◌, ◌^◌}
use native.Mathlib.Omega.{arith}
use lib.ListN.{length}
use borrow.Author.Tests.{ne_eqb}
use Rattle.std.specs.Prelude.{Option, Some, None, IsSome}
use Rattle.theory.specs.Lists.{In}
use Rattle.theory.specs.Plans.{shades, marks}
use Rattle.theory.specs.Erasures.{fitting, smudge_fault, smudged_fault}
use Rattle.theory.proofs.Laying.{laid_some}
use Rattle.theory.proofs.Erasures.{fitting_in, lowest_in}
use Rattle.shape.specs.declared.Strip as DS
use Rattle.shape.proofs.Limits.{limits}
use Rattle.fitting.specs.Fits.{Finds}
use Rattle.calls.specs.Answers.{Into}
use Rattle.calls.proofs.Answers.{into_given}
use Rattle.plans.specs.Accepted.{Accepted, Lays}
use Rattle.lookups.specs.Says.{answer_at, SmudgedSays}

module _ {s : List ℕ} {x : DS.Strip} (a : Accepted s x) (w : List ℕ) {p : ℕ} (found : Finds s w (Some p)) where
  fits : In p (fitting s w)
  fits = subst (λ q. In q (fitting s w)) (sym found.1) (lowest_in s w found.0)

  pub place_small : p < 2 ^ 60
  place_small = omega (arith, (fitting_in s w fits).0, (limits x).range, ap₂ ◌^◌ a.letters a.marked)

  pub there : (r : Option ℕ) → Lays s p r → IsSome r
  there None h = absurd (laid_some s p (fitting_in s w fits).1 h)
  there (Some i) h = refl

  no_fault : smudge_fault x.k x.n w ≡ 0 → smudged_fault s w ≡ 0
  no_fault fine =
      let window : smudge_fault (shades s) (marks s) w ≡ 0 = ap₂ (λ k n. smudge_fault k n w) (sym a.letters) (sym a.marked) ∙ fine in
      rw (a.faultless, window, ne_eqb (length (fitting s w)) 0 found.0)

  pub answered : smudge_fault x.k x.n w ≡ 0 → (t : List ℕ) {t' : List ℕ} {r : ℕ} → Into 0 (answer_at s p) t t' r → SmudgedSays s w t t' r
  answered fine t given = into_given t (no_fault fine) (ap (answer_at s) found.1) given

-- the answer that is given for what the search found
pub found-lowest : {s : List ℕ} {x : DS.Strip} (a : Accepted s x) (w : List ℕ) → smudge_fault x.k x.n w ≡ 0 → {r : Option ℕ} → Finds s w r → {p : ℕ} → r ≡ Some p
    → (t : List ℕ) {t' : List ℕ} {q : ℕ} → Into 0 (answer_at s p) t t' q → SmudgedSays s w t t' q
found-lowest {s = s} a w fine finds e t g = answered a w (subst (Finds s w) e finds) fine t g
