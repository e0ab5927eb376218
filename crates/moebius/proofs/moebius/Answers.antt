-- The value read from the table is the Möbius value of n. The table stands in the code alone: where `returns` names the values by their definition, antt
-- computes all sixty and compares them with it.
use mathlib.Core.Path.{◌≡◌, sym, ◌∙◌, ap}
use mathlib.Core.List.{List, [], ◌∷◌}
use Prim.Native.Nat.{ℕ, zero, suc, ◌+◌, ◌-◌, ◌<◌}
use native.Mathlib.Nat.{add-zero, suc-add, add-suc}
use native.Mathlib.Omega.{arith}
use lib.IntN.{ℤ, pos}
use lib.ListN.{get_or}
use mir.Syntax.{w8}
use mir.Val.{to_z, of_z}
use mir.ValLaws.{to_z-of_z}
use Rattle.theory.specs.Sums.{mobius}
use Rattle.moebius.proofs.Signed.{mobius_small, fits8}
use Rattle.moebius.proofs.moebius.Goals as goal

-- the Möbius values of l numbers from d on
abbrev valuesFrom : ℕ → ℕ → List ℤ
valuesFrom zero d = []
valuesFrom (suc l) d = mobius d ∷ valuesFrom l (suc d)

value-at : (l d i : ℕ) → i < l → get_or (valuesFrom l d) i (pos 0) ≡ mobius (d + i)
value-at zero d i h = absurd (omega arith)
value-at (suc l) d zero h = ap mobius (sym (add-zero d))
value-at (suc l) d (suc i) h = value-at l (suc d) i (omega arith) ∙ ap mobius (suc-add d i ∙ sym (add-suc d i))

pub returns : goal.returns
returns c =
    let n = c.args.n in
    let e : 1 + (n - 1) ≡ n = omega arith in
    let read : get_or (valuesFrom 60 1) (n - 1) (pos 0) ≡ mobius n = value-at 60 1 (n - 1) (omega arith) ∙ ap mobius e in
    ap (λ x. to_z w8 (of_z w8 x)) read ∙ to_z-of_z w8 (mobius n) (fits8 (mobius n) (omega (arith, mobius_small n)))
