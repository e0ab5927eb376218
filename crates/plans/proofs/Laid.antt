-- Whether a window is laid, by the test of its section.
use mathlib.Core.Path.{◌≡◌, sym}
use mathlib.Core.Bool.{true, false, false≢true}
use mathlib.Core.List.{List}
use Prim.Native.Nat.{ℕ}
use native.Mathlib.Omega.{arith}
use Rattle.std.specs.Prelude.{Option, Some, None}
use Rattle.std.specs.Option.{is_some}
use Rattle.theory.specs.Plans.{laying_at}
use Rattle.plans.specs.Accepted.{Lays}

pub laid_some : (s : List ℕ) (p : ℕ) (r : Option ℕ) → Lays s p r → true ≡ is_some r → ¬ (laying_at s p ≡ 0)
laid_some s p None h e = absurd (false≢true (sym e))
laid_some s p (Some i) h e = λ z. omega (arith, h, z)

pub laid_none : (s : List ℕ) (p : ℕ) (r : Option ℕ) → Lays s p r → false ≡ is_some r → laying_at s p ≡ 0
laid_none s p None h e = h
laid_none s p (Some i) h e = absurd (false≢true e)
