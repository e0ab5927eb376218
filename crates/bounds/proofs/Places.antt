-- A place on a ring or behind it, its fault, and what a check that passed says.
use mathlib.Core.Path.{◌≡◌, ◌∙◌, ap₂, subst}
use Prim.Native.Nat.{ℕ, ◌≤◌, ◌<◌}
use native.Mathlib.Omega.{arith}
use borrow.Author.Tests.{le-leb, lt-leb}
use Rattle.std.specs.Prelude.{Result, Ok}
use Rattle.theory.specs.Strips.{strip_fault}
use Rattle.shape.specs.declared.Strip as DS
use Rattle.shape.specs.declared.Lengths.{Lengths}
use Rattle.shape.specs.Rings.{size_of, size_in}
use Rattle.shape.proofs.Rings.{size_in_lem}
use Rattle.shape.specs.declared.ring.Place as DP
use Rattle.calls.specs.declared.refusal.Refusal.{Refusal}
use Rattle.calls.specs.Refusals.{ring_fault}
use Rattle.calls.specs.Checks.{StripOf}
use Rattle.bounds.specs.Places.{ChecksPlace, PlaceOf}

module _ (lengths : Lengths) (k n : ℕ) (p : ℕ) (s : DS.Strip) (on : StripOf k n s) where
  pub size_of_lem : size_in lengths s ≡ size_of lengths k n
  size_of_lem = size_in_lem lengths s ∙ ap₂ (size_of lengths) on.0 on.1

  pub place_large : strip_fault k n ≡ 0 → size_in lengths s ≤ p → 4 ≡ ring_fault lengths k n p
  place_large e h = rw (e, le-leb (size_of lengths k n) p (omega (arith, size_of_lem)))

  pub place_fine : strip_fault k n ≡ 0 → p < size_in lengths s → ring_fault lengths k n p ≡ 0
  place_fine e h = rw (e, lt-leb (size_of lengths k n) p (omega (arith, size_of_lem)))

-- the check, passed: the place of the ring of k and n, and it is on the ring
pub place_checked : (lengths : Lengths) (k n p : ℕ) {c : Result DP.Place Refusal} {x : DP.Place} → ChecksPlace lengths k n p c → c ≡ Ok x
    → PlaceOf lengths k n p x × (p < size_in lengths x.ring.strip)
place_checked lengths k n p {x = x} e g =
    let (fine, is) : (ring_fault lengths k n p ≡ 0) × PlaceOf lengths k n p x = subst (ChecksPlace lengths k n p) g e in
    let below : x.at < size_in lengths x.ring.strip = subst (λ l. x.at < size_in l x.ring.strip) is.1 x.on in
    (is, subst (λ q. q < size_in lengths x.ring.strip) is.2 below)
