-- The necklace from whose root word on a window is looked for, as it comes from the smallest rotation.
use mathlib.Core.Path.{◌≡◌, sym, ap, ap₂}
use mathlib.Core.List.{List, ◌++◌}
use Prim.Native.Nat.{ℕ, ◌-◌, ◌≤◌, ◌<◌}
use native.Mathlib.Omega.{arith}
use lib.ListN.{length, take, drop, replicate, length-drop}
use lib.Seq.{take_at}
use borrow.Author.Tests.{lt-ltb, le-ltb}
use Rattle.theory.proofs.Turns.{turned-length}
use Rattle.theory.specs.Words.{pick, turned}
use Rattle.theory.specs.Floors.{necklace_below}
use Rattle.locator.specs.Fits.{cleared, base_of}

-- what follows the turn, with zeros after it
pub cleared-rest : (w : List ℕ) (turn : ℕ) → turn ≤ length w → cleared turn (turned turn w) ≡ drop turn w ++ replicate turn 0
cleared-rest w turn h =
    let long = turned-length turn w h in
    let front : length (drop turn w) ≡ length (turned turn w) - turn = omega (arith, length-drop turn w, long) in
    let left : length (turned turn w) - (length (turned turn w) - turn) ≡ turn = omega (arith, long) in
    ap₂ (λ x y. x ++ replicate y 0) (take_at (drop turn w) (take turn w) (length (turned turn w) - turn) front) left

module _ (k turn lead : ℕ) (v : List ℕ) where
  pub base_kept : lead < turn → v ≡ base_of k turn lead v
  base_kept h = ap (λ t. pick t v (necklace_below k (cleared turn v))) (sym (lt-ltb lead turn h))

  pub base_lowered : turn ≤ lead → necklace_below k (cleared turn v) ≡ base_of k turn lead v
  base_lowered h = ap (λ t. pick t v (necklace_below k (cleared turn v))) (sym (le-ltb lead turn h))
