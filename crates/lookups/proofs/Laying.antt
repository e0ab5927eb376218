-- The answer for a window that is laid: its section, and the answer's bytes.
use mathlib.Core.Path.{◌≡◌, ◌∙◌, ap, ap₂}
use mathlib.Core.Bool.{true}
use mathlib.Core.List.{List, ◌++◌}
use Prim.Native.Nat.{ℕ, ◌-◌, ◌≤◌, ◌<◌}
use native.Mathlib.Omega.{arith}
use Rattle.theory.specs.Plans.{Section, sections, section_count, nth_s, laying_at, laid_at, distance_at, rail_of}
use Rattle.theory.proofs.Laying.{some_laid, laid_at_lem}
use Rattle.numbers.specs.Numbers.{put_be}
use Rattle.lookups.specs.Says.{answer_at, LaidIn}

-- a window that is laid: its section i, and the answer's bytes by the section x and its rail r
module _ {s : List ℕ} {p i : ℕ} (h : LaidIn s p i) where
  laid : laid_at s p ≡ true
  laid = some_laid s p (λ z. omega (arith, h.laid, z))

  section_is : i ≡ laying_at s p - 1
  section_is = omega (arith, h.laid)

  pub section_inside : i < section_count s
  section_inside = omega (arith, section_is, (laid_at_lem s p h.faultless laid).0)

  module _ {x : Section} (is : x ≡ nth_s (sections s) i) where
    offset_is : x.offset ≡ (nth_s (sections s) (laying_at s p - 1)).offset
    offset_is = ap (λ y. y.offset) is ∙ ap (λ i. (nth_s (sections s) i).offset) section_is

    pub starts_before : x.offset ≤ p
    starts_before = omega (arith, offset_is, (laid_at_lem s p h.faultless laid).1)

    pub bytes_are : {r : ℕ} → r ≡ rail_of s i → (put_be 2 i ++ put_be 8 (p - x.offset)) ++ put_be 2 r ≡ answer_at s p
    bytes_are {r} rail =
        ap₂ (λ d r. (put_be 2 i ++ put_be 8 d) ++ put_be 2 r) (ap (λ o. p - o) offset_is) rail
        ∙ ap (λ i. (put_be 2 i ++ put_be 8 (distance_at s p)) ++ put_be 2 (rail_of s i)) section_is
