-- The test of the sections, from section i on: what it says of this one, and of those behind it.
use mathlib.Core.Path.{◌≡◌, ◌∙◌, ap}
use mathlib.Core.Bool.{false}
use mathlib.Core.List.{List, ◌∷◌}
use Prim.Native.Nat.{ℕ, ◌+◌, ◌≤◌, ◌<◌}
use lib.ListN.{length, drop}
use borrow.Author.Tests.{le-leb, lt-leb}
use Rattle.theory.specs.Plans.{Section, straight_from, nth_s}
use Rattle.theory.proofs.Records.{from_section}

-- sections ahead of i have passed, the last of them ends at `end`, and section i is x
pub record At (n top end : ℕ) (xs : List Section) (i : ℕ) (x : Section) : Type 0 where
  pub left : straight_from n top 0 xs ≡ straight_from n top end (drop i xs)
  pub inside : i < length xs
  pub is : x ≡ nth_s xs i

module _ {n top end : ℕ} {xs : List Section} {i : ℕ} {x : Section} (at : At n top end xs i x) where
  one : straight_from n top 0 xs ≡ straight_from n top end (x ∷ drop (i + 1) xs)
  one = at.left ∙ ap (straight_from n top end) (from_section xs i at.inside at.is)

  pub early : x.offset < end → straight_from n top 0 xs ≡ false
  early h = one ∙ rw (lt-leb end x.offset h)

  pub narrow : end ≤ x.offset → x.long < n → straight_from n top 0 xs ≡ false
  narrow h g = one ∙ rw (le-leb end x.offset h, lt-leb n x.long g)

  pub outside : end ≤ x.offset → n ≤ x.long → top < x.offset + x.long → straight_from n top 0 xs ≡ false
  outside h g f = one ∙ rw (le-leb end x.offset h, le-leb n x.long g, lt-leb (x.offset + x.long) top f)

  pub onward : end ≤ x.offset → n ≤ x.long → x.offset + x.long ≤ top → straight_from n top 0 xs ≡ straight_from n top (x.offset + x.long) (drop (i + 1) xs)
  onward h g f = one ∙ rw (le-leb end x.offset h, le-leb n x.long g, le-leb (x.offset + x.long) top f)
