-- Antidiagonals of the table: their sums grow, and in a filled table they are the numbers of paths that the sizes of CS leave out.
use mathlib.Core.Path.{◌≡◌, refl, ◌∙◌, ap}
use mathlib.Core.List.{List}
use Prim.Native.Nat.{ℕ, zero, suc, ◌+◌, ◌-◌, ◌^◌, ◌≤◌}
use native.Mathlib.Omega.{arith}
use native.Mathlib.Nat.{pow-le-pow_right}
use lib.ListN.{length, take}
use lib.Seq.{take-length}
use Rattle.theory.specs.Sums.{cs}
use Rattle.theory.specs.Automaton.{paths_to}
use Rattle.theory.proofs.Base.{less as under, equal, more, cmp}
use Rattle.theory.specs.Prenecklaces.{Prenecklace}
use Rattle.theory.proofs.Sizes.{sizes_pre}
use Rattle.automaton.specs.Tables.{Counted, Filled, diagonal_of}

-- no part exceeds the whole
pub diagonal_le : (t : List ℕ) (d q p : ℕ) → q ≤ p → diagonal_of t d q ≤ diagonal_of t d p
diagonal_le t d q zero h = let e : q ≡ 0 = omega arith in rw e (omega arith)
diagonal_le t d q (suc p) h = elim (cmp q (suc p)) [
  | under e ↦ omega (arith, diagonal_le t d q p (omega arith))
  | equal e ↦ rw e (omega arith)
  | more e ↦ absurd (omega arith)
]

-- in a filled table the entries are the numbers of paths
pub diagonal_paths : {k : ℕ} {w t : List ℕ} → Filled k w t → (d q : ℕ) → d ≤ length w → q ≤ d → diagonal_of t d q ≡ paths_to k w d q
diagonal_paths f d zero h g = refl
diagonal_paths f d (suc q) h g = omega (arith, f.entry q (d - q) (omega arith), diagonal_paths f d q h (omega arith))

-- what a size needs: the paths left out are no more than all words, which are in range, and leave the size
pub record Size (k : ℕ) (w t : List ℕ) (d top : ℕ) : Type 0 where
  pub power : top ≡ k ^ d
  pub less : diagonal_of t d d ≤ top
  pub range : top ≤ 2 ^ 60
  pub is : top - diagonal_of t d d ≡ cs k (take d w)

module _ (k : ℕ) (w t : List ℕ) (c : Counted k w) (p : Prenecklace w) (f : Filled k w t) where
  pub size_left : (d top : ℕ) → 1 ≤ d → d ≤ length w → top ≡ k ^ d → Size k w t d top
  size_left d top a b e =
      let s : cs k (take d w) + diagonal_of t d d ≡ k ^ d = omega (arith, sizes_pre k w d p c.marks a b, diagonal_paths f d d b (omega arith)) in
      record { power = e; less = omega arith; range = omega (arith, pow-le-pow_right {n = k} (omega arith) b, c.range); is = omega arith }

  pub size-whole : (top : ℕ) → top ≡ k ^ length w → Size k w t (length w) top
  size-whole top e = size_left (length w) top c.some (omega arith) e

pub whole_is : (k : ℕ) (w t : List ℕ) (top paths : ℕ) → Size k w t (length w) top → paths ≡ diagonal_of t (length w) (length w) → top - paths ≡ cs k w
whole_is k w t top paths s e = ap (λ x. top - x) e ∙ s.is ∙ ap (cs k) (take-length w)
