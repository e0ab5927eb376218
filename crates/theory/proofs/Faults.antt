-- Faults, tested one after the other: which number comes first, and what is known where there is none.
use mathlib.Core.Path.{◌≡◌, refl}
use mathlib.Core.Bool.{Bool, true, false, not, ◌||◌}
use mathlib.Core.List.{List}
use Prim.Native.Nat.{ℕ, zero, suc}
use native.Mathlib.Omega.{arith}
use lib.Dec.{eqb}
use lib.ListN.{length}
use borrow.Author.Tests.{eqb-true, not-false}
use Rattle.theory.specs.Words.{first_of, when, marks_ok}
use Rattle.theory.specs.Plans.{word_fault}

pub first_some : (a b : ℕ) → ¬ (a ≡ 0) → first_of a b ≡ a
first_some zero b h = absurd (h refl)
first_some (suc a) b h = refl

pub first_none : (a b : ℕ) → first_of a b ≡ 0 → (a ≡ 0) × (b ≡ 0)
first_none zero b h = (refl, h)
first_none (suc a) b h = absurd (omega arith)

pub first_assoc : (a b c : ℕ) → first_of (first_of a b) c ≡ first_of a (first_of b c)
first_assoc zero b c = refl
first_assoc (suc a) b c = refl

pub first_zero : (a : ℕ) → first_of a 0 ≡ a
first_zero zero = refl
first_zero (suc a) = refl

-- what comes later counts only where nothing comes first
pub first_then : (a : ℕ) {b c : ℕ} → (a ≡ 0 → b ≡ c) → first_of a b ≡ first_of a c
first_then zero h = h refl
first_then (suc a) h = refl

-- two reasons for one number
pub first_either : (s t : Bool) (f : ℕ) → first_of (when s (suc f)) (when t (suc f)) ≡ when (s || t) (suc f)
first_either true t f = refl
first_either false t f = refl

pub when-none : (t : Bool) (f : ℕ) → ¬ (f ≡ 0) → when t f ≡ 0 → t ≡ false
when-none true f h e = absurd (h e)
when-none false f h e = refl

-- a word without fault
pub word_fine : (k n : ℕ) (w : List ℕ) → word_fault k n w ≡ 0 → (length w ≡ n) × (marks_ok k w ≡ true)
word_fine k n w e =
    let (long, marks) = first_none (when (not (eqb (length w) n)) 2) _ e in
    (eqb-true (length w) n (not-false _ (when-none _ 2 (λ z. omega arith) long)), not-false _ (when-none _ 3 (λ z. omega arith) marks))
