-- The shortest root of a word, found by trying the divisors of its length in turn: d is a root if the word goes on as it began, d letters later.
use mathlib.Core.Path.{◌≡◌, sym, ◌∙◌, ap, ap₂, subst}
use mathlib.Core.Bool.{Bool, true, false, ◌&&◌}
use mathlib.Core.List.{List}
use mathlib.Core.Logic.{inl, inr}
use Prim.Native.Nat.{ℕ, zero, suc, ◌+◌, ◌-◌, ◌%◌, ◌≤◌, ◌<◌, max}
use native.Mathlib.Omega.{arith}
use lib.Dec.{eqb}
use lib.ListN.{length, take, drop, length-append}
use lib.Seq.{length-take-le, take-append_seam, drop-append_seam}
use borrow.Author.Tests.{le-leb, eqb-true}
use Rattle.std.proofs.Common.{Option, Some, None}
use Rattle.std.specs.Option.{MatchOption, unwrap_or}
use Rattle.theory.specs.Words.{same, repeated, is_root, root_from, root}
use Rattle.theory.proofs.Base.{test, same_test, cmp, less, equal, more}
use Rattle.theory.proofs.Order.{same_eq, eq_same}
use Rattle.theory.proofs.Powers.{repeated_snoc, Root, is_root_lem, root_in, root_out, whole-root}
use Rattle.lyndon.proofs.Periods.{period_extends, whole_powers, powers}

-- a divisor is a root if the word goes on so
pub root_again : (d : ℕ) (w : List ℕ) → 1 ≤ d → d ≤ length w → length w % d ≡ 0 → same (drop d w) (take (length w - d) w) ≡ is_root d w
root_again d w h g m = same_test (same (drop d w) (take (length w - d) w)) (is_root d w) into out
  where
    size : length (take d w) ≡ d
    size = length-take-le d w g

    into : same (drop d w) (take (length w - d) w) ≡ true → is_root d w ≡ true
    into t = elim (whole_powers {x = take d w} {w = w} (omega (arith, size)) (period_extends d w (same_eq _ _ t)) (ap (λ r. length w % r) size ∙ m)) [
      | powers q f ↦ root_out (omega arith) (is_root_lem q (take d w) f size h)
    ]

    out : is_root d w ≡ true → same (drop d w) (take (length w - d) w) ≡ true
    out t = eq_same (at (root_in d w t (omega arith)))
      where
        at : Root d w → drop d w ≡ take (length w - d) w
        at (is_root_lem zero t f n p) = absurd (omega (arith, ap length f))
        at (is_root_lem (suc e) t f n p) =
            let rest : length w - d ≡ length (repeated e t) = omega (arith, ap length f, length-append t (repeated e t)) in
            ap₂ drop (sym n) f ∙ drop-append_seam t (repeated e t)
            ∙ sym (ap₂ take rest (f ∙ sym (repeated_snoc e t)) ∙ take-append_seam (repeated e t) t)

-- the trial of a number below the length
abbrev pub trial : ℕ → List ℕ → Bool
trial d w = eqb (length w % d) 0 && same (drop d w) (take (length w - d) w)

trial_is : (d : ℕ) (w : List ℕ) → 1 ≤ d → d ≤ length w → trial d w ≡ is_root d w
trial_is d w h g = elim (test (eqb (length w % d) 0)) [
  | inl t ↦ ap (λ r. r && same (drop d w) (take (length w - d) w)) t ∙ root_again d w h g (eqb-true (length w % d) 0 t)
  | inr t ↦ rw (t, le-leb 1 d h)
]

-- the first root from d on
root_first : (l d i : ℕ) (w : List ℕ) → d ≤ i → i ≤ d + l → ((k : ℕ) → d ≤ k → k < i → is_root k w ≡ false) → (i < d + l → is_root i w ≡ true) → root_from l d w ≡ i
root_first zero d i w h g none some = omega arith
root_first (suc l) d i w h g none some = elim (cmp d i) [
  | less e ↦ rw (none d (omega arith) e, root_from) (root_first l (suc d) i w e (omega arith) (λ k p q. none k (omega arith) q) (λ p. some (omega arith)))
  | equal e ↦ rw (subst (λ r. is_root r w ≡ true) (sym e) (some (omega arith)), root_from) e
  | more e ↦ absurd (omega arith)
]

pub root_tried : (w : List ℕ) (r : Option ℕ) (m : ℕ) → m ≡ max (length w) 1
    → MatchOption r ((k : ℕ) → 1 ≤ k → k < length w → trial k w ≡ false) (λ i. (1 ≤ i) × (i < length w) × (trial i w ≡ true) × ((k : ℕ) → 1 ≤ k → k < i → trial k w ≡ false))
    → unwrap_or r m ≡ root w
root_tried w (Some i) m e (some, inside, is, none) =
    sym (root_first (length w) 1 i w some (omega arith) (λ k p q. sym (trial_is k w p (omega arith)) ∙ none k p q) (λ p. sym (trial_is i w some (omega arith)) ∙ is))
root_tried w None m e none =
    sym (root_first (length w) 1 m w (omega arith) (omega arith) (λ k p q. sym (trial_is k w p (omega arith)) ∙ none k p (omega arith)) whole)
  where
    whole : m < 1 + length w → is_root m w ≡ true
    whole p =
        let n : length w ≡ m = omega arith in
        subst (λ r. is_root r w ≡ true) n (root_out (omega arith) (whole-root w (omega arith)))
