-- The sizes of CS at the divisors of the length, stored one by one.
use mathlib.Core.Path.{◌≡◌, refl, sym, ◌∙◌, ap}
use mathlib.Core.Bool.{true}
use mathlib.Core.List.{List}
use Prim.Native.Nat.{ℕ, suc, ◌+◌, ◌-◌, ◌*◌, ◌%◌, ◌^◌, ◌≤◌, ◌<◌}
use native.Mathlib.Omega.{arith}
use native.Mathlib.Nat.{pow-zero, pow-suc}
use lib.ListN.{length, get_or, set, take, replicate, length-set, get_or-replicate, get_or-eq_default}
use lib.Seq.{get_or-set_same, get_or-set_other}
use Rattle.theory.specs.Rings.{divides}
use Rattle.theory.specs.Sums.{cs}
use Rattle.theory.proofs.Base.{less, equal, more, cmp}
use Rattle.theory.proofs.Divisors.{div_mod, divides_out, divides_some_lem, divides_le}
use Rattle.automaton.specs.Tables.{Counted, diagonal_of, Sized}
use Rattle.automaton.proofs.Diagonals.{Size}

-- before length d: the sizes at the divisors below d are stored
pub record Stored (k : ℕ) (w out : List ℕ) (top d : ℕ) : Type 0 where
  pub power : top ≡ k ^ (d - 1)
  pub size : length out ≡ 61
  pub done : (e : ℕ) → divides e (length w) ≡ true → e < d → get_or out e 0 ≡ cs k (take e w)
  pub small : (e : ℕ) → get_or out e 0 ≤ k ^ e

abbrev pub none : List ℕ
none = replicate 61 0

none_at : (e : ℕ) → get_or none e 0 ≡ 0
none_at e = elim (cmp e 61) [
  | less h ↦ get_or-replicate 61 e 0 0 h
  | equal h ↦ get_or-eq_default none 0 {n = e} (omega arith)
  | more h ↦ get_or-eq_default none 0 {n = e} (omega arith)
]

pub begun : (k : ℕ) (w : List ℕ) → Stored k w none 1 1
begun k w =
    record {
      power = sym (pow-zero k);
      size = refl;
      done = λ e h g. absurd (omega (arith, divides_some_lem e (length w) h));
      small = λ e. omega (arith, none_at e);
    }

pub ended : {k : ℕ} {w out : List ℕ} {top d : ℕ} → Stored k w out top d → 1 ≤ length w → length w < d → Sized k w out
ended {w = w} r some h = record { size = r.size; entry = λ e g. r.done e g (omega (arith, divides_le e (length w) some g)); small = r.small }

module _ {k : ℕ} {w out : List ℕ} {top d : ℕ} (r : Stored k w out top d) (from : 1 ≤ d) (upto : d ≤ length w) where
  pub raised : top * k ≡ k ^ d
  raised = let e : suc (d - 1) ≡ d = omega arith in ap (λ x. x * k) r.power ∙ sym (pow-suc k (d - 1)) ∙ ap (λ i. k ^ i) e

  again : k ^ d ≡ k ^ (d + 1 - 1)
  again = let e : d ≡ d + 1 - 1 = omega arith in ap (λ i. k ^ i) e

  -- no divisor; a divisor
  pub skipped : ¬ (length w % d ≡ 0) → Stored k w out (top * k) (d + 1)
  skipped g =
      record {
        power = raised ∙ again;
        size = r.size;
        done = λ e i j. elim (cmp e d) [
          | less f ↦ r.done e i f
          | equal f ↦ absurd (g (ap (λ x. length w % x) (sym f) ∙ div_mod (divides_out e (length w) i)))
          | more f ↦ absurd (omega arith)
        ];
        small = r.small;
      }

  pub stored : {t : List ℕ} {paths : ℕ} → Counted k w → Size k w t d (top * k) → paths ≡ diagonal_of t d d → Stored k w (set out d (top * k - paths)) (top * k) (d + 1)
  stored {t} {paths} c z p = kept (top * k - paths) (ap (λ x. top * k - x) p ∙ z.is) (omega (arith, raised))
    where
      here : (v : ℕ) → get_or (set out d v) d 0 ≡ v
      here v = get_or-set_same out d v 0 (omega (arith, c.short, r.size))

      kept : (v : ℕ) → v ≡ cs k (take d w) → v ≤ k ^ d → Stored k w (set out d v) (top * k) (d + 1)
      kept v g m =
          record {
            power = raised ∙ again;
            size = length-set out d v ∙ r.size;
            done = λ e i j. elim (cmp e d) [
              | less f ↦ get_or-set_other out d e v 0 (λ x. omega arith) ∙ r.done e i f
              | equal f ↦ rw f (here v ∙ g)
              | more f ↦ absurd (omega arith)
            ];
            small = λ e. elim (cmp e d) [
              | less f ↦ omega (arith, get_or-set_other out d e v 0 (λ x. omega arith), r.small e)
              | equal f ↦ rw f (omega (arith, here v))
              | more f ↦ omega (arith, get_or-set_other out d e v 0 (λ x. omega arith), r.small e)
            ];
          }
