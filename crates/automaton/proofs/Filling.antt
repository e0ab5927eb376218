-- How the table of path counts is filled, length by length and state by state: what holds at each turn, and why each number fits.
use mathlib.Core.Path.{◌≡◌, sym, ◌∙◌, ap}
use mathlib.Core.List.{List}
use Prim.Native.Nat.{ℕ, zero, suc, ◌+◌, ◌-◌, ◌*◌, ◌^◌, ◌≤◌, ◌<◌}
use native.Mathlib.Omega.{arith}
use native.Mathlib.Nat.{pow-le-pow_right}
use lib.ListN.{length, get_or, set, length-set}
use lib.Seq.{get_or-set_same, get_or-set_other}
use Rattle.theory.specs.Automaton.{returning}
use Rattle.theory.proofs.Base.{less, equal, more, cmp}
use Rattle.theory.proofs.Order.{same_refl}
use Rattle.theory.proofs.Letters.{marks_getD}
use Rattle.theory.proofs.Paths.{home_away, home_step, home_small}
use Rattle.automaton.specs.Tables.{Counted, Started}

-- all lengths below l are right, and of length l the states below q
pub record Reached (k : ℕ) (w t : List ℕ) (l q : ℕ) : Type 0 where
  pub size : length t ≡ 3721
  pub done : (s i : ℕ) → s + i ≤ length w → i < l → get_or t (i * 61 + s) 0 ≡ returning k w s i
  pub row : (s : ℕ) → s + l ≤ length w → s < q → get_or t (l * 61 + s) 0 ≡ returning k w s l

-- length 0: one word, the empty one, and it leads only state 0 home
pub started : {k : ℕ} {w t : List ℕ} → Started (length w) t → Reached k w t 1 0
started {k} {w} {t} r = record { size = r.size; done = go; row = λ s h l. absurd (omega arith) }
  where
    at_zero : (s : ℕ) → s ≤ length w → get_or t s 0 ≡ returning k w s 0
    at_zero zero h = r.home ∙ sym (rw (same_refl w))
    at_zero (suc s) h = r.away (suc s) (omega arith) h ∙ sym (home_away k w (suc s) (omega arith) h)

    go : (s i : ℕ) → s + i ≤ length w → i < 1 → get_or t (i * 61 + s) 0 ≡ returning k w s i
    go s zero h l = let e : 0 * 61 + s ≡ s = omega arith in ap (λ j. get_or t j 0) e ∙ at_zero s (omega arith)
    go s (suc i) h l = absurd (omega arith)

-- every number of the table is in range
pub returning_fits : {k : ℕ} {w : List ℕ} → Counted k w → (s l : ℕ) → l ≤ length w → returning k w s l ≤ 2 ^ 60
returning_fits {k} {w} c s l h = omega (arith, home_small k w s l, pow-le-pow_right {n = k} (omega arith) h, c.range)

-- a state of length l: its number, by the recurrence, from the table u as it was when the length began
module _ {k : ℕ} {w u t : List ℕ} {l s : ℕ} (c : Counted k w) (begun : Reached k w u l 0) (reached : Reached k w t l s) (from : 1 ≤ l) (inside : s + l ≤ length w) where
  abbrev v : ℕ
  v = get_or t ((l - 1) * 61 + s + 1) 0 + (k - 1 - get_or w s 0) * get_or u ((l - 1) * 61) 0

  number : v ≡ returning k w s l
  number =
      let e : suc (l - 1) ≡ l = omega arith in
      let i : (l - 1) * 61 + s + 1 ≡ (l - 1) * 61 + suc s = omega arith in
      let j : (l - 1) * 61 ≡ (l - 1) * 61 + 0 = omega arith in
      ap (λ x. get_or t x 0 + (k - 1 - get_or w s 0) * get_or u ((l - 1) * 61) 0) i
      ∙ ap (λ x. x + (k - 1 - get_or w s 0) * get_or u ((l - 1) * 61) 0) (reached.done (suc s) (l - 1) (omega arith) (omega arith))
      ∙ ap (λ x. returning k w (suc s) (l - 1) + (k - 1 - get_or w s 0) * x) (ap (λ x. get_or u x 0) j ∙ begun.done 0 (l - 1) (omega arith) (omega arith))
      ∙ sym (home_step k w s (l - 1) c.marks (omega arith))
      ∙ ap (returning k w s) e

  pub letter : get_or w s 0 ≤ k - 1
  letter = omega (arith, marks_getD k w s (omega arith) c.marks)

  -- it is in range, and is stored
  pub fits : v ≤ 2 ^ 60
  fits = omega (arith, number, returning_fits c s l (omega arith))

  pub stored : Reached k w (set t (l * 61 + s) v) l (s + 1)
  stored =
      record {
        size = length-set t (l * 61 + s) v ∙ reached.size;
        done = λ q i g m. get_or-set_other t (l * 61 + s) (i * 61 + q) v 0 (λ f. omega (arith, c.short)) ∙ reached.done q i g m;
        row = λ q g m. elim (cmp q s) [
          | less f ↦ get_or-set_other t (l * 61 + s) (l * 61 + q) v 0 (λ j. omega arith) ∙ reached.row q g f
          | equal f ↦ rw f (get_or-set_same t (l * 61 + s) v 0 (omega (arith, c.short, reached.size)) ∙ number)
          | more f ↦ absurd (omega arith)
        ];
      }

  -- after the last state comes the next length
  pub ended : s + l ≡ length w → Reached k w (set t (l * 61 + s) v) (l + 1) 0
  ended e =
      record {
        size = stored.size;
        done = λ q i g m. elim (cmp i l) [
          | less f ↦ stored.done q i g f
          | equal f ↦ rw f (stored.row q (omega arith) (omega arith))
          | more f ↦ absurd (omega arith)
        ];
        row = λ q g m. absurd (omega arith);
      }
