-- The cursors of rings whose allowed lengths are given for each n, and whose sizes are known; the strip's are those of all divisors.
use mathlib.Core.Path.{◌≡◌, refl, sym, ◌∙◌, ap, subst}
use mathlib.Core.Bool.{Bool, true, false}
use mathlib.Core.List.{List}
use Prim.Native.Nat.{ℕ, suc, ◌^◌, ◌≤◌, ◌<◌}
use lib.ListN.{length}
use Rattle.theory.specs.Rings.{Allowed, ring_words, ring, modulo, letter_on, letters_on, Stepped, good_on, good_in, position_on, position_in, cursor_on, passed_to, passed_down, step_on, step_in, back_on, back_in, beside}
use Rattle.theory.specs.Strips.{divisor_of}
use Rattle.theory.specs.Theorems.{Leads, CursorsOn, BothWays, Cursors}
use Rattle.theory.proofs.Rings.{strip-long}
use Rattle.theory.proofs.Divisors.{divisors_allowed}
use Rattle.theory.proofs.Cursors.{at_kept, step_kept, back_kept, ring_cursors}
use Rattle.theory.proofs.Back.{both_ways}

module _ (ok : ℕ → ℕ → Bool) (size : ℕ → ℕ → ℕ) (allowed : (n : ℕ) → 1 ≤ n → Allowed n (ok n))
    (long : (k n : ℕ) → 2 ≤ k → 1 ≤ n → length (ring (ok n) k n) ≡ size k n) where
  on : (k n : ℕ) → 2 ≤ k → 1 ≤ n → CursorsOn (ok n) k n
  on k n two one = ring_cursors (ok n) k n two one (allowed n one)

  ways : (k n : ℕ) → 2 ≤ k → 1 ≤ n → BothWays (ok n) k n
  ways k n two one = both_ways (ok n) k n two one (allowed n one)

  -- what a move does there
  leads_on : (k n : ℕ) → 2 ≤ k → 1 ≤ n → (x : Stepped) (p : ℕ) (to : ℕ → ℕ) (passes : List ℕ → ℕ) → x.cursor_is.n ≡ n
      → let s = ring (ok n) k n in
      Leads (good_on (ok n)) (position_on (ok n)) x (letter_on (length s) s p) (to (length s)) passes n
      → Leads (good_in ok) (position_in ok) x (letter_on (size k n) s p) (to (size k n)) passes n
  leads_on k n two one x p to passes kept (reads, good, position, passed, few) = (
    reads ∙ ap (λ m. letter_on m (ring (ok n) k n) p) (long k n two one),
    ap (λ m. good_on (ok m) x.cursor_is) kept ∙ good,
    ap (λ m. position_on (ok m) x.cursor_is) kept ∙ position ∙ ap to (long k n two one),
    passed,
    few,
  )

  pub cursors_of : Cursors ok size
  cursors_of = record {
    there = λ k n p two one h.
        subst (λ m. (good_on (ok m) (cursor_on (ok n) k n p) ≡ true) × (position_on (ok m) (cursor_on (ok n) k n p) ≡ p)) (sym (at_kept k n (ring_words (ok n) k n) p).1)
        ((on k n two one).there p (subst (λ m. p < m) (sym (long k n two one)) h));
    within = λ c two one g. subst (λ m. position_in ok c < m) (long _ _ two one) ((on _ _ two one).within c refl refl g);
    one = λ c two one g. (on _ _ two one).one c refl refl g;
    onward = λ c two one g.
        leads_on c.k c.n two one (step_in ok c) (position_in ok c) (modulo (suc (position_in ok c))) (passed_to c.k c.n c.word) (step_kept (ok c.n) c).1
        ((on _ _ two one).onward c refl refl g);
    backward = λ c two one g.
        leads_on c.k c.n two one (back_in ok c) (position_in ok c) (λ m. beside m false (position_in ok c)) (passed_down c.k c.n c.word) (back_kept (ok c.n) c).1
        ((ways _ _ two one).backward c refl refl g);
    back_step = λ c two one g. ap (λ m. (back_on (ok m) (step_in ok c).cursor_is).cursor_is) (step_kept (ok c.n) c).1 ∙ (ways _ _ two one).back_step c refl refl g;
    step_back = λ c two one g. ap (λ m. (step_on (ok m) (back_in ok c).cursor_is).cursor_is) (back_kept (ok c.n) c).1 ∙ (ways _ _ two one).step_back c refl refl g;
    as_many = λ c two one g. ap (λ m. (step_on (ok m) (back_in ok c).cursor_is).passed) (back_kept (ok c.n) c).1 ∙ (ways _ _ two one).as_many c refl refl g;
    reads = λ k n p c two one h.
        (on k n two one).reads p c (subst (λ m. p < m) (sym (long k n two one)) h) ∙ ap (λ m. letters_on m (ring (ok n) k n) p c) (long k n two one);
  }

pub cursors : Cursors divisor_of ◌^◌
cursors = cursors_of divisor_of ◌^◌ divisors_allowed strip-long
