-- The search: what is known of the window and of each filling, how the better of two places is found, and what the best of all fillings is.
use mathlib.Core.Path.{◌≡◌, sym, ◌∙◌, ap, ap₂, subst}
use mathlib.Core.Bool.{Bool, true, false, ◌&&◌, not}
use mathlib.Core.List.{List}
use mathlib.Core.Logic.{inl, inr}
use Prim.Native.Nat.{ℕ, ◌+◌, ◌^◌, ◌≤◌, ◌<◌}
use native.Mathlib.Omega.{arith}
use lib.Dec.{ltb}
use lib.ListN.{length}
use borrow.Author.Tests.{ltb-true, ltb-false, lt-ltb, le-ltb, ne_eqb}
use Rattle.std.specs.Prelude.{Option, Some}
use Rattle.theory.specs.Words.{pick, keep, marks_ok}
use Rattle.theory.specs.Lists.{In}
use Rattle.theory.specs.Strips.{place_of}
use Rattle.theory.specs.Plans.{shades, marks, laying_at, laid_at}
use Rattle.theory.specs.Erasures.{unread, fitting, lowest, filling}
use Rattle.theory.proofs.Base.{test, and_l, and_r, and_in, and_false, and_true, cmp, less, equal, more}
use Rattle.theory.proofs.Lists.{in_some, no_members}
use Rattle.theory.proofs.Erasures.{smudge_fine, filling-length, filling-agrees, filling-marks, fitting_in, lowest_in, lowest_least, laid_fits, least_filled}
use Rattle.shape.specs.declared.Strip as DS
use Rattle.shape.specs.Shapes.{WordOn}
use Rattle.shape.proofs.Limits.{limits}
use Rattle.locator.proofs.Locates.{place_small}
use Rattle.fitting.specs.Fits.{Sought, better_of, Finds}

-- how the better of the best so far, b, and a place p is found: by comparing them, and by the section l of the window at p
module _ (s : List ℕ) (b : ℕ) {p q : ℕ} (place : p ≡ q) where
  picked : {t : Bool} → (ltb p b && laid_at s p) ≡ t → pick t p b ≡ better_of s b q
  picked e = ap (λ t. pick t p b) (sym e) ∙ ap (better_of s b) place

  pub not_lower : b ≤ p → b ≡ better_of s b q
  not_lower h = picked (ap (λ t. t && laid_at s p) (le-ltb p b h))

  pub not_laid : laying_at s p ≡ 0 → b ≡ better_of s b q
  not_laid e = picked (and_false (ltb p b) _ (rw e))

  pub lower : p < b → ¬ (laying_at s p ≡ 0) → p ≡ better_of s b q
  lower h e = picked (and_in (lt-ltb p b h) (ap not (ne_eqb (laying_at s p) 0 e)))

-- a place that the search answers is the lowest
pub is_lowest : (s w : List ℕ) {r : Option ℕ} {p : ℕ} → Finds s w r → r ≡ Some p → p ≡ lowest s w
is_lowest s w h e = (subst (Finds s w) e h).1

-- the place of filling c
abbrev pub spot : DS.Strip → List ℕ → ℕ → ℕ
spot x w c = place_of x.k x.n (filling x.k c w)

-- the best of the first c fillings, b: the lowest place of those that are laid, or the strip's size
pub record Best (s : List ℕ) (x : DS.Strip) (w : List ℕ) (c b : ℕ) : Type 0 where
  pub most : b ≤ x.size
  pub fits : b < x.size → In b (fitting s w)
  pub least : (i : ℕ) → i < c → laid_at s (spot x w i) ≡ true → b ≤ spot x w i

module _ {s : List ℕ} {x : DS.Strip} {w : List ℕ} (h : Sought s x w) where
  pub window-long : length w ≡ x.n
  window-long = (smudge_fine x.k x.n w h.fine).0

  -- a filling is a word of the strip
  pub filling_on_strip : (c : ℕ) → WordOn x (filling x.k c w)
  filling_on_strip c = record {
    long = filling-length x.k c w ∙ window-long;
    marks = filling-marks x.k c w (omega (arith, (limits x).two)) (smudge_fine x.k x.n w h.fine).2;
  }

  -- its place, by the plan's own k and n, is the same
  by_plan : (c : ℕ) → place_of (shades s) (marks s) (filling (shades s) c w) ≡ spot x w c
  by_plan c = ap₂ (λ k n. place_of k n (filling k c w)) (sym h.plan.letters) (sym h.plan.marked)

  pub spot_small : (c : ℕ) → spot x w c < 2 ^ 60
  spot_small c = place_small (filling_on_strip c)

  -- a filling that is laid fits
  spot_fits : (c : ℕ) → laid_at s (spot x w c) ≡ true → In (spot x w c) (fitting s w)
  spot_fits c laid =
      let long : length (filling (shades s) c w) ≡ marks s = filling-length (shades s) c w ∙ window-long ∙ h.plan.marked in
      let letters : marks_ok (shades s) (filling (shades s) c w) ≡ true = subst (λ k. marks_ok k (filling k c w) ≡ true) h.plan.letters (filling_on_strip c).marks in
      subst (λ p. In p (fitting s w)) (by_plan c) (laid_fits s w h.plan.faultless (filling (shades s) c w) long letters (filling-agrees (shades s) c w) (ap (laid_at s) (by_plan c) ∙ laid))

  -- before the first filling
  pub best_none : Best s x w 0 x.size
  best_none = record { most = omega arith; fits = λ l. absurd (omega arith); least = λ i l. absurd (omega arith) }

  -- with one filling more
  module _ {c b : ℕ} (best : Best s x w c b) {r : ℕ} where
    on : r ≤ b → (r < x.size → In r (fitting s w)) → (laid_at s (spot x w c) ≡ true → r ≤ spot x w c) → Best s x w (c + 1) r
    on below fits own = record { most = omega (arith, below, best.most); fits = fits; least = least }
      where
        least : (i : ℕ) → i < c + 1 → laid_at s (spot x w i) ≡ true → r ≤ spot x w i
        least i l laid = elim (cmp i c) [
          | less m ↦ omega (arith, below, best.least i m laid)
          | equal e ↦ subst (λ j. laid_at s (spot x w j) ≡ true → r ≤ spot x w j) (sym e) own laid
          | more m ↦ absurd (omega arith)
        ]

    pub best_next : r ≡ better_of s b (spot x w c) → Best s x w (c + 1) r
    best_next e = elim (test (ltb (spot x w c) b && laid_at s (spot x w c))) [
      | inl t ↦
          let is : r ≡ spot x w c = rw t at e in
          let lower = ltb-true (spot x w c) b (and_l _ _ t) in
          on (omega (arith, is, lower)) (λ l. subst (λ p. In p (fitting s w)) (sym is) (spot_fits c (and_r (ltb (spot x w c) b) _ t))) (λ laid. omega (arith, is))
      | inr t ↦
          let is : r ≡ b = rw t at e in
          let lower : laid_at s (spot x w c) ≡ true → ltb (spot x w c) b ≡ false = λ laid. sym (and_true _) ∙ ap (λ a. ltb (spot x w c) b && a) (sym laid) ∙ t in
          on (omega (arith, is)) (λ l. subst (λ p. In p (fitting s w)) (sym is) (best.fits (omega (arith, is, l)))) (λ laid. omega (arith, is, ltb-false (spot x w c) b (lower laid)))
    ]

  -- the best of all fillings is what is looked for
  module _ {total b : ℕ} (all : total ≡ x.k ^ length (keep unread w)) (best : Best s x w total b) where
    below : {p : ℕ} → In p (fitting s w) → b ≤ p
    below i =
        least_filled s w h.plan.faultless
        (λ c l. subst (λ q. laid_at s q ≡ true → b ≤ q) (sym (by_plan c)) (best.least c (omega (arith, all, l, ap (λ k. k ^ length (keep unread w)) h.plan.letters))))
        i

    pub nowhere : b ≡ x.size → length (fitting s w) ≡ 0
    nowhere e =
        let size : x.size ≡ shades s ^ marks s = x.whole ∙ ap₂ ◌^◌ h.plan.letters h.plan.marked in
        ap length (no_members (fitting s w) (λ p i. omega (arith, below i, e, size, (fitting_in s w i).0)))

    pub found : ¬ (b ≡ x.size) → ¬ (length (fitting s w) ≡ 0) × (b ≡ lowest s w)
    found other =
        let i = best.fits (omega (arith, other, best.most)) in
        let some = in_some i in
        (some, omega (arith, below (lowest_in s w some), lowest_least s w i))
