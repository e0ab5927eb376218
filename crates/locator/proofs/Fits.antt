-- The first fit of a window in a text: that it fits and is the first, and how the trials find it.
use mathlib.Core.Path.{◌≡◌, sym, ◌∙◌, ap}
use mathlib.Core.Bool.{true, false}
use mathlib.Core.List.{List}
use mathlib.Core.Logic.{inl, inr}
use Prim.Native.Nat.{ℕ, zero, suc, ◌+◌, ◌-◌, ◌≤◌, ◌<◌}
use native.Mathlib.Omega.{arith}
use native.Mathlib.Numerals.{add-one}
use lib.ListN.{length, get_or, take, drop, length-drop}
use lib.Seq.{length-take-le, get_or-take, get_or-drop}
use Rattle.theory.specs.Words.{same}
use Rattle.theory.proofs.Base.{test, Cmp, cmp, less, equal, more}
use Rattle.theory.proofs.Order.{same_eq, same_ne}
use Rattle.lyndon.proofs.Scans.{same_on, same_differ, same_end}
use Rattle.locator.specs.Fits.{fit_from, first_fit}

-- what stands at an offset
abbrev pub stands : List ℕ → List ℕ → ℕ → List ℕ
stands text w p = take (length w) (drop p text)

fit_found : (l p q : ℕ) (text w : List ℕ) → p ≤ q → q < p + l → stands text w q ≡ w
    → (fit_from l p text w ≤ q) × (stands text w (fit_from l p text w) ≡ w)
fit_found zero p q text w a b e = absurd (omega arith)
fit_found (suc l) p q text w a b e = elim (test (same (stands text w p) w)) [
  | inl t ↦ rw t (a, same_eq (stands text w p) w t)
  | inr t ↦ rw t (later t (λ a b. fit_found l (suc p) q text w a b e) (cmp p q))
]
  where
    later : same (stands text w p) w ≡ false → (suc p ≤ q → q < suc p + l → (fit_from l (suc p) text w ≤ q) × (stands text w (fit_from l (suc p) text w) ≡ w)) → Cmp p q
        → (fit_from l (suc p) text w ≤ q) × (stands text w (fit_from l (suc p) text w) ≡ w)
    later t on (less h) = on (omega arith) (omega arith)
    later t on (equal h) = absurd (same_ne t (ap (stands text w) h ∙ e))
    later t on (more h) = absurd (omega arith)

-- where some offset fits, the first fit does, and is not after it
pub first_fit-found : (text w : List ℕ) (q : ℕ) → q ≤ length text - length w → stands text w q ≡ w
    → (first_fit text w ≤ q) × (stands text w (first_fit text w) ≡ w)
first_fit-found text w q h e = fit_found (length text - length w + 1) 0 q text w (omega arith) (omega arith) e

-- the trials: the first, an offset that fits, one that does not
fit_step : (text w : List ℕ) (m p : ℕ) → p < m → fit_from (m - p) p text w ≡ fit_from (suc (m - (p + 1))) p text w
fit_step text w m p h =
    let n : m - p ≡ suc (m - (p + 1)) = omega arith in
    ap (λ x. fit_from x p text w) n

pub fit_here : (text w : List ℕ) (m p : ℕ) → p < m → same (stands text w p) w ≡ true → fit_from (m - p) p text w ≡ p
fit_here text w m p h t = fit_step text w m p h ∙ rw t

pub fit_on : (text w : List ℕ) (m p : ℕ) → p < m → same (stands text w p) w ≡ false
    → fit_from (m - p) p text w ≡ fit_from (m - (p + 1)) (p + 1) text w
fit_on text w m p h t = fit_step text w m p h ∙ rw (t, add-one p)

-- no offset is left
pub fit_none : (text w : List ℕ) (m p : ℕ) → m ≤ p → fit_from (m - p) p text w ≡ p
fit_none text w m p h =
    let n : m - p ≡ 0 = omega arith in
    rw n

-- a trial: its first j letters agree
abbrev pub Trial : List ℕ → List ℕ → ℕ → ℕ → Type 0
Trial text w p j = same (stands text w p) w ≡ same (drop j (stands text w p)) (drop j w)

module _ (text w : List ℕ) (p j : ℕ) (room : p + length w ≤ length text) (at : Trial text w p j) where
  stands-length : length (stands text w p) ≡ length w
  stands-length = length-take-le (length w) (drop p text) (omega (arith, length-drop p text))

  stands_letter : j < length w → get_or (stands text w p) j 0 ≡ get_or text (p + j) 0
  stands_letter h = get_or-take (length w) (drop p text) j 0 h ∙ get_or-drop p text j 0

  pub trial_on : j < length w → get_or text (p + j) 0 ≡ get_or w j 0 → Trial text w p (j + 1)
  trial_on h e = at ∙ same_on (stands text w p) w j (omega (arith, stands-length)) h (stands_letter h ∙ e)

  pub trial_differs : j < length w → ¬ (get_or text (p + j) 0 ≡ get_or w j 0) → same (stands text w p) w ≡ false
  trial_differs h n =
      at ∙ same_differ (stands text w p) w j (omega (arith, stands-length)) h (λ e. n (sym (stands_letter h) ∙ e))

  pub trial_ends : j ≡ length w → same (stands text w p) w ≡ true
  trial_ends e = at ∙ same_end (stands text w p) w j (omega (arith, stands-length)) (omega arith)
