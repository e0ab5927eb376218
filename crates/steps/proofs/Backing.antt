-- The step to the Lyndon word before, in a buffer: with its last letter lowered and letters k−1 up to the buffer's end, the word extends the one before;
-- its shortest period is that word's length, and what stands behind is cleared.
use mathlib.Core.Path.{◌≡◌, refl, sym, ◌∙◌, ap, ap₂, subst}
use mathlib.Core.Bool.{true}
use mathlib.Core.List.{List, [], ◌∷◌, ◌++◌}
use mathlib.Core.Logic.{◌≢◌}
use Prim.Native.Nat.{ℕ, zero, suc, ◌-◌, ◌≤◌, ◌<◌}
use native.Mathlib.Omega.{arith}
use lib.ListN.{length, get_or, set, take, replicate, length-set}
use lib.Seq.{take-suc, get_or-take, length-take-le}
use Rattle.theory.specs.Words.{pick, is_lyndon}
use Rattle.theory.specs.Lists.{In}
use Rattle.theory.specs.Rings.{lyndons_up}
use Rattle.theory.specs.Steps.{lowered, period, pre_period, previous_lyndon, word_before}
use Rattle.theory.specs.Prenecklaces.{Cut, differ, agree}
use Rattle.theory.proofs.Order.{eq_same, ne_same}
use Rattle.theory.proofs.Letters.{marks_getD}
use Rattle.theory.proofs.Lyndon.{Lyndon, lyndon_in}
use Rattle.theory.proofs.Listed.{lyndon_up_words}
use Rattle.theory.proofs.Steps.{steps}
use Rattle.lyndon.proofs.PrePeriods.{pre_period_fits}
use Rattle.buffers.specs.Buffers.{filled}
use Rattle.buffers.proofs.Fills.{filled-size}
use Rattle.steps.specs.Steps.{padded, Held, PreviousIs}

-- a Lyndon word that ends in 0 is the word 0
not_below_zero : {c : ℕ} {u : List ℕ} → ¬ Cut (c ∷ u) (0 ∷ [])
not_below_zero (differ h) = omega arith
not_below_zero (agree h) = elim h [ ]

ends_in_zero : (p : List ℕ) → Lyndon (p ++ (0 ∷ [])) → p ≡ []
ends_in_zero [] l = refl
ends_in_zero (c ∷ p) l = absurd (not_below_zero (l.least (c ∷ p) (0 ∷ []) refl (omega arith) (omega arith)))

-- the last letter lowered in its place
lowered_in : (w : List ℕ) (j : ℕ) → j < length w → take (suc j) (set w j (get_or w j 0 - 1)) ≡ lowered (take (suc j) w)
lowered_in [] j h = absurd (omega arith)
lowered_in (a ∷ w) zero h = refl
lowered_in (a ∷ []) (suc j) h = absurd (omega arith)
lowered_in (a ∷ (b ∷ w)) (suc j) h = ap (λ r. a ∷ r) (lowered_in (b ∷ w) j (omega arith))

module _ {k : ℕ} {w : List ℕ} {m : ℕ} (held : Held k w m) (is_lyndon_lem : is_lyndon (take m w) ≡ true) where
  abbrev a : ℕ
  a = get_or w (m - 1) 0

  m_is : suc (m - 1) ≡ m
  m_is = omega (arith, held.some)

  size : length (take m w) ≡ m
  size = length-take-le m w held.fits

  last : get_or (take m w) (m - 1) 0 ≡ a
  last = get_or-take m w (m - 1) 0 (omega (arith, held.some))

  -- 0 is the first
  pub before_zero : {u : List ℕ} → a ≡ 0 → u ≡ filled 0 0 w → PreviousIs k w m u 0
  before_zero e f = record { buffer = f ∙ ap (padded (length w)) (sym none); size = ap length (sym none) }
    where
      parted : take m w ≡ take (m - 1) w ++ (0 ∷ [])
      parted = ap (λ i. take i w) (sym m_is) ∙ take-suc w (m - 1) 0 (omega (arith, held.some, held.fits)) ∙ ap (λ b. take (m - 1) w ++ (b ∷ [])) e

      zero_word : take m w ≡ 0 ∷ []
      zero_word = parted ∙ ap (λ p. p ++ (0 ∷ [])) (ends_in_zero (take (m - 1) w) (subst Lyndon parted (lyndon_in (take m w) is_lyndon_lem)))

      none : word_before k (length w) (take m w) ≡ []
      none = ap (λ b. pick b [] (previous_lyndon k (length w) (take m w))) (eq_same zero_word)

  -- a word that ends in another letter has one before it
  module _ (some : a ≢ 0) where
    pub two_letters : 2 ≤ k
    two_letters = omega (arith, last, some, marks_getD k (take m w) (m - 1) (omega (arith, size, held.some)) held.lettered.marks)

    abbrev x : List ℕ
    x = previous_lyndon k (length w) (take m w)

    not_zero : take m w ≢ 0 ∷ []
    not_zero e =
        let one : m - 1 ≡ 0 = omega (arith, size, ap length e) in
        some (sym last ∙ ap₂ (λ y i. get_or y i 0) e one)

    x_before : word_before k (length w) (take m w) ≡ x
    x_before = ap (λ b. pick b [] x) (ne_same not_zero)

    x_lyndon : is_lyndon x ≡ true
    x_lyndon =
        let listed : In (take m w) (lyndons_up k (length w)) =
        (lyndon_up_words k (length w) (take m w)).1 (omega (arith, size, held.fits), held.lettered.marks, is_lyndon_lem) in
        let n : 1 ≤ length w = omega (arith, held.some, held.fits) in
        ((lyndon_up_words k (length w) x).0 ((steps k (length w) two_letters n).previous_in (take m w) listed not_zero)).2

    -- the buffer, lowered and filled up: its first period is x
    module _ {v : List ℕ} (is : v ≡ filled (k - 1) m (set w (m - 1) (a - 1))) where
      shape : length (set w (m - 1) (a - 1)) ≡ length w
      shape = length-set w (m - 1) (a - 1)

      long : length v ≡ length w
      long = ap length is ∙ filled-size (k - 1) m (set w (m - 1) (a - 1)) (omega (arith, held.fits, shape)) ∙ shape

      x_is : take (period v) v ≡ x
      x_is = ap (λ c. take (period c) c) (is ∙ ap₂ ◌++◌ front rest)
        where
          front : take m (set w (m - 1) (a - 1)) ≡ lowered (take m w)
          front =
              ap (λ i. take i (set w (m - 1) (a - 1))) (sym m_is) ∙ lowered_in w (m - 1) (omega (arith, held.some, held.fits)) ∙ ap (λ i. lowered (take i w)) m_is

          rest : replicate (length (set w (m - 1) (a - 1)) - m) (k - 1) ≡ replicate (length w - length (take m w)) (k - 1)
          rest = ap₂ (λ i j. replicate (i - j) (k - 1)) shape (sym size)

      period_is : pre_period v ≡ period v
      period_is = ap (λ b. pick b (period v) 0) (ap is_lyndon x_is ∙ x_lyndon)

      pub before_is : {u : List ℕ} {r : ℕ} → r ≡ pre_period v → u ≡ filled 0 r v → PreviousIs k w m u r
      before_is {u} {r} r-is f = record { buffer = f ∙ ap₂ (λ y i. y ++ replicate i 0) word (ap₂ ◌-◌ long r_long) ∙ ap (padded (length w)) (sym x_before); size = r_long ∙ ap length (sym x_before) }
        where
          word : take r v ≡ x
          word = ap (λ i. take i v) (r-is ∙ period_is) ∙ x_is

          r_long : r ≡ length x
          r_long = sym (length-take-le r v (omega (arith, r-is, pre_period_fits v))) ∙ ap length word
