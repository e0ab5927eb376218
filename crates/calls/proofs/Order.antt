-- The order of refusals: the number that is given applies and none before it does; 0 is given just when none applies.
use mathlib.Core.Path.{◌≡◌, refl, sym, ◌∙◌, ap, subst}
use mathlib.Core.Bool.{Bool, true, false, ◌&&◌, ◌||◌, not, false≢true}
use mathlib.Core.List.{List, [], ◌∷◌, ◌++◌}
use mathlib.Core.Logic.{inl, inr, ◌↔◌}
use Prim.Native.Nat.{ℕ}
use lib.Dec.{eqb}
use borrow.Author.Tests.{eq-eqb}
use Rattle.theory.specs.Lists.{In, here, there, Once}
use Rattle.theory.proofs.Base.{test, and_l, and_r, or_right, refuted}
use Rattle.theory.proofs.Lists.{in_append_right}
use Rattle.calls.specs.Order.{order, Rule, applies_in, first_by, given}

-- members by a test that computes
abbrev is_in : ℕ → List ℕ → Bool
is_in f [] = false
is_in f (g ∷ gs) = eqb f g || is_in f gs

abbrev apart : List ℕ → Bool
apart [] = true
apart (g ∷ gs) = not (is_in g gs) && apart gs

in_test : {f : ℕ} {gs : List ℕ} → In f gs → is_in f gs ≡ true
in_test {f} (here {y = g} e) = rw (eq-eqb f g e)
in_test {f} (there {y = g} i) = or_right (eqb f g) _ (in_test i)

apart_once : (gs : List ℕ) → apart gs ≡ true → Once gs
apart_once [] h = tt
apart_once (g ∷ gs) h = (λ i. refuted (is_in g gs) (and_l _ _ h) (in_test i), apart_once gs (and_r (not (is_in g gs)) _ h))

-- the order has no number twice, and no 0
once_before : (before after : List ℕ) {f : ℕ} → Once (before ++ (f ∷ after)) → ¬ In f before
once_before [] after o i = elim i [ ]
once_before (g ∷ before) after o (here e) = o.0 (in_append_right before (here (sym e)))
once_before (g ∷ before) after o (there i) = once_before before after o.1 i

pub order_once : Once order
order_once = apart_once order refl

pub some : {f : ℕ} → In f order → ¬ (f ≡ 0)
some i e = false≢true (in_test (subst (λ g. In g order) e i))

-- the first of a list that applies
module _ (rules : List Rule) where
  applies : (fs : List ℕ) {f : ℕ} → first_by fs rules ≡ f → ¬ (f ≡ 0) → applies_in f rules ≡ true
  applies [] e h = absurd (h (sym e))
  applies (g ∷ fs) {f} e h = elim (test (applies_in g rules)) [
    | inl t ↦ subst (λ x. applies_in x rules ≡ true) (rw t at e) t
    | inr t ↦ applies fs (rw t at e) h
  ]

  none_in : (fs : List ℕ) → ((f : ℕ) → In f fs → ¬ (f ≡ 0)) → first_by fs rules ≡ 0 → (f : ℕ) → In f fs → applies_in f rules ≡ false
  none_in [] h e f i = elim i [ ]
  none_in (g ∷ fs) h e f i = elim (test (applies_in g rules)) [
    | inl t ↦ absurd (h g (here refl) (rw t at e))
    | inr t ↦ elim i [ here q ↦ ap (λ x. applies_in x rules) q ∙ t | there j ↦ none_in fs (λ x y. h x (there y)) (rw t at e) f j ]
  ]

  none_out : (fs : List ℕ) → ((f : ℕ) → In f fs → applies_in f rules ≡ false) → first_by fs rules ≡ 0
  none_out [] h = refl
  none_out (g ∷ fs) h = rw (h g (here refl)) (none_out fs (λ f i. h f (there i)))

  first_in : (before after : List ℕ) (f : ℕ) → ¬ In f before → first_by (before ++ (f ∷ after)) rules ≡ f → (g : ℕ) → In g before → applies_in g rules ≡ false
  first_in [] after f h e g i = elim i [ ]
  first_in (x ∷ before) after f h e g i = elim (test (applies_in x rules)) [
    | inl t ↦ absurd (h (here (sym (rw t at e))))
    | inr t ↦ elim i [ here q ↦ ap (λ y. applies_in y rules) q ∙ t | there j ↦ first_in before after f (λ y. h (there y)) (rw t at e) g j ]
  ]

  first_out : (before after : List ℕ) (f : ℕ) → applies_in f rules ≡ true → ((g : ℕ) → In g before → applies_in g rules ≡ false) → first_by (before ++ (f ∷ after)) rules ≡ f
  first_out [] after f t h = rw t
  first_out (x ∷ before) after f t h = rw (h x (here refl)) (first_out before after f t (λ g i. h g (there i)))

  pub given-none : (given rules ≡ 0) ↔ ((f : ℕ) → In f order → applies_in f rules ≡ false)
  given-none = (none_in order (λ f i. some i), none_out order)

  pub given_first : (before after : List ℕ) (f : ℕ) → order ≡ before ++ (f ∷ after)
      → (given rules ≡ f) ↔ ((applies_in f rules ≡ true) × ((g : ℕ) → In g before → applies_in g rules ≡ false))
  given_first before after f e = (into, out)
    where
      alone : ¬ In f before
      alone = once_before before after (subst Once e order_once)

      into : given rules ≡ f → (applies_in f rules ≡ true) × ((g : ℕ) → In g before → applies_in g rules ≡ false)
      into h = (applies order h (some (subst (In f) (sym e) (in_append_right before (here refl)))), first_in before after f alone (ap (λ fs. first_by fs rules) (sym e) ∙ h))

      out : (applies_in f rules ≡ true) × ((g : ℕ) → In g before → applies_in g rules ≡ false) → given rules ≡ f
      out (t, h) = ap (λ fs. first_by fs rules) e ∙ first_out before after f t h
