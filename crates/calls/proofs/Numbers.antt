-- The faults of each kind of argument, tested one after the other, give the first of `order` that applies.
use mathlib.Core.Path.{◌≡◌, refl, sym, ◌∙◌, ap, ap₂}
use mathlib.Core.Bool.{Bool, true, false, ◌||◌, false≢true}
use mathlib.Core.List.{List, [], ◌∷◌}
use mathlib.Core.Logic.{◌⊎◌, inl, inr}
use Prim.Native.Nat.{ℕ}
use lib.Dec.{eqb}
use borrow.Author.Tests.{eqb-true, eq-eqb, ne_eqb}
use Rattle.theory.specs.Words.{pick, first_of, when}
use Rattle.theory.specs.Lists.{In, here, there, Once}
use Rattle.theory.proofs.Base.{test, and_false}
use Rattle.theory.proofs.Faults.{first_some, first_assoc, first_zero}
use Rattle.calls.specs.Order.{order, Rule, rule, applies_in, first_by, given}
use Rattle.calls.proofs.Order.{order_once, some}

-- rules, tested one after the other
abbrev tested : List Rule → ℕ
tested [] = 0
tested (x ∷ xs) = first_of (when x.applies x.number) (tested xs)

-- do their numbers stand so in a list of numbers? It computes, whatever applies
abbrev sorted : List ℕ → List Rule → Bool
sorted fs [] = true
sorted [] (x ∷ xs) = false
sorted (f ∷ fs) (x ∷ xs) = pick (eqb f x.number) (sorted fs xs) (sorted fs (x ∷ xs))

-- a number that is not in the list applies by none of the rules
absent : (f : ℕ) (fs : List ℕ) (rules : List Rule) → ¬ In f fs → sorted fs rules ≡ true → applies_in f rules ≡ false
absent f fs [] n h = refl
absent f [] (x ∷ xs) n h = absurd (false≢true h)
absent f (g ∷ fs) (x ∷ xs) n h = elim (test (eqb g x.number)) [
  | inl t ↦
      let other : eqb f x.number ≡ false = ne_eqb f x.number (λ e. n (here (e ∙ sym (eqb-true g x.number t)))) in
      rw other (absent f fs xs (λ i. n (there i)) (rw t at h))
  | inr t ↦ absent f fs (x ∷ xs) (λ i. n (there i)) (rw t at h)
]

-- a rule that does not apply counts for nothing
idle_one : (f : ℕ) (x : Rule) (xs : List Rule) → x.applies ≡ false → applies_in f (x ∷ xs) ≡ applies_in f xs
idle_one f x xs h = ap (λ t. t || applies_in f xs) (and_false (eqb f x.number) x.applies h)

idle : (fs : List ℕ) (x : Rule) (xs : List Rule) → x.applies ≡ false → first_by fs (x ∷ xs) ≡ first_by fs xs
idle [] x xs h = refl
idle (f ∷ fs) x xs h = ap₂ (λ t g. pick t f g) (idle_one f x xs h) (idle fs x xs h)

no_rules : (fs : List ℕ) → first_by fs [] ≡ 0
no_rules [] = refl
no_rules (f ∷ fs) = no_rules fs

first_sorted : (fs : List ℕ) (rules : List Rule) → Once fs → ((f : ℕ) → In f fs → ¬ (f ≡ 0)) → sorted fs rules ≡ true → first_by fs rules ≡ tested rules
first_sorted fs [] o z h = no_rules fs
first_sorted [] (x ∷ xs) o z h = absurd (false≢true h)
first_sorted (f ∷ fs) (x ∷ xs) o z h = elim (test (eqb f x.number)) [
  | inl t ↦ takes (eqb-true f x.number t) (rw t at h) (first_sorted fs xs o.1 (λ g i. z g (there i)) (rw t at h)) (test x.applies)
  | inr t ↦ let g : sorted fs (x ∷ xs) ≡ true = rw t at h in rw (absent f fs (x ∷ xs) o.0 g) (first_sorted fs (x ∷ xs) o.1 (λ y i. z y (there i)) g)
]
  where
    takes : f ≡ x.number → sorted fs xs ≡ true → first_by fs xs ≡ tested xs → (x.applies ≡ true) ⊎ (x.applies ≡ false) → first_by (f ∷ fs) (x ∷ xs) ≡ tested (x ∷ xs)
    takes e s ih (inl t) =
        let it : applies_in f (x ∷ xs) ≡ true = rw (eq-eqb f x.number e, t) in
        ap (λ b. pick b f (first_by fs (x ∷ xs))) it ∙ e ∙ sym (ap (λ b. first_of (when b x.number) (tested xs)) t ∙ first_some x.number (tested xs) (λ y. z f (here refl) (e ∙ y)))
    takes e s ih (inr t) =
        ap (λ b. pick b f (first_by fs (x ∷ xs))) (idle_one f x xs t ∙ absent f fs xs o.0 s) ∙ idle fs x xs t ∙ ih ∙ sym (ap (λ b. first_of (when b x.number) (tested xs)) t)

-- so the test is all that is to be shown
in_order : {f : ℕ} (rules : List Rule) → f ≡ tested rules → sorted order rules ≡ true → f ≡ given rules
in_order rules e h = e ∙ sym (first_sorted order rules order_once (λ f i. some i) h)

-- the faults of each kind of argument, each a chain of tests; chains of chains are one chain
pub strip_number : (a : Bool) → when a 1 ≡ given (rule 1 a ∷ [])
strip_number a = in_order (rule 1 a ∷ []) (simp first_zero) refl

pub marks_number : (b c : Bool) → first_of (when b 2) (when c 3) ≡ given (rule 2 b ∷ rule 3 c ∷ [])
marks_number b c = in_order (rule 2 b ∷ rule 3 c ∷ []) (simp first_zero) refl

pub word_number : (a b c : Bool) → first_of (when a 1) (first_of (when b 2) (when c 3)) ≡ given (rule 1 a ∷ rule 2 b ∷ rule 3 c ∷ [])
word_number a b c = in_order (rule 1 a ∷ rule 2 b ∷ rule 3 c ∷ []) (simp first_zero) refl

pub place_number : (a b : Bool) → first_of (when a 1) (when b 4) ≡ given (rule 1 a ∷ rule 4 b ∷ [])
place_number a b = in_order (rule 1 a ∷ rule 4 b ∷ []) (simp first_zero) refl

pub cursor_number : (a b : Bool) → first_of (when a 1) (when b 10) ≡ given (rule 1 a ∷ rule 10 b ∷ [])
cursor_number a b = in_order (rule 1 a ∷ rule 10 b ∷ []) (simp first_zero) refl

pub plan_number : (a b c : Bool) → first_of (when a 7) (first_of (when b 1) (when c 8)) ≡ given (rule 7 a ∷ rule 1 b ∷ rule 8 c ∷ [])
plan_number a b c = in_order (rule 7 a ∷ rule 1 b ∷ rule 8 c ∷ []) (simp first_zero) refl

pub bill_number : (t s k l p : Bool)
    → first_of (first_of (when t 7) (first_of (when s 1) (when k 8))) (first_of (when l 14) (when p 15)) ≡ given (rule 7 t ∷ rule 1 s ∷ rule 8 k ∷ rule 14 l ∷ rule 15 p ∷ [])
bill_number t s k l p = in_order (rule 7 t ∷ rule 1 s ∷ rule 8 k ∷ rule 14 l ∷ rule 15 p ∷ []) (simp (first_assoc, first_zero)) refl

-- with a tray
pub word_tray_number : (a b c d : Bool)
    → first_of (first_of (when a 1) (first_of (when b 2) (when c 3))) (when d 6) ≡ given (rule 1 a ∷ rule 2 b ∷ rule 3 c ∷ rule 6 d ∷ [])
word_tray_number a b c d = in_order (rule 1 a ∷ rule 2 b ∷ rule 3 c ∷ rule 6 d ∷ []) (simp (first_assoc, first_zero)) refl

pub short_window_tray_number : (a b c e d : Bool)
    → first_of (first_of (first_of (when a 1) (first_of (when b 2) (when c 3))) (when e 16)) (when d 6) ≡ given (rule 1 a ∷ rule 2 b ∷ rule 3 c ∷ rule 16 e ∷ rule 6 d ∷ [])
short_window_tray_number a b c e d = in_order (rule 1 a ∷ rule 2 b ∷ rule 3 c ∷ rule 16 e ∷ rule 6 d ∷ []) (simp (first_assoc, first_zero)) refl

pub place_tray_number : (a b d : Bool) → first_of (first_of (when a 1) (when b 4)) (when d 6) ≡ given (rule 1 a ∷ rule 4 b ∷ rule 6 d ∷ [])
place_tray_number a b d = in_order (rule 1 a ∷ rule 4 b ∷ rule 6 d ∷ []) (simp (first_assoc, first_zero)) refl

pub index_tray_number : (a b d : Bool) → first_of (first_of (when a 1) (when b 5)) (when d 6) ≡ given (rule 1 a ∷ rule 5 b ∷ rule 6 d ∷ [])
index_tray_number a b d = in_order (rule 1 a ∷ rule 5 b ∷ rule 6 d ∷ []) (simp (first_assoc, first_zero)) refl

pub laying_tray_number : (t s k b c l d : Bool)
    → first_of (first_of (first_of (when t 7) (first_of (when s 1) (when k 8))) (first_of (first_of (when b 2) (when c 3)) (when l 9))) (when d 6)
    ≡ given (rule 7 t ∷ rule 1 s ∷ rule 8 k ∷ rule 2 b ∷ rule 3 c ∷ rule 9 l ∷ rule 6 d ∷ [])
laying_tray_number t s k b c l d =
    in_order (rule 7 t ∷ rule 1 s ∷ rule 8 k ∷ rule 2 b ∷ rule 3 c ∷ rule 9 l ∷ rule 6 d ∷ []) (simp (first_assoc, first_zero)) refl

pub smudged_tray_number : (t s k b e c l d : Bool)
    → first_of (first_of (first_of (when t 7) (first_of (when s 1) (when k 8))) (first_of (first_of (when b 2) (first_of (when e 11) (when c 3))) (when l 9))) (when d 6)
    ≡ given (rule 7 t ∷ rule 1 s ∷ rule 8 k ∷ rule 2 b ∷ rule 11 e ∷ rule 3 c ∷ rule 9 l ∷ rule 6 d ∷ [])
smudged_tray_number t s k b e c l d =
    in_order (rule 7 t ∷ rule 1 s ∷ rule 8 k ∷ rule 2 b ∷ rule 11 e ∷ rule 3 c ∷ rule 9 l ∷ rule 6 d ∷ []) (simp (first_assoc, first_zero)) refl

pub picture_tray_number : (a b c e d : Bool)
    → first_of (first_of (when a 1) (first_of (when b 12) (first_of (when c 4) (when e 13)))) (when d 6) ≡ given (rule 1 a ∷ rule 12 b ∷ rule 4 c ∷ rule 13 e ∷ rule 6 d ∷ [])
picture_tray_number a b c e d = in_order (rule 1 a ∷ rule 12 b ∷ rule 4 c ∷ rule 13 e ∷ rule 6 d ∷ []) (simp (first_assoc, first_zero)) refl

pub bill_tray_number : (t s k l p d : Bool)
    → first_of (first_of (first_of (when t 7) (first_of (when s 1) (when k 8))) (first_of (when l 14) (when p 15))) (when d 6)
    ≡ given (rule 7 t ∷ rule 1 s ∷ rule 8 k ∷ rule 14 l ∷ rule 15 p ∷ rule 6 d ∷ [])
bill_tray_number t s k l p d = in_order (rule 7 t ∷ rule 1 s ∷ rule 8 k ∷ rule 14 l ∷ rule 15 p ∷ rule 6 d ∷ []) (simp (first_assoc, first_zero)) refl
