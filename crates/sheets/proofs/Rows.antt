-- The lines of a sheet: that of one number, and how they follow each other.
use mathlib.Core.Path.{◌≡◌, refl, sym, ◌∙◌, ap}
use mathlib.Core.List.{List, [], ◌∷◌, ◌++◌, append_assoc, append-nil}
use mathlib.Core.Logic.{inl, inr}
use Prim.Native.Nat.{ℕ, ◌+◌, ◌-◌, ◌%◌, ◌<◌}
use native.Mathlib.Nat.{le_refl}
use lib.IntN.{ℤ, pos}
use lib.Dec.{eqb}
use borrow.Author.Tests.{eq-eqb, ne_eqb, eqb-true, eqb-false}
use Rattle.theory.specs.Words.{pick}
use Rattle.theory.specs.Lists.{In, here, there}
use Rattle.theory.specs.Sums.{plus, running, divisors_in, divisors_down, rank_term}
use Rattle.theory.specs.Floors.{necklace_up_to}
use Rattle.theory.proofs.Base.{test}
use Rattle.theory.proofs.Downwards.{in_more, in_skip, in_all, in_part}
use Rattle.shape.specs.declared.Strip as DS
use Rattle.shape.specs.Shapes.{WordOn}
use Rattle.shape.proofs.Limits.{limits}
use Rattle.automaton.specs.Tables.{Sized}
use Rattle.moebius.specs.Summands.{summand}
use Rattle.ranks.proofs.Quotients.{summand_is}
use Rattle.ranks.proofs.Floored.{floored}
use Rattle.texts.specs.Texts.{fields}
use Rattle.sheets.specs.Worksheets.{sheet_line, sheet_from, sheet, line_at}

-- three fields from what was added
pub three : (x y z : List ℕ) → (([] ++ (x ++ (32 ∷ []))) ++ (y ++ (32 ∷ []))) ++ (z ++ (10 ∷ [])) ≡ fields x (y ∷ z ∷ [])
three x y z = simp append_assoc

module _ (f : ℕ → ℤ) where
  -- the number n - i has a line if it divides n
  pub divisor-line : (n i : ℕ) → n % (n - i) ≡ 0 → line_at f n i ≡ sheet_line (n - i) (f (n - i)) (running f (pos 0) (divisors_in n (i + 1)))
  divisor-line n i e = ap (λ b. pick b (sheet_line (n - i) (f (n - i)) (running f (pos 0) (divisors_in n (i + 1)))) []) (eq-eqb (n % (n - i)) 0 e)

  pub no_line : (n i : ℕ) → (n % (n - i) ≡ 0 → ⊥) → line_at f n i ≡ []
  no_line n i e = ap (λ b. pick b (sheet_line (n - i) (f (n - i)) (running f (pos 0) (divisors_in n (i + 1)))) []) (ne_eqb (n % (n - i)) 0 e)

  -- a divisor more at the end
  pub from_last : (a : ℤ) (ds : List ℕ) (d : ℕ) → sheet_from f a (ds ++ (d ∷ [])) ≡ sheet_from f a ds ++ sheet_line d (f d) (running f a (ds ++ (d ∷ [])))
  from_last a [] d = append-nil _
  from_last a (c ∷ ds) d =
      let first = sheet_line c (f c) (plus a (f c)) in
      ap (λ r. first ++ r) (from_last (plus a (f c)) ds d) ∙ sym (append_assoc first (sheet_from f (plus a (f c)) ds) _)

  -- a number more
  pub lines_next : (n i : ℕ) → i < n → sheet_from f (pos 0) (divisors_in n i) ++ line_at f n i ≡ sheet_from f (pos 0) (divisors_in n (i + 1))
  lines_next n i h = elim (test (eqb (n % (n - i)) 0)) [
    | inl t ↦
        let e = eqb-true (n % (n - i)) 0 t in
        let next = in_more n i h e in
        ap (λ r. sheet_from f (pos 0) (divisors_in n i) ++ r) (divisor-line n i e)
        ∙ ap (λ ds. sheet_from f (pos 0) (divisors_in n i) ++ sheet_line (n - i) (f (n - i)) (running f (pos 0) ds)) next
        ∙ sym (ap (sheet_from f (pos 0)) next ∙ from_last (pos 0) (divisors_in n i) (n - i))
    | inr t ↦
        let e = eqb-false (n % (n - i)) 0 t in
        ap (λ r. sheet_from f (pos 0) (divisors_in n i) ++ r) (no_line n i e) ∙ append-nil _ ∙ sym (ap (sheet_from f (pos 0)) (in_skip n i h e))
  ]

-- the same terms, the same lines
from_same : (f g : ℕ → ℤ) (a : ℤ) (ds : List ℕ) → ((d : ℕ) → In d ds → f d ≡ g d) → sheet_from f a ds ≡ sheet_from g a ds
from_same f g a [] h = refl
from_same f g a (d ∷ ds) h =
    ap (λ x. sheet_line d x (plus a x) ++ sheet_from f (plus a x) ds) (h d (here refl))
    ∙ ap (λ r. sheet_line d (g d) (plus a (g d)) ++ r) (from_same f g (plus a (g d)) ds (λ e i. h e (there i)))

-- with the sizes of CS of the largest necklace not above a word they are its sheet
pub sized_sheet : {s : DS.Strip} {w t : List ℕ} → WordOn s w → Sized s.k (necklace_up_to s.k w) t
    → sheet_from (summand s.n t) (pos 0) (divisors_in s.n s.n) ≡ sheet s.k w
sized_sheet {s} {w} {t} h z =
    let n = s.n in
    let v = necklace_up_to s.k w in
    let term : (d : ℕ) → In d (divisors_in n n) → summand n t d ≡ rank_term s.k v d = λ d i. summand_is s.k n v t (floored h).0.long z d (in_part n n (limits s).some d i) in
    from_same (summand n t) (rank_term s.k v) (pos 0) (divisors_in n n) term
    ∙ ap (sheet_from (rank_term s.k v) (pos 0)) (in_all n n (le_refl n) ∙ ap divisors_down (sym h.long))
