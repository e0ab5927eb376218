-- What is found in a window with erasures: how many they are, and whether a letter that was read is k or more; and how the faults are told one after the
-- other.
use mathlib.Core.Path.{◌≡◌, refl, sym, ◌∙◌, ap}
use mathlib.Core.Bool.{Bool, ◌&&◌, ◌||◌, not, cond}
use mathlib.Core.List.{List, [], ◌∷◌, ◌++◌}
use mathlib.Core.Logic.{inl, inr}
use Prim.Native.Nat.{ℕ, ◌+◌, ◌≤◌, ◌<◌}
use native.Mathlib.Omega.{arith}
use native.Mathlib.Numerals.{add-one}
use lib.Dec.{ltb}
use lib.ListN.{length, get_or, drop}
use lib.Seq.{drop-cons}
use borrow.Author.Tests.{eq-eqb, ne_eqb, lt-ltb, le-ltb}
use Rattle.std.specs.List.{count_by, list_all}
use Rattle.std.proofs.lemmas.List.Recursion.{is_count_by}
use Rattle.theory.specs.Words.{pick, when, keep, marks_ok}
use Rattle.theory.specs.Erasures.{unread, read, smudge_fault}
use Rattle.theory.proofs.Base.{test}

-- how many letters are erasures
pub counted : (w : List ℕ) → count_by unread w ≡ length (keep unread w)
counted w =
    let more : (a : ℕ) (u : List ℕ) → length (keep unread (a ∷ u)) ≡ cond (unread a) (1 + length (keep unread u)) (length (keep unread u)) =
    λ a u. elim (test (unread a)) [ inl t ↦ rw t (omega arith) | inr t ↦ rw t ] in
    sym (is_count_by (λ u. length (keep unread u)) unread refl more w)

-- each letter is an erasure or below k
pub all_below : (k : ℕ) (w : List ℕ) → list_all (λ a. unread a || ltb a k) w ≡ marks_ok k (keep read w)
all_below k [] = refl
all_below k (a ∷ w) = elim (test (unread a)) [ inl t ↦ rw t (all_below k w) | inr t ↦ rw t (ap (λ b. ltb a k && b) (all_below k w)) ]

-- the letters that pass a test, from the letter at i on
keep_on : (w : List ℕ) (i : ℕ) → i < length w → (f : ℕ → Bool) → keep f (drop i w) ≡ pick (f (get_or w i 0)) (get_or w i 0 ∷ []) [] ++ keep f (drop (i + 1) w)
keep_on w i h f = rw (drop-cons w i 0 h, add-one i)

-- a letter that was read and is below k leaves it to those behind it
module _ (k : ℕ) (w : List ℕ) (i : ℕ) (h : i < length w) where
  pub read_on_lem : ¬ (get_or w i 0 ≡ 255) → get_or w i 0 < k → marks_ok k (keep read (drop i w)) ≡ marks_ok k (keep read (drop (i + 1) w))
  read_on_lem e l = ap (marks_ok k) (keep_on w i h read) ∙ rw (ne_eqb (get_or w i 0) 255 e, lt-ltb (get_or w i 0) k l)

-- the faults in their order
module _ (k n : ℕ) (w : List ℕ) where
  pub wrong_length : ¬ (length w ≡ n) → 2 ≡ smudge_fault k n w
  wrong_length h = sym (rw (ne_eqb (length w) n h))

  pub too_smudged : length w ≡ n → 2 < length (keep unread w) → 11 ≡ smudge_fault k n w
  too_smudged h l = sym (rw (eq-eqb (length w) n h, lt-ltb 2 (length (keep unread w)) l))

  pub letters_told : {t : Bool} → length w ≡ n → length (keep unread w) ≤ 2 → t ≡ marks_ok k (keep read w) → when (not t) 3 ≡ smudge_fault k n w
  letters_told h l e = sym (rw (eq-eqb (length w) n h, le-ltb 2 (length (keep unread w)) l, e))
