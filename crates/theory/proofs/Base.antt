-- Tests, comparisons of numbers, lists taken apart: what every file below uses.
use mathlib.Core.Path.{◌≡◌, refl, sym, ap}
use mathlib.Core.Bool.{Bool, true, false, ◌&&◌, ◌||◌, not, false≢true, true≢false}
use mathlib.Core.List.{List, [], ◌∷◌, ◌++◌, head-eq_of_cons-eq, tail-eq_of_cons-eq}
use mathlib.Core.Logic.{◌⊎◌, inl, inr}
use Prim.Native.Nat.{ℕ, ◌≤◌, ◌<◌}
use native.Mathlib.Omega.{arith}
use native.Mathlib.Decide.{dec_lt}
use lib.ListN.{length, take, drop, length-append, take-append-drop}
use lib.Seq.{length-take-le}

-- Bool tests
pub test : (b : Bool) → (b ≡ true) ⊎ (b ≡ false)
test true = inl refl
test false = inr refl

pub and_l : (a b : Bool) → (a && b) ≡ true → a ≡ true
and_l true b h = refl
and_l false b h = absurd (false≢true h)

pub and_r : (a b : Bool) → (a && b) ≡ true → b ≡ true
and_r true b h = h
and_r false b h = absurd (false≢true h)

pub and_in : {a b : Bool} → a ≡ true → b ≡ true → (a && b) ≡ true
and_in {a} {b} p q = rw (p, q)

pub and_false : (a b : Bool) → b ≡ false → (a && b) ≡ false
and_false true b h = h
and_false false b h = refl

pub and_true : (b : Bool) → (b && true) ≡ b
and_true true = refl
and_true false = refl

pub and_swap : (a b : Bool) → (a && b) ≡ (b && a)
and_swap true b = sym (and_true b)
and_swap false b = sym (and_false b false refl)

pub or_false : (a b : Bool) → (a || b) ≡ false → (a ≡ false) × (b ≡ false)
or_false true b h = absurd (true≢false h)
or_false false b h = (refl, h)

pub or_right : (a b : Bool) → b ≡ true → (a || b) ≡ true
or_right true b h = refl
or_right false b h = h

-- tests that imply each other are the same
pub same_test : (a b : Bool) → (a ≡ true → b ≡ true) → (b ≡ true → a ≡ true) → a ≡ b
same_test true b f g = sym (f refl)
same_test false true f g = g refl
same_test false false f g = refl

pub refute : (b : Bool) → ¬ (b ≡ true) → not b ≡ true
refute true h = absurd (h refl)
refute false h = refl

pub refuted : (b : Bool) → not b ≡ true → ¬ (b ≡ true)
refuted true h e = false≢true h
refuted false h e = false≢true e

pub or_cases : (a b : Bool) → (a || b) ≡ true → (a ≡ true) ⊎ (b ≡ true)
or_cases true b h = inl refl
or_cases false b h = inr h

-- numbers compared
pub data Cmp (x y : ℕ) : Type 0 where
  less : x < y → Cmp x y
  equal : x ≡ y → Cmp x y
  more : y < x → Cmp x y

pub cmp : (x y : ℕ) → Cmp x y
cmp x y = elim (dec_lt x y) [ yes h ↦ less h | no h ↦ rest h (dec_lt y x) ]
  where
    rest : ¬ (x < y) → Dec (y < x) → Cmp x y
    rest a (yes h) = more h
    rest a (no b) = equal (omega arith)

-- which of two lengths is not below the other
pub data Split (x y : ℕ) : Type 0 where
  upto : x ≤ y → Split x y
  over : y < x → Split x y

pub split : (x y : ℕ) → Split x y
split x y = elim (cmp x y) [ less h ↦ upto (omega arith) | equal h ↦ upto (omega arith) | more h ↦ over h ]

-- lists
module _ {A : Type 0} where
  pub nil_of : (u : List A) → length u ≡ 0 → u ≡ []
  nil_of [] h = refl
  nil_of (x ∷ u) h = absurd (omega arith)

  -- the two ways in which u ++ v and p ++ q can be the same word
  pub data Levi (u v p q : List A) : Type 0 where
    longer : (t : List A) → u ≡ p ++ t → q ≡ t ++ v → Levi u v p q
    shorter : (t : List A) → p ≡ u ++ t → v ≡ t ++ q → Levi u v p q

  pub levi : (u v p q : List A) → u ++ v ≡ p ++ q → Levi u v p q
  levi [] v p q e = shorter p refl e
  levi (x ∷ u) v [] q e = longer (x ∷ u) refl (sym e)
  levi (x ∷ u) v (y ∷ p) q e = step (head-eq_of_cons-eq e) (levi u v p q (tail-eq_of_cons-eq e))
    where
      step : x ≡ y → Levi u v p q → Levi (x ∷ u) v (y ∷ p) q
      step h (longer t f g) = longer t (rw (h, f)) g
      step h (shorter t f g) = shorter t (rw (h, f)) g

  -- equal words split at equal lengths
  pub split_same : (u v p q : List A) → u ++ v ≡ p ++ q → length u ≡ length p → (u ≡ p) × (v ≡ q)
  split_same [] v [] q e h = (refl, e)
  split_same [] v (y ∷ p) q e h = absurd (omega arith)
  split_same (x ∷ u) v [] q e h = absurd (omega arith)
  split_same (x ∷ u) v (y ∷ p) q e h =
      let r = split_same u v p q (tail-eq_of_cons-eq e) (omega arith) in
      (rw (head-eq_of_cons-eq e, r.0), r.1)

  pub cancel_left : (p u v : List A) → p ++ u ≡ p ++ v → u ≡ v
  cancel_left p u v e = (split_same p u p v e refl).1

  pub cancel_right : (u v s : List A) → u ++ s ≡ v ++ s → u ≡ v
  cancel_right u v s e = (split_same u s v s e (omega (arith, ap length e, length-append u s, length-append v s))).0

  -- a word with a last letter
  pub unsnoc : (w : List A) → 0 < length w → (p : List A) × (b : A) × (w ≡ p ++ (b ∷ []))
  unsnoc [] h = absurd (omega arith)
  unsnoc (x ∷ []) h = ([], x, refl)
  unsnoc (x ∷ (y ∷ w)) h = let (p, b, e) = unsnoc (y ∷ w) (omega arith) in (x ∷ p, b, ap (λ r. x ∷ r) e)

  -- a word split at a length
  pub data Parts (w : List A) (i : ℕ) : Type 0 where
    parts : (u v : List A) → w ≡ u ++ v → length u ≡ i → Parts w i

  pub cut_at : (w : List A) (i : ℕ) → i ≤ length w → Parts w i
  cut_at w i h = parts (take i w) (drop i w) (sym (take-append-drop i w)) (length-take-le i w h)
