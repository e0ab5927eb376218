-- Words read round and round: the letters at successive positions, and the first position at which a word is read.
use mathlib.Core.Path.{◌≡◌, refl, sym, ◌∙◌, ap, ap₂, subst}
use mathlib.Core.Bool.{true, false}
use mathlib.Core.List.{List, ◌∷◌, ◌++◌, append_assoc}
use mathlib.Core.Logic.{◌⊎◌, inl, inr}
use Prim.Native.Nat.{ℕ, zero, suc, ◌+◌, ◌-◌, ◌%◌, ◌≤◌, ◌<◌}
use native.Mathlib.Omega.{arith}
use native.Mathlib.Nat.{mod-lt, mod-eq_of_lt, mod_self, mod-mod, mod-add-mod, suc-mod, add-mod_right, add_comm, add-zero, add-suc, zero-add, suc-add}
use lib.ListN.{length, get_or, take, drop, length-append, get_or-append}
use lib.Seq.{take-append_seam, take-append-add, drop-append_seam, drop-cons, get_or-append-add}
use borrow.Author.Tests.{lt-ltb}
use Rattle.theory.specs.Words.{same, marks_ok}
use Rattle.theory.specs.Rings.{modulo, letter_on, letters_on, find_on, beside}
use Rattle.theory.proofs.Base.{test, and_in, less, equal, more, cmp, upto, over, split}
use Rattle.theory.proofs.Order.{same_eq, same_ne}
use Rattle.theory.proofs.Letters.{marks_getD}

-- the remainder that never divides by 0
pub modulo_mod : (p m : ℕ) → 0 < m → modulo p m ≡ p % m
modulo_mod p zero h = absurd (omega arith)
modulo_mod p (suc m) h = refl

pub modulo_lt : (p m : ℕ) → 0 < m → modulo p m < m
modulo_lt p m h = rw (modulo_mod p m h) (mod-lt p h)

pub modulo_small : (p m : ℕ) → p < m → modulo p m ≡ p
modulo_small p m h = modulo_mod p m (omega arith) ∙ mod-eq_of_lt h

pub modulo_full : (m : ℕ) → modulo m m ≡ 0
modulo_full zero = refl
modulo_full (suc m) = mod_self (suc m)

pub modulo_add : (p m : ℕ) → modulo (p + m) m ≡ modulo p m
modulo_add p zero = refl
modulo_add p (suc m) = add-mod_right p (suc m)

pub modulo-modulo : (p m : ℕ) → modulo (modulo p m) m ≡ modulo p m
modulo-modulo p zero = refl
modulo-modulo p (suc m) = mod-mod p (suc m)

pub modulo_suc : (p m : ℕ) → modulo (suc p) m ≡ modulo (suc (modulo p m)) m
modulo_suc p zero = refl
modulo_suc p (suc m) = suc-mod p (suc m)

pub modulo-plus : (p g m : ℕ) → modulo (p + g) m ≡ modulo (modulo p m + g) m
modulo-plus p g zero = refl
modulo-plus p g (suc m) = sym (mod-add-mod p (suc m) g)

-- a position that lies at most one round ahead of x
pub round_once : (p r t x : ℕ) → p < t → r ≤ t → modulo (p + r) t ≡ x → (p + r ≡ x) ⊎ (p + r ≡ x + t)
round_once p r t x h k e = elim (split t (p + r)) [ upto l ↦ inr (past l) | over l ↦ inl (sym (modulo_small (p + r) t l) ∙ e) ]
  where
    past : t ≤ p + r → p + r ≡ x + t
    past l =
        let f : p + r ≡ (p + r - t) + t = omega arith in
        omega (arith, sym (modulo_small (p + r - t) t (omega arith)) ∙ sym (modulo_add (p + r - t) t) ∙ ap (λ y. modulo y t) (sym f) ∙ e)

-- the position before
pub beside-down : (p m : ℕ) → 0 < p → p < m → beside m false p ≡ p - 1
beside-down p m h g =
    let e : p + (m - 1) ≡ (p - 1) + m = omega arith in
    ap (λ i. modulo i m) e ∙ modulo_add (p - 1) m ∙ modulo_small (p - 1) m (omega arith)

pub beside_round : (m : ℕ) → 0 < m → beside m false 0 ≡ m - 1
beside_round m h = let e : 0 + (m - 1) ≡ m - 1 = omega arith in ap (λ i. modulo i m) e ∙ modulo_small (m - 1) m (omega arith)

-- there and back
pub beside_back : (p m : ℕ) → p < m → beside m false (beside m true p) ≡ p
beside_back p m h =
    let e : suc p + (m - 1) ≡ p + m = omega arith in
    sym (modulo-plus (suc p) (m - 1) m) ∙ ap (λ i. modulo i m) e ∙ modulo_add p m ∙ modulo_small p m h

pub beside_again : (p m : ℕ) → p < m → beside m true (beside m false p) ≡ p
beside_again p m h =
    let e : suc (p + (m - 1)) ≡ p + m = omega arith in
    sym (modulo_suc (p + (m - 1)) m) ∙ ap (λ i. modulo i m) e ∙ modulo_add p m ∙ modulo_small p m h

-- so many letters; reading on; the positions count up to the size
pub letters-length : (m : ℕ) (s : List ℕ) (p c : ℕ) → length (letters_on m s p c) ≡ c
letters-length m s p zero = refl
letters-length m s p (suc c) = ap suc (letters-length m s (suc p) c)

pub letters_at : (m : ℕ) (s : List ℕ) (p c j : ℕ) → j < c → get_or (letters_on m s p c) j 0 ≡ letter_on m s (p + j)
letters_at m s p zero j h = absurd (omega arith)
letters_at m s p (suc c) zero h = ap (letter_on m s) (sym (add-zero p))
letters_at m s p (suc c) (suc j) h = letters_at m s (suc p) c j (omega arith) ∙ ap (letter_on m s) (suc-add p j ∙ sym (add-suc p j))

pub letters_split : (m : ℕ) (s : List ℕ) (p c d : ℕ) → letters_on m s p (c + d) ≡ letters_on m s p c ++ letters_on m s (p + c) d
letters_split m s p zero d = rw (zero-add d, add-zero p)
letters_split m s p (suc c) d =
    rw (suc-add c d, add-suc p c, ← suc-add p c) (ap (λ r. letter_on m s p ∷ r) (letters_split m s (suc p) c d))

pub letters-same : (m : ℕ) (s : List ℕ) (p q c : ℕ) → modulo p m ≡ modulo q m → letters_on m s p c ≡ letters_on m s q c
letters-same m s p q zero e = refl
letters-same m s p q (suc c) e =
    ap₂ (λ a r. a ∷ r) (ap (λ i. get_or s i 0) e)
    (letters-same m s (suc p) (suc q) c (modulo_suc p m ∙ ap (λ i. modulo (suc i) m) e ∙ sym (modulo_suc q m)))

pub letters-modulo : (m : ℕ) (s : List ℕ) (p c : ℕ) → letters_on m s (modulo p m) c ≡ letters_on m s p c
letters-modulo m s p c = letters-same m s (modulo p m) p c (modulo-modulo p m)

-- letters read from a word t that shows what is read
pub letters_shown : (m : ℕ) (s t : List ℕ) (p c : ℕ) → ((i : ℕ) → i < length t → letter_on m s i ≡ get_or t i 0) → p + c ≤ length t
    → letters_on m s p c ≡ take c (drop p t)
letters_shown m s t p zero f h = refl
letters_shown m s t p (suc c) f h =
    let b : p < length t = omega arith in
    rw (drop-cons t p 0 b) (ap₂ (λ a r. a ∷ r) (f p b) (letters_shown m s t (suc p) c f (omega arith)))

pub letters_flat : (s : List ℕ) (p c : ℕ) → p + c ≤ length s → letters_on (length s) s p c ≡ take c (drop p s)
letters_flat s p c h = letters_shown (length s) s s p c (λ i b. ap (λ j. get_or s j 0) (modulo_small i (length s) b)) h

pub letters_round : (s : List ℕ) (p c : ℕ) → p + c ≤ length s + length s → letters_on (length s) s p c ≡ take c (drop p (s ++ s))
letters_round s p c h = letters_shown (length s) s (s ++ s) p c shown (omega (arith, length-append s s))
  where
    second : (i : ℕ) → i < length s → letter_on (length s) s (length s + i) ≡ get_or (s ++ s) (length s + i) 0
    second i b = ap (λ j. get_or s j 0) (ap (λ j. modulo j (length s)) (add_comm (length s) i) ∙ modulo_add i (length s) ∙ modulo_small i (length s) b) ∙ sym (get_or-append-add s s i 0)

    shown : (i : ℕ) → i < length (s ++ s) → letter_on (length s) s i ≡ get_or (s ++ s) i 0
    shown i b = elim (split (length s) i) [
      | upto g ↦
          let e : length s + (i - length s) ≡ i = omega arith in
          subst (λ j. letter_on (length s) s j ≡ get_or (s ++ s) j 0) e (second (i - length s) (omega (arith, length-append s s)))
      | over g ↦ ap (λ j. get_or s j 0) (modulo_small i (length s) g) ∙ sym (get_or-append s s 0 i g)
    ]

-- by factors: a word inside s, and a word that goes over the end
pub letters_inside : (s a w b : List ℕ) → s ≡ a ++ (w ++ b) → letters_on (length s) s (length a) (length w) ≡ w
letters_inside s a w b e =
    letters_flat s (length a) (length w) (omega (arith, simp length-append at (ap length e)))
    ∙ ap (λ r. take (length w) (drop (length a) r)) e ∙ rw (drop-append_seam, take-append_seam)

pub letters-over : (s v m a u : List ℕ) → s ≡ v ++ m → s ≡ a ++ u → letters_on (length s) s (length a) (length u + length v) ≡ u ++ v
letters-over s v m a u e f =
    letters_round s (length a) (length u + length v) (omega (arith, simp length-append at (ap length e), simp length-append at (ap length f)))
    ∙ ap₂ (λ x y. take (length u + length v) (drop (length a) (x ++ y))) f e
    ∙ rw (append_assoc, drop-append_seam, take-append-add, take-append_seam)

-- the letters read are letters of s
pub letters-marks : (k : ℕ) (s : List ℕ) (p c : ℕ) → 0 < length s → marks_ok k s ≡ true → marks_ok k (letters_on (length s) s p c) ≡ true
letters-marks k s p zero b h = refl
letters-marks k s p (suc c) b h =
    and_in (lt-ltb _ _ (marks_getD k s (modulo p (length s)) (modulo_lt p (length s) b) h)) (letters-marks k s (suc p) c b h)

-- r is the first position from p on at which n letters are w
pub record First (m : ℕ) (s : List ℕ) (n : ℕ) (w : List ℕ) (p r : ℕ) : Type 0 where
  pub after : p ≤ r
  pub reads : letters_on m s r n ≡ w
  pub none : (i : ℕ) → p ≤ i → i < r → ¬ (letters_on m s i n ≡ w)

pub find_first : (l p m : ℕ) (s : List ℕ) (n : ℕ) (w : List ℕ) (q : ℕ) → p ≤ q → q < p + l → letters_on m s q n ≡ w
    → First m s n w p (find_on l p m s n w)
find_first zero p m s n w q a b e = absurd (omega arith)
find_first (suc l) p m s n w q a b e = elim (test (same (letters_on m s p n) w)) [
  | inl t ↦ rw (t, find_on) (record { after = omega arith; reads = same_eq _ _ t; none = λ i x y. absurd (omega arith) })
  | inr t ↦ rw (t, find_on) (further t (elim (cmp p q) [
    | less g ↦ find_first l (suc p) m s n w q (omega arith) (omega arith) e
    | equal g ↦ absurd (same_ne t (ap (λ i. letters_on m s i n) g ∙ e))
    | more g ↦ absurd (omega arith)
  ]))
]
  where
    further : {r : ℕ} → same (letters_on m s p n) w ≡ false → First m s n w (suc p) r → First m s n w p r
    further t f = record {
      after = omega arith;
      reads = f.reads;
      none = λ i x y g. elim (cmp p i) [ less z ↦ f.none i (omega arith) y g | equal z ↦ same_ne t (ap (λ j. letters_on m s j n) z ∙ g) | more z ↦ absurd (omega arith) ];
    }

-- the first is not after any other, and the only one is the first
pub first_least : (m : ℕ) (s : List ℕ) (n : ℕ) (w : List ℕ) (p q r : ℕ) → First m s n w p r → p ≤ q → letters_on m s q n ≡ w → r ≤ q
first_least m s n w p q r f a e = elim (split r q) [ upto g ↦ g | over g ↦ absurd (f.none q a g e) ]
