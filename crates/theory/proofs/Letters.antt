-- Words over the letters 0 to k−1: `marks_ok` as a statement about members, and how it passes to and from parts of a word.
use mathlib.Core.Path.{◌≡◌, refl, sym, subst}
use mathlib.Core.Bool.{true}
use mathlib.Core.List.{List, [], ◌∷◌, ◌++◌}
use mathlib.Core.Logic.{inl, inr}
use Prim.Native.Nat.{ℕ, zero, suc, ◌≤◌, ◌<◌}
use native.Mathlib.Omega.{arith}
use lib.Dec.{ltb}
use lib.ListN.{length, get_or, set, take, drop, replicate}
use borrow.Author.Tests.{ltb-true, lt-ltb}
use Rattle.theory.specs.Words.{repeated, marks_ok}
use Rattle.theory.specs.Lists.{In, here, there}
use Rattle.theory.specs.Rings.{joined}
use Rattle.theory.specs.Steps.{extension}
use Rattle.theory.proofs.Base.{and_l, and_r, and_in}
use Rattle.theory.proofs.Lists.{in_append_left, in_append_right, in_append_cases, take_in, drop_in, getD_in}

pub marks_in : (k : ℕ) (w : List ℕ) → marks_ok k w ≡ true → (a : ℕ) → In a w → a < k
marks_in k [] h a i = elim i [ ]
marks_in k (b ∷ w) h a (here e) = subst (λ r. r < k) (sym e) (ltb-true b k (and_l (ltb b k) (marks_ok k w) h))
marks_in k (b ∷ w) h a (there i) = marks_in k w (and_r (ltb b k) (marks_ok k w) h) a i

pub in_marks : (k : ℕ) (w : List ℕ) → ((a : ℕ) → In a w → a < k) → marks_ok k w ≡ true
in_marks k [] h = refl
in_marks k (a ∷ w) h = and_in (lt-ltb a k (h a (here refl))) (in_marks k w (λ b i. h b (there i)))

-- letters below k are below any larger number
pub marks_up : (k m : ℕ) (w : List ℕ) → k ≤ m → marks_ok k w ≡ true → marks_ok m w ≡ true
marks_up k m w h ok = in_marks m w (λ a i. omega (arith, marks_in k w ok a i))

-- parts of a word: whatever has only letters of the word
pub marks_part : (k : ℕ) (u w : List ℕ) → ((a : ℕ) → In a u → In a w) → marks_ok k w ≡ true → marks_ok k u ≡ true
marks_part k u w f h = in_marks k u (λ a i. marks_in k w h a (f a i))

pub marks_left : (k : ℕ) (u v : List ℕ) → marks_ok k (u ++ v) ≡ true → marks_ok k u ≡ true
marks_left k u v h = marks_part k u (u ++ v) (λ a i. in_append_left v i) h

pub marks_right : (k : ℕ) (u v : List ℕ) → marks_ok k (u ++ v) ≡ true → marks_ok k v ≡ true
marks_right k u v h = marks_part k v (u ++ v) (λ a i. in_append_right u i) h

pub marks-append : (k : ℕ) (u v : List ℕ) → marks_ok k u ≡ true → marks_ok k v ≡ true → marks_ok k (u ++ v) ≡ true
marks-append k u v p q = in_marks k (u ++ v) (λ a i. elim (in_append_cases u i) [ inl j ↦ marks_in k u p a j | inr j ↦ marks_in k v q a j ])

pub marks_cons : (k a : ℕ) (w : List ℕ) → a < k → marks_ok k w ≡ true → marks_ok k (a ∷ w) ≡ true
marks_cons k a w l h = and_in (lt-ltb a k l) h

pub marks_head : (k a : ℕ) (w : List ℕ) → marks_ok k (a ∷ w) ≡ true → a < k
marks_head k a w h = marks_in k (a ∷ w) h a (here refl)

pub marks_tail : (k a : ℕ) (w : List ℕ) → marks_ok k (a ∷ w) ≡ true → marks_ok k w ≡ true
marks_tail k a w h = marks_right k (a ∷ []) w h

pub marks-take : (k n : ℕ) (w : List ℕ) → marks_ok k w ≡ true → marks_ok k (take n w) ≡ true
marks-take k n w h = marks_part k (take n w) w (λ a i. take_in n w i) h

pub marks-drop : (k n : ℕ) (w : List ℕ) → marks_ok k w ≡ true → marks_ok k (drop n w) ≡ true
marks-drop k n w h = marks_part k (drop n w) w (λ a i. drop_in n w i) h

pub marks-repeated : (k e : ℕ) (u : List ℕ) → marks_ok k u ≡ true → marks_ok k (repeated e u) ≡ true
marks-repeated k zero u h = refl
marks-repeated k (suc e) u h = marks-append k u (repeated e u) h (marks-repeated k e u h)

pub marks-replicate : (k n z : ℕ) → z < k → marks_ok k (replicate n z) ≡ true
marks-replicate k zero z h = refl
marks-replicate k (suc n) z h = marks_cons k z (replicate n z) h (marks-replicate k n z h)

pub marks-joined : (k : ℕ) (ws : List (List ℕ)) → ((w : List ℕ) → In w ws → marks_ok k w ≡ true) → marks_ok k (joined ws) ≡ true
marks-joined k [] h = refl
marks-joined k (w ∷ ws) h = marks-append k w (joined ws) (h w (here refl)) (marks-joined k ws (λ v i. h v (there i)))

pub marks_getD : (k : ℕ) (w : List ℕ) (i : ℕ) → i < length w → marks_ok k w ≡ true → get_or w i 0 < k
marks_getD k w i l h = marks_in k w h (get_or w i 0) (getD_in w i 0 l)

pub marks-set : (k : ℕ) (w : List ℕ) (i a : ℕ) → a < k → marks_ok k w ≡ true → marks_ok k (set w i a) ≡ true
marks-set k [] i a h ok = refl
marks-set k (b ∷ w) zero a h ok = marks_cons k a w h (marks_tail k b w ok)
marks-set k (b ∷ w) (suc i) a h ok = marks_cons k b (set w i a) (marks_head k b w ok) (marks-set k w i a h (marks_tail k b w ok))

pub marks_letter : (k : ℕ) (p : List ℕ) (a : ℕ) (s : List ℕ) → marks_ok k (p ++ (a ∷ s)) ≡ true → a < k
marks_letter k p a s h = marks_head k a s (marks_right k p (a ∷ s) h)

pub marks-extension : (k m : ℕ) (x : List ℕ) → marks_ok k x ≡ true → marks_ok k (extension m x) ≡ true
marks-extension k m x h = marks-take k m (repeated m x) (marks-repeated k m x h)
