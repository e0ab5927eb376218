-- Windows with erasures: the words that agree with one are its fillings; the places that fit, the lowest of them, and when there is none; a window that was read in full.
use mathlib.Core.Path.{◌≡◌, refl, sym, ◌∙◌, ap, ap₂, subst}
use mathlib.Core.Bool.{true, false, ◌||◌, not, false≢true}
use mathlib.Core.List.{List, [], ◌∷◌}
use mathlib.Core.Logic.{◌⊎◌, inl, inr, ◌↔◌, ◌≢◌}
use Prim.Native.Nat.{ℕ, zero, suc, ◌+◌, ◌*◌, ◌/◌, ◌%◌, ◌^◌, ◌≤◌, ◌<◌}
use native.Mathlib.Omega.{arith}
use native.Mathlib.Nat.{mod-lt, pow-zero, pow-succ', mul-le-mul_left, add-mul-mod_self_left, add-mul-div_left, mod-eq_of_lt, div-eq_of_lt}
use lib.Dec.{eqb, ltb}
use lib.ListN.{length, get_or}
use borrow.Author.Tests.{ltb-false, le-ltb, eqb-true, eqb-false, eq-eqb, ne_eqb, not-false}
use Rattle.theory.specs.Words.{pick, first_of, when, keep, marks_ok}
use Rattle.theory.specs.Lists.{In, here, there, count_from}
use Rattle.theory.specs.Strips.{strip, window, place_of}
use Rattle.theory.specs.Plans.{shades, marks, plan_fault, word_fault, laid_at, laying_of, lookup_fault}
use Rattle.theory.specs.Erasures.{unread, read, agrees, fits_at, fitting, lowest, filling, smudge_fault, smudged_fault}
use Rattle.theory.specs.Theorems.{Smudged}
use Rattle.theory.proofs.Base.{test, and_l, and_r, and_in, or_right, same_test, nil_of}
use Rattle.theory.proofs.Lists.{in_nil, in_some, no_members, getD_in, keep_in, in_keep, keep_all, count_in, in_count, count_least}
use Rattle.theory.proofs.Letters.{marks_cons, marks_head, marks_tail}
use Rattle.theory.proofs.Reading.{letters-length}
use Rattle.theory.proofs.Rings.{admitted_range, one_place, strip-marks}
use Rattle.theory.proofs.Faults.{first_none, first_then, when-none, word_fine}
use Rattle.theory.proofs.Laying.{plan_good, lookup_good}

-- agreeing, letter by letter
agrees-length : (w v : List ℕ) → agrees w v ≡ true → length w ≡ length v
agrees-length [] [] h = refl
agrees-length [] (b ∷ v) h = absurd (false≢true h)
agrees-length (a ∷ w) [] h = absurd (false≢true h)
agrees-length (a ∷ w) (b ∷ v) h = ap suc (agrees-length w v (and_r (unread a || eqb a b) _ h))

same_letter : (a b : ℕ) → (unread a || eqb a b) ≡ true → unread a ≡ false → a ≡ b
same_letter a b h t = eqb-true a b (rw t at h)

agrees_at : (w v : List ℕ) → agrees w v ≡ true → (j : ℕ) → j < length w → get_or w j 0 ≢ 255 → get_or w j 0 ≡ get_or v j 0
agrees_at [] v h j l r = absurd (omega arith)
agrees_at (a ∷ w) [] h j l r = absurd (false≢true h)
agrees_at (a ∷ w) (b ∷ v) h zero l r = same_letter a b (and_l _ _ h) (ne_eqb a 255 r)
agrees_at (a ∷ w) (b ∷ v) h (suc j) l r = agrees_at w v (and_r (unread a || eqb a b) _ h) j (omega arith) r

agrees_by : (w v : List ℕ) → length w ≡ length v → ((j : ℕ) → j < length w → get_or w j 0 ≢ 255 → get_or w j 0 ≡ get_or v j 0) → agrees w v ≡ true
agrees_by [] [] e h = refl
agrees_by [] (b ∷ v) e h = absurd (omega arith)
agrees_by (a ∷ w) [] e h = absurd (omega arith)
agrees_by (a ∷ w) (b ∷ v) e h = and_in (first (test (unread a))) (agrees_by w v (omega arith) (λ j l r. h (suc j) (omega arith) r))
  where
    first : (unread a ≡ true) ⊎ (unread a ≡ false) → (unread a || eqb a b) ≡ true
    first (inl t) = rw t
    first (inr t) = or_right (unread a) (eqb a b) (eq-eqb a b (h 0 (omega arith) (eqb-false a 255 t)))

-- a word that was read in full agrees with itself alone
agrees-same : (w v : List ℕ) → ((a : ℕ) → In a w → unread a ≡ false) → agrees w v ≡ true → v ≡ w
agrees-same [] [] r h = refl
agrees-same [] (b ∷ v) r h = absurd (false≢true h)
agrees-same (a ∷ w) [] r h = absurd (false≢true h)
agrees-same (a ∷ w) (b ∷ v) r h = ap₂ (λ x y. x ∷ y) (sym (same_letter a b (and_l _ _ h) (r a (here refl)))) (agrees-same w v (λ x i. r x (there i)) (and_r (unread a || eqb a b) _ h))

-- the letters that were read are letters of a word that agrees
agrees-marks : (k : ℕ) (w v : List ℕ) → agrees w v ≡ true → marks_ok k v ≡ true → marks_ok k (keep read w) ≡ true
agrees-marks k [] v h m = refl
agrees-marks k (a ∷ w) [] h m = absurd (false≢true h)
agrees-marks k (a ∷ w) (b ∷ v) h m = next (test (unread a)) (agrees-marks k w v (and_r (unread a || eqb a b) _ h) (marks_tail k b v m))
  where
    next : (unread a ≡ true) ⊎ (unread a ≡ false) → marks_ok k (keep read w) ≡ true → marks_ok k (keep read (a ∷ w)) ≡ true
    next (inl t) ih = rw t ih
    next (inr t) ih = rw t (marks_cons k a (keep read w) (subst (λ x. x < k) (sym (same_letter a b (and_l _ _ h) t)) (marks_head k b v m)) ih)

-- a filling
pub filling-length : (k c : ℕ) (w : List ℕ) → length (filling k c w) ≡ length w
filling-length k c [] = refl
filling-length k c (a ∷ w) = ap suc (filling-length k (pick (unread a) (c / k) c) w)

pub filling-agrees : (k c : ℕ) (w : List ℕ) → agrees w (filling k c w) ≡ true
filling-agrees k c [] = refl
filling-agrees k c (a ∷ w) = and_in (first (test (unread a))) (filling-agrees k (pick (unread a) (c / k) c) w)
  where
    first : (unread a ≡ true) ⊎ (unread a ≡ false) → (unread a || eqb a (pick (unread a) (c % k) a)) ≡ true
    first (inl t) = rw t
    first (inr t) = rw t (eq-eqb a a refl)

pub filling-marks : (k c : ℕ) (w : List ℕ) → 1 ≤ k → marks_ok k (keep read w) ≡ true → marks_ok k (filling k c w) ≡ true
filling-marks k c [] some h = refl
filling-marks k c (a ∷ w) some h = elim (test (unread a)) [
  | inl t ↦ rw t (marks_cons k (c % k) (filling k (c / k) w) (mod-lt c (omega arith)) (filling-marks k (c / k) w some (rw t at h)))
  | inr t ↦
      let m : marks_ok k (a ∷ keep read w) ≡ true = rw t at h in
      rw t (marks_cons k a (filling k c w) (marks_head k a (keep read w) m) (filling-marks k c w some (marks_tail k a (keep read w) m)))
]

-- a word that agrees is a filling
pub data Filled (k : ℕ) (w v : List ℕ) : Type 0 where
  filled : (c : ℕ) → c < k ^ length (keep unread w) → filling k c w ≡ v → Filled k w v

pub agrees-filled : (k : ℕ) (w v : List ℕ) → marks_ok k v ≡ true → agrees w v ≡ true → Filled k w v
agrees-filled k [] [] m h = filled 0 (rw (pow-zero k) (omega arith)) refl
agrees-filled k [] (b ∷ v) m h = absurd (false≢true h)
agrees-filled k (a ∷ w) [] m h = absurd (false≢true h)
agrees-filled k (a ∷ w) (b ∷ v) m h = elim (agrees-filled k w v (marks_tail k b v m) (and_r (unread a || eqb a b) _ h)) [ filled c l e ↦ on (test (unread a)) c l e ]
  where
    small : b < k
    small = marks_head k b v m

    on : (unread a ≡ true) ⊎ (unread a ≡ false) → (c : ℕ) → c < k ^ length (keep unread w) → filling k c w ≡ v → Filled k (a ∷ w) (b ∷ v)
    on (inl t) c l e =
        let low : (b + k * c) % k ≡ b = add-mul-mod_self_left b k c ∙ mod-eq_of_lt small in
        let high : (b + k * c) / k ≡ c = add-mul-div_left b c (omega (arith, small)) ∙ omega (arith, div-eq_of_lt small) in
        let most : k * suc c ≤ k * k ^ length (keep unread w) = mul-le-mul_left k l in
        filled (b + k * c) (rw (t, pow-succ' k (length (keep unread w))) (omega (arith, small))) (rw (t, low, high, e))
    on (inr t) c l e = filled c (rw t l) (rw (t, e, same_letter a b (and_l _ _ h) t))

-- places that fit
pub fitting_in : (s w : List ℕ) {p : ℕ} → In p (fitting s w)
    → (p < shades s ^ marks s) × (laid_at s p ≡ true) × (agrees w (window (shades s) (marks s) p) ≡ true)
fitting_in s w {p} i =
    let (listed, passes) = keep_in (fits_at s w) (count_from (shades s ^ marks s) 0) i in
    let (_, below_end) = count_in (shades s ^ marks s) 0 listed in
    (omega (arith, below_end), and_l (laid_at s p) _ passes, and_r (laid_at s p) _ passes)

pub in_fitting : (s w : List ℕ) {p : ℕ} → p < shades s ^ marks s → laid_at s p ≡ true → agrees w (window (shades s) (marks s) p) ≡ true → In p (fitting s w)
in_fitting s w {p} h laid agree =
    in_keep (fits_at s w) (in_count (shades s ^ marks s) 0 p (omega arith) (omega arith)) (and_in laid agree)

-- the lowest
pub lowest_least : (s w : List ℕ) {p : ℕ} → In p (fitting s w) → lowest s w ≤ p
lowest_least s w i = count_least (fits_at s w) (shades s ^ marks s) 0 i

pub lowest_in : (s w : List ℕ) → length (fitting s w) ≢ 0 → In (lowest s w) (fitting s w)
lowest_in s w some = getD_in (fitting s w) 0 0 (omega (arith, some))

pub lowest_fits : (s w : List ℕ) → smudged_fault s w ≡ 0 → In (lowest s w) (fitting s w)
lowest_fits s w fine =
    let left = (first_none (smudge_fault (shades s) (marks s) w) _ (first_none (plan_fault s) _ fine).1).1 in
    lowest_in s w (eqb-false (length (fitting s w)) 0 (when-none _ 9 (λ z. omega arith) left))

-- on an accepted plan, by the words that agree, each at its place
module _ (s w : List ℕ) (good : plan_fault s ≡ 0) where
  range : (2 ≤ shades s) × (1 ≤ marks s)
  range = admitted_range (shades s) (marks s) (plan_good s good).1

  pub laid_fits : (v : List ℕ) → length v ≡ marks s → marks_ok (shades s) v ≡ true → agrees w v ≡ true → laid_at s (place_of (shades s) (marks s) v) ≡ true
      → In (place_of (shades s) (marks s) v) (fitting s w)
  laid_fits v long letters agree laid =
      let (inside, reads) = one_place.found (shades s) (marks s) v range.0 range.1 long letters in
      in_fitting s w inside laid (ap (agrees w) reads ∙ agree)

  -- a place that fits is that of the window there, a word of the strip
  own_place : {p : ℕ} → In p (fitting s w)
      → let v = window (shades s) (marks s) p in
      (place_of (shades s) (marks s) v ≡ p) × (length v ≡ marks s) × (marks_ok (shades s) v ≡ true)
  own_place {p} i = (
    one_place.only (shades s) (marks s) p _ range.0 range.1 (fitting_in s w i).0 refl,
    letters-length (shades s ^ marks s) (strip (shades s) (marks s)) p (marks s),
    strip-marks (shades s) (marks s) p (marks s) range.0 range.1,
  )

  -- where a place fits and not too much is erased, nothing is refused
  pub fits_fine : {p : ℕ} → In p (fitting s w) → length (keep unread w) ≤ 2 → smudged_fault s w ≡ 0
  fits_fine {p} i few =
      let (_, _, agree) = fitting_in s w i in
      let (_, long, letters) = own_place i in
      rw (good, eq-eqb (length w) (marks s) (agrees-length w _ agree ∙ long), le-ltb 2 _ few, agrees-marks (shades s) w _ agree letters, ne_eqb (length (fitting s w)) 0 (in_some i))

  -- no word that agrees is laid
  abbrev None : Type 0
  None = (v : List ℕ) → length v ≡ marks s → marks_ok (shades s) v ≡ true → agrees w v ≡ true → laid_at s (place_of (shades s) (marks s) v) ≡ false

  none_fits : None → fitting s w ≡ []
  none_fits none = no_members (fitting s w) (λ p i. fits_not i)
    where
      fits_not : {p : ℕ} → In p (fitting s w) → ⊥
      fits_not {p} i =
          let (_, laid, agree) = fitting_in s w i in
          let (place, long, letters) = own_place i in
          false≢true (sym (none _ long letters agree) ∙ ap (laid_at s) place ∙ laid)

  fits_none : fitting s w ≡ [] → None
  fits_none e v long letters agree = elim (test (laid_at s (place_of (shades s) (marks s) v))) [
    | inl laid ↦ absurd (in_nil (subst (In (place_of (shades s) (marks s) v)) e (laid_fits v long letters agree laid)))
    | inr t ↦ t
  ]

  -- so it is enough to try the fillings: what is not above the place of any that is laid is not above any place that fits
  pub least_filled : {b p : ℕ}
      → ((c : ℕ) → c < shades s ^ length (keep unread w) → let q = place_of (shades s) (marks s) (filling (shades s) c w) in laid_at s q ≡ true → b ≤ q)
      → In p (fitting s w) → b ≤ p
  least_filled {b} {p} least i =
      let (_, laid, agree) = fitting_in s w i in
      let (place, _, letters) = own_place i in
      elim (agrees-filled (shades s) w _ letters agree) [
        | filled c l e ↦
            let is : place_of (shades s) (marks s) (filling (shades s) c w) ≡ p = ap (place_of (shades s) (marks s)) e ∙ place in
            subst (λ q. b ≤ q) is (least c l (ap (laid_at s) is ∙ laid))
      ]

  -- 9, where the window has no fault of its own
  module _ (fine : smudge_fault (shades s) (marks s) w ≡ 0) where
    left : smudged_fault s w ≡ when (eqb (length (fitting s w)) 0) 9
    left = rw (good, fine)

    pub nowhere : (smudged_fault s w ≡ 9) ↔ None
    nowhere = (λ e. fits_none (nil_of (fitting s w) (eqb-true _ 0 (refused (test (eqb (length (fitting s w)) 0)) e))), λ none. left ∙ ap (λ ps. when (eqb (length ps) 0) 9) (none_fits none))
      where
        refused : (eqb (length (fitting s w)) 0 ≡ true) ⊎ (eqb (length (fitting s w)) 0 ≡ false) → smudged_fault s w ≡ 9 → eqb (length (fitting s w)) 0 ≡ true
        refused (inl t) e = t
        refused (inr t) e = let z : ◌≡◌ {A = ℕ} 0 9 = sym (left ∙ rw t) ∙ e in absurd (omega arith)

-- a window without fault of its own
pub smudge_fine : (k n : ℕ) (w : List ℕ) → smudge_fault k n w ≡ 0 → (length w ≡ n) × (length (keep unread w) ≤ 2) × (marks_ok k (keep read w) ≡ true)
smudge_fine k n w e =
    let (long, rest) = first_none (when (not (eqb (length w) n)) 2) _ e in
    let (few, letters) = first_none (when (ltb 2 (length (keep unread w))) 11) _ rest in (
      eqb-true (length w) n (not-false _ (when-none _ 2 (λ z. omega arith) long)),
      ltb-false 2 _ (when-none _ 11 (λ z. omega arith) few),
      not-false _ (when-none _ 3 (λ z. omega arith) letters),
    )

-- a window that was read in full
module _ (s w : List ℕ) (full : keep unread w ≡ []) where
  each_read : (a : ℕ) → In a w → unread a ≡ false
  each_read a i = elim (test (unread a)) [ inl t ↦ absurd (in_nil (subst (In a) full (in_keep unread i t))) | inr t ↦ t ]

  -- a place that fits is the window's own
  pub fitting_full : {p : ℕ} → plan_fault s ≡ 0 → In p (fitting s w) → p ≡ place_of (shades s) (marks s) w
  fitting_full {p} good i =
      let (inside, _, agree) = fitting_in s w i in
      let (two, one) = range s w good in
      sym (one_place.only (shades s) (marks s) p w two one inside (agrees-same w _ each_read agree))

  -- which fits just when the window is laid
  laid_full : plan_fault s ≡ 0 → word_fault (shades s) (marks s) w ≡ 0 → eqb (length (fitting s w)) 0 ≡ eqb (laying_of s w) 0
  laid_full good fine =
      let (long, letters) = word_fine (shades s) (marks s) w fine in
      same_test _ _
      (λ e. not-false _ (fits_none s w good (nil_of (fitting s w) (eqb-true _ 0 e)) w long letters (agrees_by w w refl (λ j l r. refl))))
      (λ e. eq-eqb _ 0 (ap length (none_fits s w good (λ v _ _ agree. ap (λ u. laid_at s (place_of (shades s) (marks s) u)) (agrees-same w v each_read agree) ∙ ap not e))))

  pub fault_full : smudged_fault s w ≡ lookup_fault s w
  fault_full =
      let word : smudge_fault (shades s) (marks s) w ≡ word_fault (shades s) (marks s) w = rw (full, keep_all read w (λ a i. ap not (each_read a i))) in
      ap (λ f. first_of (plan_fault s) (first_of f (when (eqb (length (fitting s w)) 0) 9))) word
      ∙ first_then (plan_fault s) (λ good. first_then (word_fault (shades s) (marks s) w) (λ fine. ap (λ t. when t 9) (laid_full good fine)))

pub smudged : Smudged
smudged = record {
  agrees_is = λ w v. (λ h. (agrees-length w v h, agrees_at w v h), λ h. agrees_by w v h.0 h.1);
  filling-agrees = λ k c w some h. (filling-marks k c w some h, filling-agrees k c w);
  agrees_filling = λ k w v m h. elim (agrees-filled k w v m h) [ filled c l e ↦ (c, l, e) ];
  fitting_is = λ s w p. (fitting_in s w, λ h. in_fitting s w h.0 h.1 h.2);
  lowest_fits = lowest_fits;
  lowest_least = λ s w p i. lowest_least s w i;
  nowhere = nowhere;
  in_full = λ s w full. (fault_full s w full, λ fine p i. fitting_full s w full (lookup_good s w fine).0 i);
}
