-- Single substitutions: which are tried, in what order, and how many they are; what a word so changed is; which are listed.
use mathlib.Core.Path.{◌≡◌, refl, sym, ◌∙◌, ap, ap₂, subst, subst₂}
use mathlib.Core.Bool.{Bool, true, ◌&&◌}
use mathlib.Core.List.{List, [], ◌∷◌}
use mathlib.Core.Logic.{◌⊎◌, inl, inr, ⊎_elim, ◌≢◌}
use Prim.Native.Nat.{ℕ, zero, suc, ◌+◌, ◌-◌, ◌*◌, ◌≤◌, ◌<◌}
use native.Mathlib.Omega.{arith}
use native.Mathlib.Decide.{ℕ_discrete}
use native.Mathlib.Numerals.{add-one}
use lib.Dec.{ltb, leb}
use lib.ListN.{length, get_or, length-append, length-set}
use lib.Seq.{get_or-set_same, get_or-set_other, ext_get_or}
use borrow.Author.Tests.{ltb-true, lt-ltb, le-ltb, leb-true, le-leb, lt-leb}
use Rattle.theory.specs.Words.{pick, keep, marks_ok}
use Rattle.theory.specs.Lists.{In, Ascending, each, gather, count_from}
use Rattle.theory.specs.Strips.{admitted}
use Rattle.theory.specs.Plans.{shades, entry_size, laid_at}
use Rattle.theory.specs.Substitutions.{Change, change, changed, changes_down, changes_up, changes_at, changes_for, changes, new_place, misread, key_of}
use Rattle.theory.specs.Theorems.{Misread}
use Rattle.theory.proofs.Base.{test, and_l, and_r, and_in, less, equal, more, cmp, upto, over, split}
use Rattle.theory.proofs.Order.{Lt, now, later}
use Rattle.theory.proofs.Lists.{in_nil, in_append_left, in_append_right, in_append_cases, pick_in, in_pick, keep_in, in_keep, gathered, gather_in, in_gather, gather_next, count_in, in_count, count_length, key_append, key_one, key_keep, key_count}
use Rattle.theory.proofs.Counts.{sum, sum_ext, sum_const, sum_swap, gather-length, keep-length}
use Rattle.theory.proofs.Letters.{marks_getD}

-- letter j of a word, changed by d
module _ (k : ℕ) (w : List ℕ) (d j : ℕ) where
  abbrev a : ℕ
  a = get_or w j 0

  down_in : {c : Change} → In c (changes_down d j a) → (c.mark ≡ j) × (c.shade + d ≡ a)
  down_in i =
      let (t, e) = pick_in (leb d a) i in
      (ap (λ x. x.mark) e, omega (arith, leb-true d a t, ap (λ x. x.shade) e))

  up_in : {c : Change} → In c (changes_up k d j a) → (c.mark ≡ j) × (c.shade ≡ a + d) × (a + d < k)
  up_in i =
      let (t, e) = pick_in (ltb (a + d) k) i in
      (ap (λ x. x.mark) e, ap (λ x. x.shade) e, ltb-true (a + d) k t)

  -- where it leads, and by what it is ordered
  at_in : {c : Change} → In c (changes_at k w d j) → (c.mark ≡ j) × ((c.shade + d ≡ a) ⊎ ((c.shade ≡ a + d) × (a + d < k)))
  at_in i = elim (in_append_cases (changes_down d j a) i) [
    | inl l ↦ let (m, s) = down_in l in (m, inl s)
    | inr l ↦ let (m, s, h) = up_in l in (m, inr (s, h))
  ]

  key_at : {c : Change} → In c (changes_at k w d j) → key_of w c ≡ d ∷ j ∷ c.shade ∷ []
  key_at {c} i =
      let (m, s) = at_in i in
      let at : get_or w c.mark 0 ≡ a = ap (λ x. get_or w x 0) m in
      let by : (get_or w c.mark 0 - c.shade) + (c.shade - get_or w c.mark 0) ≡ d = ⊎_elim (λ h. omega (arith, at, h)) (λ h. omega (arith, at, h.0)) s in
      ap₂ (λ x y. x ∷ y ∷ c.shade ∷ []) by m

  key_two : 1 ≤ d → Ascending (each (key_of w) (changes_at k w d j))
  key_two some = key_append (key_of w) (changes_down d j a) (changes_up k d j a) (key_one (key_of w) (leb d a) _) (key_one (key_of w) (ltb (a + d) k) _) between
    where
      between : (x y : Change) → In x (changes_down d j a) → In y (changes_up k d j a) → Lt (key_of w x) (key_of w y)
      between x y p q =
          let lower : x.shade < y.shade = omega (arith, (down_in p).1, (up_in q).1) in
          subst₂ Lt (sym (key_at (in_append_left (changes_up k d j a) p))) (sym (key_at (in_append_right (changes_down d j a) q))) (later (later (now lower)))

  in_at : {s : ℕ} → s < k → (s + d ≡ a) ⊎ (s ≡ a + d) → In (change j s) (changes_at k w d j)
  in_at {s} h (inl e) =
      in_append_left (changes_up k d j a) (subst (λ x. In (change j x) (changes_down d j a)) (omega arith) (in_pick (le-leb d a (omega arith))))
  in_at {s} h (inr e) =
      in_append_right (changes_down d j a) (subst (λ x. In (change j x) (changes_up k d j a)) (sym e) (in_pick (lt-ltb (a + d) k (omega arith))))

-- each letter of a word, changed by d
module _ (k : ℕ) (w : List ℕ) (d : ℕ) where
  for_in : {c : Change} → In c (changes_for k w d) → (c.mark < length w) × In c (changes_at k w d c.mark)
  for_in {c} i = elim (gather_in (changes_at k w d) (count_from (length w) 0) i) [
    | gathered j l m ↦
        let e : c.mark ≡ j = (at_in k w d j m).0 in
        (omega (arith, e, (count_in (length w) 0 l).1), subst (λ x. In c (changes_at k w d x)) (sym e) m)
  ]

  key_for : 1 ≤ d → Ascending (each (key_of w) (changes_for k w d))
  key_for some = key_count (key_of w) (changes_at k w d) (length w) 0 (λ j _. key_two k w d j some) (λ i j x y l p q. subst₂ Lt (sym (key_at k w d i p)) (sym (key_at k w d j q)) (later (now l)))

-- the changes that are tried
module _ (k : ℕ) (w : List ℕ) where
  key_changes : Ascending (each (key_of w) (changes k w))
  key_changes = key_count (key_of w) (changes_for k w) (k - 1) 1 (key_for k w) (λ d e x y l p q. subst₂ Lt (sym (key_at k w d _ (for_in k w d p).1)) (sym (key_at k w e _ (for_in k w e q).1)) (now l))

  module _ (ok : marks_ok k w ≡ true) where
    changes_in : {c : Change} → In c (changes k w) → (c.mark < length w) × (c.shade < k) × (c.shade ≢ get_or w c.mark 0)
    changes_in {c} i = elim (gather_in (changes_for k w) (count_from (k - 1) 1) i) [ gathered d l m ↦ by d (count_in (k - 1) 1 l).0 (for_in k w d m) ]
      where
        by : (d : ℕ) → 1 ≤ d → (c.mark < length w) × In c (changes_at k w d c.mark) → (c.mark < length w) × (c.shade < k) × (c.shade ≢ get_or w c.mark 0)
        by d some (inside, m) =
            let (_, s) = at_in k w d c.mark m in
            let small = marks_getD k w c.mark inside ok in
            (inside, ⊎_elim (λ h. omega (arith, h, small)) (λ h. omega (arith, h.0, h.1)) s, λ e. ⊎_elim (λ h. omega (arith, h, e)) (λ h. omega (arith, h.0, e)) s)

    in_changes : (c : Change) → c.mark < length w → c.shade < k → c.shade ≢ get_or w c.mark 0 → In c (changes k w)
    in_changes c inside h other = elim (cmp c.shade (get_or w c.mark 0)) [
      | less l ↦ by (get_or w c.mark 0 - c.shade) (omega arith) (omega (arith, marks_getD k w c.mark inside ok)) (inl (omega arith))
      | equal e ↦ absurd (other e)
      | more l ↦ by (c.shade - get_or w c.mark 0) (omega arith) (omega arith) (inr (omega arith))
    ]
      where
        by : (d : ℕ) → 1 ≤ d → d < k → (c.shade + d ≡ get_or w c.mark 0) ⊎ (c.shade ≡ get_or w c.mark 0 + d) → In c (changes k w)
        by d some l e =
            in_gather (changes_for k w) (in_count (k - 1) 1 d some (omega arith)) (in_gather (changes_at k w d) (in_count (length w) 0 c.mark (omega arith) (omega arith)) (in_at k w d c.mark h e))

-- how many numbers from 1 to l are up to x, and one more of them
abbrev up_to_of : ℕ → ℕ → ℕ
up_to_of x l = x - (x - l)

abbrev one : ℕ → ℕ → ℕ
one x d = pick (leb d x) 1 0

one_more : (x l : ℕ) → up_to_of x l + one x (1 + l) ≡ up_to_of x (suc l)
one_more x l = elim (split (1 + l) x) [ upto h ↦ rw (le-leb (1 + l) x h) (omega arith) | over h ↦ rw (lt-leb (1 + l) x h) (omega arith) ]

-- a letter a has a lower one for each d up to a, and a higher one for each d up to k − 1 − a
down_many : (d j a : ℕ) → length (changes_down d j a) ≡ one a d
down_many d j a = elim (test (leb d a)) [ inl t ↦ rw t | inr t ↦ rw t ]

up_many : (k d j a : ℕ) → 1 ≤ d → length (changes_up k d j a) ≡ one (k - 1 - a) d
up_many k d j a some = elim (split k (a + d)) [
  | upto h ↦ rw (le-ltb (a + d) k h, lt-leb d (k - 1 - a) (omega arith))
  | over h ↦ rw (lt-ltb (a + d) k h, le-leb d (k - 1 - a) (omega arith))
]

two_sums : (p q r s : ℕ) → (p + q) + (r + s) ≡ (p + r) + (q + s)
two_sums p q r s = omega arith

-- the changes of one letter, by 1 to l, and of all
module _ (k : ℕ) (w : List ℕ) where
  abbrev by_letter : ℕ → ℕ → List Change
  by_letter j d = changes_at k w d j

  many_at : (j l : ℕ) → let a = get_or w j 0 in length (gather (by_letter j) (count_from l 1)) ≡ up_to_of a l + up_to_of (k - 1 - a) l
  many_at j zero = omega arith
  many_at j (suc l) =
      let f = by_letter j in
      let a = get_or w j 0 in
      let next : length (gather f (count_from (suc l) 1)) ≡ length (gather f (count_from l 1)) + length (f (1 + l)) =
      ap (λ x. length (gather f (count_from x 1))) (sym (add-one l)) ∙ ap length (gather_next f l 1) ∙ length-append (gather f (count_from l 1)) (f (1 + l)) in
      let both : length (f (1 + l)) ≡ one a (1 + l) + one (k - 1 - a) (1 + l) =
      length-append (changes_down (1 + l) j a) (changes_up k (1 + l) j a) ∙ ap₂ ◌+◌ (down_many (1 + l) j a) (up_many k (1 + l) j a (omega arith)) in
      next ∙ ap₂ ◌+◌ (many_at j l) both ∙ two_sums (up_to_of a l) (up_to_of (k - 1 - a) l) _ _ ∙ ap₂ ◌+◌ (one_more a l) (one_more (k - 1 - a) l)

  pub changes_many : marks_ok k w ≡ true → length (changes k w) ≡ length w * (k - 1)
  changes_many ok =
      let ds = count_from (k - 1) 1 in
      let js = count_from (length w) 0 in
      gather-length (changes_for k w) ds
      ∙ sum_ext (λ d. length (changes_for k w d)) (λ d. sum (λ j. length (changes_at k w d j)) js) ds (λ d _. gather-length (changes_at k w d) js)
      ∙ sum_swap (λ d j. length (changes_at k w d j)) ds js
      ∙ sum_ext (λ j. sum (λ d. length (changes_at k w d j)) ds) (λ j. k - 1) js each_letter
      ∙ sum_const (k - 1) js
      ∙ ap (λ x. x * (k - 1)) (count_length (length w) 0)
    where
      each_letter : (j : ℕ) → In j (count_from (length w) 0) → sum (λ d. length (changes_at k w d j)) (count_from (k - 1) 1) ≡ k - 1
      each_letter j i =
          let small = marks_getD k w j (omega (arith, (count_in (length w) 0 i).1)) ok in
          sym (gather-length (by_letter j) (count_from (k - 1) 1)) ∙ many_at j (k - 1) ∙ omega arith

-- a word so changed
module _ (w : List ℕ) (c : Change) (inside : c.mark < length w) where
  changed_at : get_or (changed c w) c.mark 0 ≡ c.shade
  changed_at = get_or-set_same w c.mark c.shade 0 inside

  changed_other : (j : ℕ) → j ≢ c.mark → get_or (changed c w) j 0 ≡ get_or w j 0
  changed_other j h = get_or-set_other w c.mark j c.shade 0 h

  changed_by : (v : List ℕ) → length v ≡ length w → get_or v c.mark 0 ≡ c.shade → ((j : ℕ) → j ≢ c.mark → get_or v j 0 ≡ get_or w j 0) → changed c w ≡ v
  changed_by v long at others = ext_get_or 0 (changed c w) v (length-set w c.mark c.shade ∙ sym long) (λ j _. each-one j (ℕ_discrete j c.mark))
    where
      each-one : (j : ℕ) → Dec (j ≡ c.mark) → get_or (changed c w) j 0 ≡ get_or v j 0
      each-one j (yes e) = rw e (changed_at ∙ sym at)
      each-one j (no h) = changed_other j h ∙ sym (others j h)

  -- two changes that give the same word
  apart : (d : Change) → d.mark < length w → c.shade ≢ get_or w c.mark 0 → changed c w ≡ changed d w → c ≡ d
  apart d h other e = elim (ℕ_discrete c.mark d.mark) [
    | yes m ↦ ap₂ change m (sym changed_at ∙ ap (λ v. get_or v c.mark 0) e ∙ ap (λ x. get_or (changed d w) x 0) m ∙ get_or-set_same w d.mark d.shade 0 h)
    | no m ↦ absurd (other (sym changed_at ∙ ap (λ v. get_or v c.mark 0) e ∙ get_or-set_other w d.mark c.mark d.shade 0 m))
  ]

pub changed-length : (w : List ℕ) (c : Change) → length (changed c w) ≡ length w
changed-length w c = length-set w c.mark c.shade

-- those that are listed
module _ (s w : List ℕ) where
  abbrev lies : Change → Bool
  lies c = laid_at s (new_place s w c)

  pub ordered : Ascending (each (key_of w) (misread s w))
  ordered = key_keep (key_of w) _ (changes (shades s) w) (key_changes (shades s) w)

  module _ (ok : marks_ok (shades s) w ≡ true) where
    pub misread_in : {c : Change} → In c (misread s w) → (c.mark < length w) × (c.shade < shades s) × (c.shade ≢ get_or w c.mark 0) × (laid_at s (new_place s w c) ≡ true)
    misread_in i =
        let (tried, laid) = keep_in lies (changes (shades s) w) i in
        let (inside, small, other) = changes_in (shades s) w ok tried in
        (inside, small, other, laid)

    pub in_misread : (c : Change) → c.mark < length w → c.shade < shades s → c.shade ≢ get_or w c.mark 0 → laid_at s (new_place s w c) ≡ true → In c (misread s w)
    in_misread c inside small other laid = in_keep lies (in_changes (shades s) w ok c inside small other) laid

    pub few : length (misread s w) ≤ length w * (shades s - 1)
    few = omega (arith, keep-length lies (changes (shades s) w), changes_many (shades s) w ok)

-- the most changes that a strip has, by one computed test of all that are admitted
abbrev too_many : ℕ → ℕ → Bool
too_many k n = admitted k n && ltb 385 (n * (k - 1))

none-too_many : gather (λ k. keep (too_many k) (count_from 61 0)) (count_from 37 0) ≡ []
none-too_many = refl

pub most : (k n : ℕ) → admitted k n ≡ true → n * (k - 1) ≤ 385
most k n a = elim (split (n * (k - 1)) 385) [ upto h ↦ h | over h ↦ absurd (in_nil (subst (In n) none-too_many (counted h))) ]
  where
    counted : 385 < n * (k - 1) → In n (gather (λ k. keep (too_many k) (count_from 61 0)) (count_from 37 0))
    counted h =
        let b = and_r (leb 2 k) _ a in
        let c = and_r (leb 1 n) _ (and_r (leb k 36) _ b) in
        let few_letters = leb-true k 36 (and_l _ _ b) in
        let short = leb-true n 60 (and_l _ _ c) in
        in_gather (λ k. keep (too_many k) (count_from 61 0)) (in_count 37 0 k (omega arith) (omega arith)) (in_keep (too_many k) (in_count 61 0 n (omega arith) (omega arith)) (and_in a (lt-ltb 385 (n * (k - 1)) h)))

pub misread_laws : Misread
unfolding entry_size
misread_laws = record {
  changed_is = λ w v c h. (
    λ e. (ap length (sym e) ∙ changed-length w c, ap (λ u. get_or u c.mark 0) (sym e) ∙ changed_at w c h, λ j n. ap (λ u. get_or u j 0) (sym e) ∙ changed_other w c h j n),
    λ (long, at, others). changed_by w c h v long at others,
  );
  changes_are = λ k w c ok. (changes_in k w ok, λ (inside, small, other). in_changes k w ok c inside small other);
  changes_many = changes_many;
  apart = λ w c d h l f e. apart w c h d l f e;
  misread_are = λ s w c ok. (misread_in s w ok, λ (inside, small, other, laid). in_misread s w ok c inside small other laid);
  ordered = ordered;
  few = few;
  most = most;
  example = refl;
}
