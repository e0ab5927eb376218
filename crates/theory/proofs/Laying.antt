-- Laying plans: a window read inside a section, or from it over a welded joint into the next, is found in that section, at its distance from the section's start.
-- The place of a window is the place that it was read from (OnePlace).
use mathlib.Core.Path.{◌≡◌, refl, sym, ◌∙◌, ap, ap₂, subst}
use mathlib.Core.Bool.{Bool, true, false, not, false≢true}
use mathlib.Core.List.{List, [], ◌∷◌}
use mathlib.Core.Logic.{◌⊎◌, inl, inr, ⊎_elim, ⊎_map}
use Prim.Native.Nat.{ℕ, zero, suc, ◌+◌, ◌-◌, ◌^◌, ◌≤◌, ◌<◌}
use native.Mathlib.Omega.{arith}
use native.Mathlib.Nat.{add-zero, add-suc, suc-add, zero-add}
use native.Mathlib.Decide.{ℕ_discrete}
use lib.Dec.{eqb, ltb, leb}
use lib.ListN.{length}
use borrow.Author.Tests.{leb-true, le-leb, ltb-true, lt-ltb, le-ltb, eq-eqb, ne_eqb, eqb-true, eqb-false, not-true, not-false}
use Rattle.theory.specs.Words.{first_of, when}
use Rattle.theory.specs.Strips.{admitted, strip, window, place_of}
use Rattle.theory.specs.Plans.{Section, end_of, shades, marks, word_fault, section_count, sections, torn, straight_from, plan_fault, welded, reach, holds_at, laying_from, nth_s, laying_at, laid_at, distance_at, laying_of, distance_of, lookup_fault}
use Rattle.theory.specs.Theorems.{Laid, LaidAcross, Across, Lies, LaidWhere, LaidEach, LaidOnly, LaidAt}
use Rattle.theory.proofs.Base.{less, equal, more, cmp, upto, over, split, test, and_l, and_r, and_in, and_false}
use Rattle.theory.proofs.Reading.{letters-length}
use Rattle.theory.proofs.Rings.{admitted_range, one_place, strip-marks}
use Rattle.theory.proofs.Faults.{first_none, when-none}
use Rattle.theory.proofs.Records.{Whole, whole, sections_count}

pub plan_good : (s : List ℕ) → plan_fault s ≡ 0
    → (torn s ≡ false) × (admitted (shades s) (marks s) ≡ true) × (straight_from (marks s) (shades s ^ marks s) 0 (sections s) ≡ true)
plan_good s h =
    let (a, b) = first_none (when (torn s) 7) _ h in
    let (c, d) = first_none (when (not (admitted (shades s) (marks s))) 1) _ b in
    (when-none (torn s) 7 (λ z. omega arith) a, not-false _ (when-none _ 1 (λ z. omega arith) c), not-false _ (when-none _ 8 (λ z. omega arith) d))

pub accepted_whole : (s : List ℕ) → plan_fault s ≡ 0 → Whole s
accepted_whole s h = whole s (plan_good s h).0

-- what holds of the first of straight sections
pub record Straight (n top end : ℕ) (x : Section) : Type 0 where
  pub starts : end ≤ x.offset
  pub wide : n ≤ x.long
  pub ends : end_of x ≤ top

straight_first : (n top end : ℕ) (x : Section) (xs : List Section) → straight_from n top end (x ∷ xs) ≡ true
    → Straight n top end x × (straight_from n top (end_of x) xs ≡ true)
straight_first n top end x xs h =
    let a = and_l (leb end x.offset) _ h in
    let b = and_r (leb end x.offset) _ h in
    let c = and_r (leb n x.long) _ b in
    (record { starts = leb-true _ _ a; wide = leb-true _ _ (and_l (leb n x.long) _ b); ends = leb-true _ _ (and_l (leb (end_of x) top) _ c) }, and_r (leb (end_of x) top) _ c)

straight_at : (n top end : ℕ) (xs : List Section) (i : ℕ) → straight_from n top end xs ≡ true → i < length xs → Straight n top end (nth_s xs i)
straight_at n top end [] i h b = absurd (omega arith)
straight_at n top end (x ∷ xs) zero h b = (straight_first n top end x xs h).0
straight_at n top end (x ∷ xs) (suc i) h b =
    let (f, g) = straight_first n top end x xs h in
    let r = straight_at n top (end_of x) xs i g (omega arith) in
    record { starts = omega arith; wide = r.wide; ends = r.ends }

-- each section ends before any later one begins, or where it begins
straight_apart : (n top end : ℕ) (xs : List Section) (i j : ℕ) → straight_from n top end xs ≡ true → i < j → j < length xs
    → end_of (nth_s xs i) ≤ (nth_s xs j).offset
straight_apart n top end [] i j h l b = absurd (omega arith)
straight_apart n top end (x ∷ xs) i zero h l b = absurd (omega arith)
straight_apart n top end (x ∷ xs) zero (suc j) h l b = (straight_at n top (end_of x) xs j (straight_first n top end x xs h).1 (omega arith)).starts
straight_apart n top end (x ∷ xs) (suc i) (suc j) h l b =
    straight_apart n top (end_of x) xs i j (straight_first n top end x xs h).1 (omega arith) (omega arith)

-- welded sections meet, on one rail
weld_meets : (x y : Section) → welded x y ≡ true → end_of x ≡ y.offset
weld_meets x y t = eqb-true _ _ (and_l (eqb (end_of x) y.offset) _ t)

weld_rail : (x y : Section) → welded x y ≡ true → x.rail ≡ y.rail
weld_rail x y t = eqb-true _ _ (and_r (eqb (end_of x) y.offset) _ t)

meets_weld : (x y : Section) → end_of x ≡ y.offset → x.rail ≡ y.rail → welded x y ≡ true
meets_weld x y meets rail = and_in (eq-eqb _ _ meets) (eq-eqb _ _ rail)

-- how far a section is read: to its own end, or over a welded joint
reach_to : (x : Section) (xs : List Section) (q : ℕ) → (q ≤ end_of x) ⊎ Across (x ∷ xs) 0 q → q ≤ reach x xs
reach_to x [] q (inl h) = h
reach_to x [] q (inr h) = absurd (omega (arith, h.0))
reach_to x (y ∷ xs) q h = elim (test (welded x y)) [ inl t ↦ rw (t, reach) (on t h) | inr t ↦ rw (t, reach) (own t h) ]
  where
    on : welded x y ≡ true → (q ≤ end_of x) ⊎ Across (x ∷ y ∷ xs) 0 q → q ≤ end_of y
    on t (inl g) = omega (arith, weld_meets x y t)
    on t (inr g) = g.2

    own : welded x y ≡ false → (q ≤ end_of x) ⊎ Across (x ∷ y ∷ xs) 0 q → q ≤ end_of x
    own t (inl g) = g
    own t (inr g) = absurd (false≢true (sym t ∙ g.1))

reach_how : (x : Section) (xs : List Section) (q : ℕ) → q ≤ reach x xs → (q ≤ end_of x) ⊎ Across (x ∷ xs) 0 q
reach_how x [] q h = inl h
reach_how x (y ∷ xs) q h = elim (test (welded x y)) [ inl t ↦ inr (omega arith, t, rw (t, reach) at h) | inr t ↦ inl (rw (t, reach) at h) ]

module _ {n p : ℕ} {x : Section} {xs : List Section} where
  -- lying in the first section is its test
  lies-holds : Lies n (x ∷ xs) 0 p → holds_at p n x xs ≡ true
  lies-holds l = and_in (le-leb _ _ l.starts) (and_in (lt-ltb _ _ l.begins) (le-leb _ _ (reach_to x xs (p + n) l.ends)))

  holds-lies : holds_at p n x xs ≡ true → Lies n (x ∷ xs) 0 p
  holds-lies t =
      let u = and_r (leb x.offset p) _ t in
      record {
        listed = omega arith;
        starts = leb-true _ _ (and_l (leb x.offset p) _ t);
        begins = ltb-true _ _ (and_l (ltb p (end_of x)) _ u);
        ends = reach_how x xs (p + n) (leb-true _ _ (and_r (ltb p (end_of x)) _ u));
      }

  -- lying in a later section is lying in one of the rest
  lies-rest : {i : ℕ} → Lies n (x ∷ xs) (suc i) p → Lies n xs i p
  lies-rest l = record { listed = omega (arith, l.listed); starts = l.starts; begins = l.begins; ends = ⊎_map (λ h. h) (λ (c, weld, on). (omega (arith, c), weld, on)) l.ends }

  rest-lies : {i : ℕ} → Lies n xs i p → Lies n (x ∷ xs) (suc i) p
  rest-lies l = record { listed = omega (arith, l.listed); starts = l.starts; begins = l.begins; ends = ⊎_map (λ h. h) (λ (c, weld, on). (omega (arith, c), weld, on)) l.ends }

-- sections do not overlap, so a window that lies in one begins behind those ahead of it
laying_at_lem : (n top end : ℕ) (xs : List Section) (i j p : ℕ) → straight_from n top end xs ≡ true → Lies n xs i p → laying_from j p n xs ≡ suc (j + i)
laying_at_lem n top end [] i j p h l = absurd (omega (arith, l.listed))
laying_at_lem n top end (x ∷ xs) zero j p h l = rw (lies-holds l, laying_from) (ap suc (sym (add-zero j)))
laying_at_lem n top end (x ∷ xs) (suc i) j p h l =
    let tail = (straight_first n top end x xs h).1 in
    let on = lies-rest l in
    let r = straight_at n top (end_of x) xs i tail on.listed in
    let t : holds_at p n x xs ≡ false = and_false (leb x.offset p) _ (rw (le-ltb p (end_of x) (omega (arith, r.starts, on.starts)))) in
    rw (t, laying_from) (laying_at_lem n top (end_of x) xs i (suc j) p tail on ∙ ap suc (suc-add j i ∙ sym (add-suc j i)))

-- and the section that is answered is one where it lies
record Found (j p n : ℕ) (xs : List Section) : Type 0 where
  index : ℕ
  is : laying_from j p n xs ≡ suc (j + index)
  lies : Lies n xs index p

laying_found : (j p n : ℕ) (xs : List Section) → ¬ (laying_from j p n xs ≡ 0) → Found j p n xs
laying_found j p n [] h = absurd (h refl)
laying_found j p n (x ∷ xs) h = elim (test (holds_at p n x xs)) [ inl t ↦ first t | inr t ↦ later t (laying_found (suc j) p n xs (λ e. h (rw (t, laying_from) e))) ]
  where
    first : holds_at p n x xs ≡ true → Found j p n (x ∷ xs)
    first t = record { index = 0; is = rw (t, laying_from) (ap suc (sym (add-zero j))); lies = holds-lies t }

    later : holds_at p n x xs ≡ false → Found (suc j) p n xs → Found j p n (x ∷ xs)
    later t f =
        let on : laying_from j p n (x ∷ xs) ≡ laying_from (suc j) p n xs = rw (t, laying_from) refl in
        record { index = suc f.index; is = on ∙ f.is ∙ ap suc (suc-add j f.index ∙ sym (add-suc j f.index)); lies = rest-lies f.lies }

-- the sections of an accepted plan, and where a window lies in them
module _ (s : List ℕ) (good : plan_fault s ≡ 0) where
  abbrev x : ℕ → Section
  x i = nth_s (sections s) i

  range : (2 ≤ shades s) × (1 ≤ marks s)
  range = admitted_range (shades s) (marks s) (plan_good s good).1

  pub section_straight : (i : ℕ) → i < length (sections s) → Straight (marks s) (shades s ^ marks s) 0 (x i)
  section_straight i h = straight_at (marks s) (shades s ^ marks s) 0 (sections s) i (plan_good s good).2 h

  pub section_apart : (i j : ℕ) → i < j → j < length (sections s) → end_of (x i) ≤ (x j).offset
  section_apart i j h c = straight_apart (marks s) (shades s ^ marks s) 0 (sections s) i j (plan_good s good).2 h c

  -- n letters lie in the section that holds the first, if it holds the last; over a welded joint always, since the next section is no shorter
  module _ {i p : ℕ} (starts : (x i).offset ≤ p) where
    pub lies_inside : i < length (sections s) → p + marks s ≤ end_of (x i) → Lies (marks s) (sections s) i p
    lies_inside h ends = record { listed = h; starts = starts; begins = omega (arith, range.1); ends = inl ends }

    pub lies_across : suc i < length (sections s) → welded (x i) (x (suc i)) ≡ true → p < end_of (x i) → Lies (marks s) (sections s) i p
    lies_across h weld begins =
        let wide = (section_straight (suc i) h).wide in
        let meets = weld_meets (x i) (x (suc i)) weld in
        record { listed = omega arith; starts = starts; begins = begins; ends = inr (h, weld, omega arith) }

  pub lies_laying : {i p : ℕ} → Lies (marks s) (sections s) i p → laying_at s p ≡ suc i
  lies_laying {i} {p} l = laying_at_lem (marks s) (shades s ^ marks s) 0 (sections s) i 0 p (plan_good s good).2 l ∙ ap suc (zero-add i)

  laying_lies : {i p : ℕ} → laying_at s p ≡ suc i → Lies (marks s) (sections s) i p
  laying_lies {i} {p} e =
      let f = laying_found 0 p (marks s) (sections s) (λ z. omega (arith, e, z)) in
      subst (λ j. Lies (marks s) (sections s) j p) (omega (arith, e, f.is)) f.lies

  -- a window that lies in a section is read there and nowhere else, so it is the one that is looked up
  lies_place : {i p : ℕ} → Lies (marks s) (sections s) i p → place_of (shades s) (marks s) (window (shades s) (marks s) p) ≡ p
  lies_place {i} {p} l =
      one_place.only (shades s) (marks s) p (window (shades s) (marks s) p) range.0 range.1 (omega (arith, l.begins, (section_straight i l.listed).ends)) refl

  pub lies_looked : {i p : ℕ} → Lies (marks s) (sections s) i p → laying_of s (window (shades s) (marks s) p) ≡ suc i
  lies_looked l = ap (laying_at s) (lies_place l) ∙ lies_laying l

  -- at distance d in section i
  module _ (i d : ℕ) (lies : Lies (marks s) (sections s) i ((x i).offset + d)) where
    abbrev w : List ℕ
    w = window (shades s) (marks s) ((x i).offset + d)

    distance : distance_of s w ≡ d
    distance =
        let e : laying_of s w - 1 ≡ i = omega (arith, lies_looked lies) in
        ap₂ (λ a j. a - (x j).offset) (lies_place lies) e ∙ omega arith

    no_fault : lookup_fault s w ≡ 0
    no_fault =
        let long = letters-length (shades s ^ marks s) (strip (shades s) (marks s)) ((x i).offset + d) (marks s) in
        let ok = strip-marks (shades s) (marks s) ((x i).offset + d) (marks s) range.0 range.1 in
        none _ _ _ _ good (eq-eqb _ _ long) ok (ne_eqb (laying_of s w) 0 (λ z. omega (arith, z, lies_looked lies)))
      where
        none : (a : ℕ) (b c e : Bool) → a ≡ 0 → b ≡ true → c ≡ true → e ≡ false
            → first_of a (first_of (first_of (when (not b) 2) (when (not c) 3)) (when e 9)) ≡ 0
        none a b c e x y z t = rw (x, y, z, t)

    in_section : (lookup_fault s w ≡ 0) × (laying_of s w ≡ suc i) × (distance_of s w ≡ d)
    in_section = (no_fault, lies_looked lies, distance)

  -- letter by letter: a section on rail r that the place q is in
  abbrev Held : ℕ → ℕ → Type 0
  Held r q = (i : ℕ) × (i < section_count s) × ((x i).offset ≤ q) × (q < end_of (x i)) × ((x i).rail ≡ r)

  -- a window that lies in section i: each of its letters stands there, or in the next section, which meets it on the same rail
  lies-each : {i p : ℕ} → Lies (marks s) (sections s) i p → (q : ℕ) → p ≤ q → q < p + marks s → Held (x i).rail q
  lies-each {i} {p} l q from to =
      elim (split (end_of (x i)) q) [
        | over h ↦ (i, omega (arith, l.listed, sections_count s), omega (arith, l.starts), h, refl)
        | upto h ↦ ⊎_elim (λ e. absurd (omega arith)) (behind h) l.ends
      ]
    where
      behind : end_of (x i) ≤ q → Across (sections s) i (p + marks s) → Held (x i).rail q
      behind h (c, weld, on) =
          (suc i, omega (arith, sections_count s), omega (arith, weld_meets (x i) (x (suc i)) weld), omega arith, sym (weld_rail (x i) (x (suc i)) weld))

  -- the section that the place behind section i is in can only be the next, since a section between the two has a letter
  next_holds : (i j : ℕ) → i < length (sections s) → j < length (sections s) → (x j).offset ≤ end_of (x i) → end_of (x i) < end_of (x j) → j ≡ suc i
  next_holds i j b c from to =
      elim (cmp j i) [
        | less h ↦ absurd (omega (arith, section_apart j i h b))
        | equal h ↦ absurd (omega (arith, ap (λ m. end_of (x m)) h))
        | more h ↦ elim (cmp j (suc i)) [ less g ↦ absurd (omega arith) | equal g ↦ g | more g ↦ absurd (between g) ]
      ]
    where
      between : suc i < j → ⊥
      between g =
          omega (arith, range.1, section_apart i (suc i) (omega arith) (omega arith), (section_straight (suc i) (omega arith)).wide, section_apart (suc i) j g c)

  -- so if each letter stands in a section on rail r, the section of the first has the last too, or is welded to the next one
  each-lies : (r p : ℕ) → ((q : ℕ) → p ≤ q → q < p + marks s → Held r q) → (i : ℕ) × Lies (marks s) (sections s) i p
  each-lies r p each = let (i, b, starts, begins, rail) = each p (omega arith) (omega (arith, range.1)) in (i, from i (omega (arith, sections_count s)) starts begins rail)
    where
      from : (i : ℕ) → i < length (sections s) → (x i).offset ≤ p → p < end_of (x i) → (x i).rail ≡ r → Lies (marks s) (sections s) i p
      from i b starts begins rail = elim (split (p + marks s) (end_of (x i))) [ upto h ↦ lies_inside starts b h | over h ↦ on (each (end_of (x i)) (omega arith) h) ]
        where
          on : Held r (end_of (x i)) → Lies (marks s) (sections s) i p
          on (j, c, early, late, same) =
              let listed : j < length (sections s) = omega (arith, sections_count s) in
              let is = next_holds i j b listed early late in
              let meets : end_of (x i) ≡ (x (suc i)).offset = omega (arith, ap (λ m. (x m).offset) is, section_apart i j (omega (arith, is)) listed) in
              let one_rail : (x i).rail ≡ (x (suc i)).rail = rail ∙ sym same ∙ ap (λ m. (x m).rail) is in
              lies_across starts (omega (arith, is, listed)) (meets_weld (x i) (x (suc i)) meets one_rail) begins

pub laid_where : LaidWhere
laid_where s i p good = (laying_lies s good, lies_laying s good)

pub laid : Laid
laid s i d good b h = in_section s good i d (lies_inside s good (omega arith) (omega (arith, sections_count s)) (omega arith))

pub laid_across : LaidAcross
laid_across s i d good b weld h = in_section s good i d (lies_across s good (omega arith) (omega (arith, sections_count s)) weld (omega arith))

-- where no section has the window, it is laid in none
pub unlaid : (s : List ℕ) (p : ℕ) → ((i : ℕ) → ¬ Lies (marks s) (sections s) i p) → laying_at s p ≡ 0
unlaid s p none = elim (ℕ_discrete (laying_at s p) 0) [ yes z ↦ z | no z ↦ let f = laying_found 0 p (marks s) (sections s) z in absurd (none f.index f.lies) ]

-- no fault, so the plan and the word have none, and a section was found
pub lookup_good : (s w : List ℕ) → lookup_fault s w ≡ 0 → (plan_fault s ≡ 0) × (word_fault (shades s) (marks s) w ≡ 0) × (when (eqb (laying_of s w) 0) 9 ≡ 0)
lookup_good s w h =
    let (good, rest) = first_none (plan_fault s) _ h in
    let (word, looked) = first_none (word_fault (shades s) (marks s) w) _ rest in
    (good, word, looked)

-- laid, so in some section; and the other way round
pub laid_some : (s : List ℕ) (p : ℕ) → laid_at s p ≡ true → ¬ (laying_at s p ≡ 0)
laid_some s p laid = eqb-false (laying_at s p) 0 (not-true _ laid)

pub some_laid : (s : List ℕ) (p : ℕ) → ¬ (laying_at s p ≡ 0) → laid_at s p ≡ true
some_laid s p some = ap not (ne_eqb (laying_at s p) 0 some)

pub none_laid : (s : List ℕ) (p : ℕ) → laying_at s p ≡ 0 → laid_at s p ≡ false
none_laid s p none = ap not (eq-eqb (laying_at s p) 0 none)

-- the section that a laid window is answered with
lies_there : (s : List ℕ) (p : ℕ) → plan_fault s ≡ 0 → ¬ (laying_at s p ≡ 0) → Lies (marks s) (sections s) (laying_at s p - 1) p
lies_there s p good some = laying_lies s good (omega (arith, some))

pub laid_only : LaidOnly
laid_only s w h =
    let (good, _, looked) = lookup_good s w h in
    let l = lies_there s (place_of (shades s) (marks s) w) good (eqb-false (laying_of s w) 0 (when-none (eqb (laying_of s w) 0) 9 (λ z. omega arith) looked)) in
    (omega (arith, l.listed, sections_count s), omega (arith, l.starts), l)

-- both sections end by the strip's end
pub laid_at_lem : LaidAt
laid_at_lem s p good laid =
    let l = lies_there s p good (laid_some s p laid) in
    let i = laying_at s p - 1 in
    let ends : p + marks s ≤ shades s ^ marks s =
    ⊎_elim (λ h. omega (arith, h, (section_straight s good i l.listed).ends)) (λ h. omega (arith, h.2, (section_straight s good (suc i) h.0).ends)) l.ends in
    (omega (arith, l.listed, sections_count s), omega (arith, l.starts), ends)

-- the window at a place that is laid has no fault
pub laid_window : (s : List ℕ) (p : ℕ) → plan_fault s ≡ 0 → laid_at s p ≡ true → lookup_fault s (window (shades s) (marks s) p) ≡ 0
laid_window s p good laid =
    let i = laying_at s p - 1 in
    let (_, e, _) = laid_at_lem s p good laid in
    let lies = subst (Lies (marks s) (sections s) i) (sym e) (lies_there s p good (laid_some s p laid)) in
    subst (λ q. lookup_fault s (window (shades s) (marks s) q) ≡ 0) e (in_section s good i (distance_at s p) lies).0

pub laid_each : LaidEach
laid_each s p good =
    (λ laid. (_, lies-each s good (lies_there s p good (laid_some s p laid))), λ (r, each). some_laid s p (λ z. let l = (each-lies s good r p each).1 in omega (arith, z, lies_laying s good l)))
