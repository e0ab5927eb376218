-- Records of a plan, old with entries of 16 bytes and new with 18: what the total tells, where each section stands, and what does not depend on the record.
use mathlib.Core.Path.{◌≡◌, refl, sym, ◌∙◌, ap, ap₂}
use mathlib.Core.Bool.{Bool, true, false, ◌||◌, not, true≢false}
use mathlib.Core.List.{List, [], ◌∷◌}
use mathlib.Core.Logic.{◌⊎◌, inl, inr, ⊎_map, ◌≢◌}
use Prim.Native.Nat.{ℕ, zero, suc, ◌+◌, ◌-◌, ◌*◌, ◌^◌, ◌≤◌, ◌<◌}
use native.Mathlib.Omega.{arith}
use native.Mathlib.Numerals.{add-one}
use lib.Dec.{eqb, ltb}
use lib.ListN.{length, take, drop}
use lib.Seq.{drop-cons, drop-drop}
use borrow.Author.Tests.{ltb-false, le-ltb, eq-eqb, ne_eqb, eqb-true, eqb-false, not-false}
use Rattle.theory.specs.Words.{pick}
use Rattle.theory.specs.Plans.{Section, be_from, be, shades, marks, section_count, fits_entries, entry_size, entry_of, sections_from, sections, torn, torn_before, straight_from, plan_fault, no_section, nth_s, rail_of}
use Rattle.theory.specs.Theorems.{Alike, Records}
use Rattle.theory.proofs.Base.{test, and_true, or_false, or_right, or_cases}

-- which of the two: by the total alone
pub data Size (s : List ℕ) : Type 0 where
  old : length s ≡ 4 + 16 * section_count s → entry_size s ≡ 16 → Size s
  new : length s ≢ 4 + 16 * section_count s → entry_size s ≡ 18 → Size s

pub size_of_lem : (s : List ℕ) → Size s
unfolding entry_size
size_of_lem s = elim (test (fits_entries 16 s)) [ inl t ↦ old (eqb-true _ _ t) (rw t) | inr t ↦ new (eqb-false _ _ t) (rw t) ]

-- the three tests of either rule for 7
tests : (s : List ℕ) (total : Bool) → (ltb (length s) 4 || (ltb 500 (section_count s) || not total)) ≡ false
    → (ltb (length s) 4 ≡ false) × (ltb 500 (section_count s) ≡ false) × (total ≡ true)
tests s total h =
    let (head, rest) = or_false (ltb (length s) 4) _ h in
    let (few, fits) = or_false (ltb 500 (section_count s)) _ rest in
    (head, few, not-false total fits)

-- a plan that is not torn: the total is that of one of the records, so that of its entries
whole-total : (s : List ℕ) → torn s ≡ false → (section_count s ≤ 500) × ((length s ≡ 4 + 16 * section_count s) ⊎ (length s ≡ 4 + 18 * section_count s))
whole-total s h =
    let (_, few, total) = tests s (fits_entries 16 s || fits_entries 18 s) h in
    (ltb-false 500 (section_count s) few, ⊎_map (eqb-true _ _) (eqb-true _ _) (or_cases _ _ total))

pub record Whole (s : List ℕ) : Type 0 where
  pub few : section_count s ≤ 500
  pub long : length s ≡ 4 + entry_size s * section_count s

pub whole : (s : List ℕ) → torn s ≡ false → Whole s
whole s h = let (few, total) = whole-total s h in record { few = few; long = by_size total (size_of_lem s) }
  where
    by_size : (length s ≡ 4 + 16 * section_count s) ⊎ (length s ≡ 4 + 18 * section_count s) → Size s → length s ≡ 4 + entry_size s * section_count s
    by_size total (old e z) = rw z e
    by_size (inl e) (new other z) = absurd (other e)
    by_size (inr e) (new other z) = rw z e

-- where the numbers of a section stand
sections-length : (e m : ℕ) (s : List ℕ) → length (sections_from e m s) ≡ m
sections-length e zero s = refl
sections-length e (suc m) s = ap suc (sections-length e m (drop e s))

pub sections_count : (s : List ℕ) → length (sections s) ≡ section_count s
sections_count s = sections-length (entry_size s) (section_count s) (drop 4 s)

-- the sections from i on, of which x is the first
pub from_section : (xs : List Section) (i : ℕ) {x : Section} → i < length xs → x ≡ nth_s xs i → drop i xs ≡ x ∷ drop (i + 1) xs
from_section xs i h is = drop-cons xs i no_section h ∙ ap₂ ◌∷◌ (sym is) (ap (λ j. drop j xs) (sym (add-one i)))

entry_at : (e m : ℕ) (s : List ℕ) (i : ℕ) → i < m → nth_s (sections_from e m s) i ≡ entry_of e (drop (e * i) s)
entry_at e zero s i h = absurd (omega arith)
entry_at e (suc m) s zero h = let start : 0 ≡ e * 0 = omega arith in ap (λ j. entry_of e (drop j s)) start
entry_at e (suc m) s (suc i) h =
    let at : e + e * i ≡ e * suc i = omega arith in
    entry_at e m (drop e s) i (omega arith) ∙ ap (entry_of e) (drop-drop (e * i) e s ∙ ap (λ j. drop j s) at)

be-drop : (i n j : ℕ) (s : List ℕ) → be i n (drop j s) ≡ be (j + i) n s
be-drop i n j s = ap (λ x. be_from 0 (take n x)) (drop-drop i j s)

pub entry : (s : List ℕ) (i : ℕ) → i < section_count s
    → let x = nth_s (sections s) i in
    let at = 4 + entry_size s * i in
    (x.offset ≡ be at 8 s) × (x.long ≡ be (at + 8) 8 s) × (x.rail ≡ be (at + 16) (entry_size s - 16) s)
entry s i h =
    let e = entry_size s in
    let is : nth_s (sections s) i ≡ entry_of e (drop (4 + e * i) s) = entry_at e (section_count s) (drop 4 s) i h ∙ ap (entry_of e) (drop-drop (e * i) 4 s) in
    (ap (λ x. x.offset) is, ap (λ x. x.long) is ∙ be-drop 8 8 (4 + e * i) s, ap (λ x. x.rail) is ∙ be-drop 16 (e - 16) (4 + e * i) s)

-- the rail that is answered
pub own_rail : (s : List ℕ) (i : ℕ) → entry_size s ≡ 16 → rail_of s i ≡ i
own_rail s i size = rw (eq-eqb (entry_size s) 16 size)

pub written_rail : (s : List ℕ) (i : ℕ) → entry_size s ≡ 18 → i < section_count s → rail_of s i ≡ be (4 + 18 * i + 16) 2 s
written_rail s i size h =
    ap (λ e. pick (eqb e 16) i (nth_s (sections s) i).rail) size ∙ (entry s i h).2 ∙ ap (λ e. be (4 + e * i + 16) (e - 16) s) size

-- in an old record none is written
no_rail : (s : List ℕ) (i : ℕ) → entry_size s ≡ 16 → i < section_count s → (nth_s (sections s) i).rail ≡ 0
no_rail s i size h = (entry s i h).2 ∙ ap (λ e. be (4 + e * i + 16) (e - 16) s) size

-- lists of sections that differ in rails only
pub data Same : List Section → List Section → Type 0 where
  none : Same [] []
  more : {x y : Section} {xs ys : List Section} → (x.offset ≡ y.offset) × (x.long ≡ y.long) → Same xs ys → Same (x ∷ xs) (y ∷ ys)

same_all : (xs ys : List Section) → length xs ≡ length ys
    → ((i : ℕ) → i < length xs → ((nth_s xs i).offset ≡ (nth_s ys i).offset) × ((nth_s xs i).long ≡ (nth_s ys i).long)) → Same xs ys
same_all [] [] l each = none
same_all [] (y ∷ ys) l each = absurd (omega arith)
same_all (x ∷ xs) [] l each = absurd (omega arith)
same_all (x ∷ xs) (y ∷ ys) l each = more (each 0 (omega arith)) (same_all xs ys (omega arith) (λ i h. each (suc i) (omega arith)))

same_straight : (n top end : ℕ) {xs ys : List Section} → Same xs ys → straight_from n top end xs ≡ straight_from n top end ys
same_straight n top end none = refl
same_straight n top end (more {x = x} {y = y} (offset, long) rest) = rw (offset, long) (rw (same_straight n top (y.offset + y.long) rest))

pub alike_sections : {s r : List ℕ} → Alike s r → Same (sections s) (sections r)
alike_sections {s} {r} a =
    same_all (sections s) (sections r) (sections_count s ∙ a.count_same ∙ sym (sections_count r)) (λ i h. a.each_same i (omega (arith, sections_count s)))

pub alike_fault : (s r : List ℕ) → Alike s r → plan_fault s ≡ plan_fault r
alike_fault s r a =
    let (s-whole, r-whole) = a.whole in
    let (letters, long) = a.strip_same in
    rw (s-whole, r-whole, same_straight (marks s) (shades s ^ marks s) 0 (alike_sections a), letters, long)

-- a total that is both is counted once
both : (b : Bool) → (b || b) ≡ b
both true = refl
both false = refl

pub records : Records
records =
    record {
      taken = λ s. (
        whole-total s,
        λ (few, total).
            let fits : (fits_entries 16 s || fits_entries 18 s) ≡ true = elim total [ inl e ↦ rw (eq-eqb (length s) (4 + 16 * section_count s) e) | inr e ↦ or_right (fits_entries 16 s) _ (eq-eqb _ _ e) ] in
            let head : 4 ≤ length s = elim total [ inl e ↦ omega arith | inr e ↦ omega arith ] in
            rw (le-ltb (length s) 4 head, le-ltb 500 (section_count s) few, fits),
      );
      old_reader = λ s rest long some.
          let other = ne_eqb (length s) (4 + 16 * section_count s) (λ e. omega arith) in
          rw (or_right (ltb (length s) 4) _ (or_right (ltb 500 (section_count s)) _ (ap not other)));
      old_record = λ s h.
          let (head, few, is) = tests s (fits_entries 16 s) h in
          (rw (head, few, is), elim (size_of_lem s) [ old e z ↦ z | new e z ↦ absurd (e (eqb-true _ _ is)) ]);
      new_record = λ s h before.
          let (head, few, _) = tests s (fits_entries 16 s || fits_entries 18 s) h in
          elim (size_of_lem s) [
            | old e z ↦ let still : torn_before s ≡ false = rw (head, few, eq-eqb (length s) (4 + 16 * section_count s) e) in absurd (true≢false (sym before ∙ still))
            | new e z ↦ let long : length s ≡ 4 + 18 * section_count s = (whole s h).long ∙ ap (λ m. 4 + m * section_count s) z in (long, omega arith, z)
          ];
      no_sections = λ s none. rw (none, both (eqb (length s) 4));
      entry = entry;
      own_rail = own_rail;
      written_rail = written_rail;
      old_welds = λ s i j size h g. rw (no_rail s i size h, no_rail s j size g) (and_true _);
      alike_fault = alike_fault;
    }
